use mathlib.Core.Path.{◌≡◌}
use Rattle.lent_tables.specs.Words.{put_field}
use Rattle.lent_layout.specs.Layout as Lent
use Rattle.def_image.specs.Layout.{cell, identifiers}
use Rattle.image_decode.specs.Decoded.{after}
use Rattle.image_decode.proofs.decode_identifier.Given as goal

abbrev pub invariant-loop-j : goal.invariant-loop-j
invariant-loop-j l = l.identifiers ≡ after (λ j c. put_field Lent.identifiers c l.k j (cell l.im identifiers l.k j)) l.j l.initial.identifiers
