use mathlib.Core.Path.{◌≡◌}
use Prim.Native.Nat.{◌-◌}
use Rattle.image_text.specs.Texts.{cursor_of, Kept, put_all}
use Rattle.def_image.specs.Listing.{lines_from}
use Rattle.image_pieces.specs.Pieces.{effect_line}
use Rattle.image_listing.proofs.put_effects.Given as goal

abbrev pub invariant-loop-k : goal.invariant-loop-k
invariant-loop-k l = Kept l.initial.text l.text × (put_all (lines_from (l.to - l.k) l.k (effect_line l.output l.count)) (cursor_of l.text) ≡ put_all (lines_from (l.to - l.initial.k) l.initial.k (effect_line l.output l.count)) (cursor_of l.initial.text))
