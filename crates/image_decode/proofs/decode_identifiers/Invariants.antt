use mathlib.Core.Path.{◌≡◌}
use Rattle.image_decode.specs.Decoded.{after, decoded_identifier}
use Rattle.image_decode.proofs.decode_identifiers.Given as goal

abbrev pub invariant-loop-k : goal.invariant-loop-k
invariant-loop-k l = l.identifiers ≡ after (decoded_identifier l.im) l.k l.initial.identifiers
