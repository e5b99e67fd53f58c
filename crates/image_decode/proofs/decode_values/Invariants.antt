use mathlib.Core.Path.{◌≡◌}
use Rattle.image_decode.specs.Decoded.{after, decoded_value}
use Rattle.image_decode.proofs.decode_values.Given as goal

abbrev pub invariant-loop-k : goal.invariant-loop-k
invariant-loop-k l = l.values ≡ after (decoded_value l.im) l.k l.initial.values
