use mathlib.Core.Path.{◌≡◌}
use Rattle.image_decode.specs.Decoded.{after, decoded_pair}
use Rattle.image_decode.proofs.decode_sets.Given as goal

abbrev pub invariant-loop-k : goal.invariant-loop-k
invariant-loop-k l = l.sets ≡ after (decoded_pair l.im) l.k l.initial.sets
