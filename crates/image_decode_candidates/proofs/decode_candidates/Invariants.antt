use mathlib.Core.Path.{◌≡◌}
use Rattle.image_decode.specs.Decoded.{after, decoded_candidate}
use Rattle.image_decode_candidates.proofs.decode_candidates.Given as goal

abbrev pub invariant-loop-k : goal.invariant-loop-k
invariant-loop-k l = l.xs ≡ after (decoded_candidate l.im) l.k l.initial.xs
