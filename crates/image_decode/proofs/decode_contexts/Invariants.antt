use mathlib.Core.Path.{◌≡◌}
use Rattle.image_decode.specs.Decoded.{after, decoded_places}
use Rattle.image_decode.proofs.decode_contexts.Given as goal

abbrev pub invariant-loop-k : goal.invariant-loop-k
invariant-loop-k l = l.contexts ≡ after (decoded_places l.im) l.k l.initial.contexts
