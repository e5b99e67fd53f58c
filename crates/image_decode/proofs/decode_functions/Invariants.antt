use mathlib.Core.Path.{◌≡◌}
use Rattle.image_decode.specs.Decoded.{after, decoded_function}
use Rattle.image_decode.proofs.decode_functions.Given as goal

abbrev pub invariant-loop-k : goal.invariant-loop-k
invariant-loop-k l = l.functions ≡ after (decoded_function l.im) l.k l.initial.functions
