-- `image_read::fill_context` meets its contract: cleared, then written. Assumes nothing.
use mathlib.Core.Path.{ap, ◌∙◌}
use Rattle.image_decode.specs.Decoded.{decoded_context}
use Rattle.image_read.proofs.fill_context.Goals as goal

pub returns-clause-does : goal.returns-clause-does
returns-clause-does c = c.decode_context.ensures.does ∙ ap (decoded_context _) c.empty_context.ensures.does
