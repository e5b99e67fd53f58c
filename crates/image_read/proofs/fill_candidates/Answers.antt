-- `image_read::fill_candidates` meets its contract: cleared, then written. Assumes nothing.
use mathlib.Core.Path.{ap, ◌∙◌}
use Rattle.lent_copies.proofs.Laws.Copy.{cleared}
use Rattle.image_decode.specs.Decoded.{decoded_candidates}
use Rattle.image_read.proofs.fill_candidates.Goals as goal

pub returns : goal.returns
returns c = c.decode_candidates.ensures ∙ ap (decoded_candidates _ _) (cleared _ _ (c.fill.ensures.after (λ y h. h)))
