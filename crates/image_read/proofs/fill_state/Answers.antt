-- `image_read::fill_state` meets its contract: each table cleared, then written. Assumes nothing.
use mathlib.Core.Path.{ap, ◌∙◌}
use Rattle.lent_copies.proofs.Laws.Copy.{cleared}
use Rattle.image_decode.specs.Decoded.{decoded_values, decoded_sets}
use Rattle.image_read.proofs.fill_state.Goals as goal

pub returns : goal.returns
returns c =
    (c.decode_values.ensures ∙ ap (decoded_values _ _) (cleared _ _ (c.fill.ensures.after (λ y h. h))), c.decode_sets.ensures ∙ ap (decoded_sets _ _) (cleared _ _ (c.fill-2.ensures.after (λ y h. h))))
