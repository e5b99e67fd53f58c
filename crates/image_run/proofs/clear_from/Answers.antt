-- `image_run::clear_from` meets its contract: what stands before is kept, the rest is cleared. Assumes nothing.
use Rattle.lent_copies.proofs.Laws.Copy.{cleared}
use Rattle.image_outcome.proofs.Laws.Inferring.{part_cleared}
use native.Mathlib.Omega.{arith}
use Rattle.image_run.proofs.clear_from.Goals as goal

pub returns-else-m-xs : goal.returns-else-m-xs
returns-else-m-xs c = λ h. absurd (omega arith)

pub returns-then-m-xs : goal.returns-then-m-xs
returns-then-m-xs c = λ h. part_cleared _ _ _ h (cleared _ _ (c.fill.ensures.after (λ y h. h)))
