-- `image_run::settle` meets its contract: nothing is cleared, or everything. Assumes nothing.
use mathlib.Core.Path.{ap, sym, ◌∙◌}
use Rattle.lent_copies.proofs.Laws.Copy.{cleared}
use Rattle.image_pieces.specs.Pieces.{Answer, answer_told}
use Rattle.image_outcome.proofs.Laws.Inferring.{settled_same, settled_zero}
use Rattle.image_run.proofs.settle.Goals as goal

pub returns-in-Ok : goal.returns-in-Ok
returns-in-Ok g c = settled_same _ _ _ _ (ap (λ (x : Answer). x.refusal) (sym c.told.ensures ∙ ap answer_told c.in-Ok.is))

-- a refusal by the number 0 is none
pub returns-else-n-ne0 : goal.returns-else-n-ne0
returns-else-n-ne0 g c = settled_same _ _ _ _ (ap (λ (x : Answer). x.refusal) (sym c.told.ensures ∙ ap answer_told c.in-Err.is) ∙ c.if-n-ne0.false)

pub returns-then-n-ne0 : goal.returns-then-n-ne0
returns-then-n-ne0 g c =
    settled_zero _ _ _ _ _ _ _
    (λ z. c.if-n-ne0.true (ap (λ (x : Answer). x.refusal) (sym (ap answer_told c.in-Err.is) ∙ c.told.ensures) ∙ z))
    (cleared _ _ (c.fill.ensures.after (λ y h. h))) (cleared _ _ (c.fill-then-n-ne0.ensures.after (λ y h. h))) (cleared _ _ (c.fill-then-n-ne0-2.ensures.after (λ y h. h)))
