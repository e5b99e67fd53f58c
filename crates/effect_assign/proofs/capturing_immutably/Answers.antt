-- `effect_assign::capturing_immutably` meets its contract: one law for each of its two ways. Assumes nothing.
use Rattle.effect_create.proofs.Laws.Creation.{capturing_copied, capturing_listed}
use Rattle.effect_assign.proofs.capturing_immutably.Goals as goal

pub returns-then-is_copied-clause-does : goal.returns-then-is_copied-clause-does
returns-then-is_copied-clause-does c = λ again. capturing_copied _ _ _ _ _ again _ c.kind-a.ensures.does c.is_copied.ensures c.if-is_copied.true

pub returns-clause-does : goal.returns-clause-does
returns-clause-does c =
    λ again. capturing_listed _ _ _ _ _ again _ c.kind-a.ensures.does c.is_copied.ensures _ _ c.if-is_copied.false c.emit.ensures.does
