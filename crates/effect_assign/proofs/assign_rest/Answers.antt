-- `effect_assign::assign_rest` meets its contract: one law for each of its two ways. Assumes nothing.
use Rattle.std.proofs.Common.{◌∙◌}
use Rattle.effect_create.proofs.Laws.Creation.{assigned_copied, assigned_listed, assign_is}
use Rattle.effect_assign.proofs.assign_rest.Goals as goal

pub returns-then-is_copied-clause-does : goal.returns-then-is_copied-clause-does
returns-then-is_copied-clause-does c =
    assigned_copied _ _ _ _ _ c.is_copied.ensures c.if-is_copied.true ∙ c.number_and_create.ensures.does

pub returns-clause-does : goal.returns-clause-does
returns-clause-does c =
    assigned_listed _ _ _ _ _ c.is_copied.ensures _ _ _ c.if-is_copied.false (assign_is _ _ _ _ _ _ _ _ _ c.assign.ensures.0 c.assign.ensures.1) c.emit.ensures.does
