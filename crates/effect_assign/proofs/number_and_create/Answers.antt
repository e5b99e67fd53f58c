-- `effect_assign::number_and_create` meets its contract: one law for each of its two ways. Assumes nothing.
use Rattle.std.proofs.Common.{◌∙◌}
use Rattle.laws_monad.proofs.Laws.Answers.{passes}
use Rattle.effect_create.proofs.Laws.Creation.{numbered_full, numbered_done}
use Rattle.effect_assign.proofs.number_and_create.Goals as goal

pub returns-in_err-number-clause-does : goal.returns-in_err-number-clause-does
returns-in_err-number-clause-does c =
    rw (passes _ _ c.from_residual.ensures.1) (numbered_full _ _ _ _ _ _ (c.new.ensures ∙ c.two_key.ensures _) _ _ c.in_err-number.ensures.does)

pub returns-clause-does : goal.returns-clause-does
returns-clause-does c =
    numbered_done _ _ _ _ _ _ (c.new.ensures ∙ c.two_key.ensures _) _ _ _ c.in_ok-number.ensures.does c.create.ensures.does
