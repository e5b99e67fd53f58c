-- `effect_function::link_function` meets its contract: one law for each of its two ways. Assumes nothing.
use Rattle.std.proofs.Common.{◌∙◌}
use Rattle.laws_monad.proofs.Laws.Answers.{passes}
use Rattle.effect_captures.proofs.Laws.NewFunction.{linked_full, linked_done}
use Rattle.effect_function.proofs.link_function.Goals as goal

pub returns-in_err-number-clause-does : goal.returns-in_err-number-clause-does
returns-in_err-number-clause-does c = rw (passes _ _ c.from_residual.ensures.1) (linked_full _ _ _ _ _ (c.new.ensures ∙ c.key_of-key.ensures _) _ _ _ c.in_err-number.ensures.does)

pub returns-clause-does : goal.returns-clause-does
returns-clause-does c =
    linked_done _ _ _ _ _ (c.new.ensures ∙ c.key_of-key.ensures _) _ _ _ _ _ _ _ _ _ c.in_ok-number.ensures.does c.put_link.ensures.does c.create.ensures.does
