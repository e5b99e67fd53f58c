-- `effect_create::creating` meets its contract: one law for each of its three ways. Assumes nothing.
use Rattle.std.proofs.Common.{◌∙◌}
use Rattle.laws_monad.proofs.Laws.Answers.{passes}
use Rattle.effect_create.proofs.Laws.Creation.{creating_refused, creating_full, creating_done}
use Rattle.effect_create.proofs.creating.Goals as goal

pub returns-in_err-begin-clause-does : goal.returns-in_err-begin-clause-does
returns-in_err-begin-clause-does c = rw (passes _ _ c.from_residual.ensures.1) (λ again. creating_refused _ _ _ _ again _ _ c.in_err-begin.ensures.does)

pub returns-in_err-number-clause-does : goal.returns-in_err-number-clause-does
returns-in_err-number-clause-does c =
    rw (passes _ _ c.from_residual-in_err-number.ensures.1) (λ again. creating_full _ _ _ _ again _ c.in_ok-begin.ensures.does _ _ (c.new.ensures ∙ c.key_of.ensures _) _ _ c.in_err-number.ensures.does)

pub returns-clause-does : goal.returns-clause-does
returns-clause-does c =
    λ again. creating_done _ _ _ _ again _ c.in_ok-begin.ensures.does _ _ (c.new.ensures ∙ c.key_of.ensures _) _ _ c.in_ok-number.ensures.does _ _ _ c.single.ensures c.create.ensures.does c.emit.ensures.does
