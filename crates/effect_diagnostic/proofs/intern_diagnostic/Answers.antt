use Rattle.laws_monad.proofs.Laws.Answers.{passes}
use Rattle.effect_diagnostic.proofs.Laws.Reporting.{intern_first, intern_second, intern_both}
use Rattle.effect_diagnostic.proofs.intern_diagnostic.Goals as goal

pub returns-in_err-identity-clause-does : goal.returns-in_err-identity-clause-does
returns-in_err-identity-clause-does c = rw (passes _ _ c.from_residual.ensures.1) (intern_first _ _ _ c.in_err-identity.ensures)

pub returns-in_err-instance-clause-does : goal.returns-in_err-instance-clause-does
returns-in_err-instance-clause-does c = rw (passes _ _ c.from_residual-in_err-instance.ensures.1) (intern_second _ _ _ c.in_ok-identity.ensures _ _ c.in_err-instance.ensures.does)

pub returns-clause-does : goal.returns-clause-does
returns-clause-does c = intern_both _ _ _ c.in_ok-identity.ensures _ _ c.in_ok-instance.ensures.does
