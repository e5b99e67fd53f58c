use Rattle.laws_monad.proofs.Laws.Answers.{passes}
use Rattle.effect_reports.proofs.Laws.Mutation.{hoisted_refused, hoisted_goes}
use Rattle.effect_parts.proofs.Laws.Elsewhere.{alike}
use Rattle.effect_mutate.proofs.Laws.Elsewhere.{intern_alike}
use Rattle.effect_mutate.proofs.report_hoisted.Goals as goal

pub returns-in_err-error-clause-does : goal.returns-in_err-error-clause-does
returns-in_err-error-clause-does c =
    rw (passes _ _ c.from_residual.ensures.1) (λ again e cs. hoisted_refused again _ _ _ _ c.name_of-name.ensures _ c.access_span-access.ensures c.hoisted_diagnostic.ensures _ _ c.in_err-error.ensures.does)

pub returns-clause-does : goal.returns-clause-does
returns-clause-does c =
    λ again e cs. hoisted_goes again _ _ _ _ c.name_of-name.ensures _ c.access_span-access.ensures c.hoisted_diagnostic.ensures _ _ c.in_ok-error.ensures.does e cs

pub returns-in_err-error-clause-elsewhere : goal.returns-in_err-error-clause-elsewhere
returns-in_err-error-clause-elsewhere c =
    rw (passes _ _ c.from_residual.ensures.1) (λ again e cs vs ss os. hoisted_refused again _ _ _ _ c.name_of-name.ensures _ c.access_span-access.ensures c.hoisted_diagnostic.ensures _ _ (alike _ _ (intern_alike vs ss os _) _ _ c.in_err-error.ensures.does))

pub returns-clause-elsewhere : goal.returns-clause-elsewhere
returns-clause-elsewhere c =
    λ again e cs vs ss os. hoisted_goes again _ _ _ _ c.name_of-name.ensures _ c.access_span-access.ensures c.hoisted_diagnostic.ensures _ _ (alike _ _ (intern_alike vs ss os _) _ _ c.in_ok-error.ensures.does) e cs
