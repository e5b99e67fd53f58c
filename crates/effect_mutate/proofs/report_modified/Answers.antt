use Rattle.laws_monad.proofs.Laws.Answers.{passes}
use Rattle.effect_reports.proofs.Laws.Mutation.{modified_refused, modified_frozen, modified_global}
use Rattle.effect_parts.proofs.Laws.Elsewhere.{alike}
use Rattle.effect_mutate.proofs.Laws.Elsewhere.{intern_alike}
use Rattle.effect_mutate.proofs.report_modified.Goals as goal

pub returns-in_err-error-clause-does : goal.returns-in_err-error-clause-does
returns-in_err-error-clause-does c =
    rw (passes _ _ c.from_residual.ensures.1) (λ again e cs. modified_refused again _ _ _ _ c.name_of-name.ensures _ c.modified_diagnostic.ensures _ _ c.in_err-error.ensures.does)

pub returns-then-is_frozen-clause-does : goal.returns-then-is_frozen-clause-does
returns-then-is_frozen-clause-does c =
    λ again e cs. modified_frozen again _ _ _ _ c.name_of-name.ensures _ c.modified_diagnostic.ensures _ _ c.in_ok-error.ensures.does _ c.is_frozen.ensures e cs c.if-is_frozen.true

pub returns-clause-does : goal.returns-clause-does
returns-clause-does c =
    λ again e cs. modified_global again _ _ _ _ c.name_of-name.ensures _ c.modified_diagnostic.ensures _ _ c.in_ok-error.ensures.does _ c.is_frozen.ensures e cs c.if-is_frozen.false

pub returns-in_err-error-clause-elsewhere : goal.returns-in_err-error-clause-elsewhere
returns-in_err-error-clause-elsewhere c =
    rw (passes _ _ c.from_residual.ensures.1) (λ again e cs vs ss os. modified_refused again _ _ _ _ c.name_of-name.ensures _ c.modified_diagnostic.ensures _ _ (alike _ _ (intern_alike vs ss os _) _ _ c.in_err-error.ensures.does))

pub returns-then-is_frozen-clause-elsewhere : goal.returns-then-is_frozen-clause-elsewhere
returns-then-is_frozen-clause-elsewhere c =
    λ again e cs vs ss os. modified_frozen again _ _ _ _ c.name_of-name.ensures _ c.modified_diagnostic.ensures _ _ (alike _ _ (intern_alike vs ss os _) _ _ c.in_ok-error.ensures.does) _ c.is_frozen.ensures e cs c.if-is_frozen.true

pub returns-clause-elsewhere : goal.returns-clause-elsewhere
returns-clause-elsewhere c =
    λ again e cs vs ss os. modified_global again _ _ _ _ c.name_of-name.ensures _ c.modified_diagnostic.ensures _ _ (alike _ _ (intern_alike vs ss os _) _ _ c.in_ok-error.ensures.does) _ c.is_frozen.ensures e cs c.if-is_frozen.false
