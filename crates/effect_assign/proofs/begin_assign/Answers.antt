-- `effect_assign::begin_assign` meets its contract: one law for each of its two ways, in its own world and beside any other lists. Assumes nothing.
use Rattle.laws_monad.proofs.Laws.Answers.{passes}
use Rattle.effect_parts.proofs.Laws.Elsewhere.{alike, begin_alike, kind_alike}
use Rattle.effect_create.proofs.Laws.Creation.{assign_refused, assign_begun}
use Rattle.effect_assign.proofs.begin_assign.Goals as goal

pub returns-in_err-begin-clause-does : goal.returns-in_err-begin-clause-does
returns-in_err-begin-clause-does c = rw (passes _ _ c.from_residual.ensures.1) (λ again. assign_refused _ _ _ again _ _ c.in_err-begin.ensures.does)

pub returns-clause-does : goal.returns-clause-does
returns-clause-does c =
    λ again. assign_begun _ _ _ again _ c.in_ok-begin.ensures.does _ _ c.kind_with_span.ensures.does

pub returns-in_err-begin-clause-elsewhere : goal.returns-in_err-begin-clause-elsewhere
returns-in_err-begin-clause-elsewhere c =
    rw (passes _ _ c.from_residual.ensures.1) (λ again o os. assign_refused _ _ _ again _ _ (alike _ _ (begin_alike (λ _. o) os _) _ _ c.in_err-begin.ensures.does))

pub returns-clause-elsewhere : goal.returns-clause-elsewhere
returns-clause-elsewhere c =
    λ again o os. assign_begun _ _ _ again _ (alike _ _ (begin_alike (λ _. o) os _) _ _ c.in_ok-begin.ensures.does) _ _ (alike _ _ (kind_alike (λ _. o) os _ _) _ _ c.kind_with_span.ensures.does)
