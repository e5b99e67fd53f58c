-- `effect_create::create_from` meets its contract: one law for each of its three ways. Assumes nothing.
use Rattle.std.proofs.Common.{◌∙◌}
use Rattle.laws_monad.proofs.Laws.Answers.{passes}
use Rattle.effect_create.proofs.Laws.Creation.{from_refused, from_full, from_listed}
use Rattle.effect_create.proofs.create_from.Goals as goal

pub returns-in_err-begin-clause-does : goal.returns-in_err-begin-clause-does
returns-in_err-begin-clause-does c = rw (passes _ _ c.from_residual.ensures.1) (λ again ps. from_refused _ _ _ again _ _ c.in_err-begin.ensures.does)

pub returns-in_err-number-clause-does : goal.returns-in_err-number-clause-does
returns-in_err-number-clause-does c =
    rw (passes _ _ c.from_residual-in_err-number.ensures.1) (λ again ps. from_full _ _ _ again _ c.in_ok-begin.ensures.does _ _ c.kind-a.ensures.does _ (c.new.ensures ∙ c.two_key.ensures _) _ _ c.in_err-number.ensures.does)

pub returns-clause-does : goal.returns-clause-does
returns-clause-does c =
    λ again ps. from_listed _ _ _ again _ c.in_ok-begin.ensures.does _ _ c.kind-a.ensures.does _ (c.new.ensures ∙ c.two_key.ensures _) _ _ _ _ c.in_ok-number.ensures.does c.create.ensures.does (c.list_created.ensures.does again ps)
