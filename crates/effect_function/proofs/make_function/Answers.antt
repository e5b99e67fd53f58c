-- `effect_function::make_function` meets its contract: one law for each of its two ways. Assumes nothing.
use Rattle.laws_monad.proofs.Laws.Answers.{passes}
use Rattle.effect_captures.proofs.Laws.NewFunction.{function_refused, function_made}
use Rattle.effect_function.proofs.make_function.Goals as goal

pub returns-in_err-begin-clause-does : goal.returns-in_err-begin-clause-does
returns-in_err-begin-clause-does c = rw (passes _ _ c.from_residual.ensures.1) (λ again. function_refused _ _ _ again _ _ _ c.in_err-begin.ensures.does)

pub returns-clause-does : goal.returns-clause-does
returns-clause-does c =
    λ again. function_made _ _ _ again _ _ c.in_ok-begin.ensures.does _ _ _ _ _ _ _ _ c.emit.ensures.does c.any_written-written.ensures c.has_tracked_side_effect-tracked.ensures c.any_ref.ensures c.function_kind-kind.ensures c.update_context.ensures.does c.link_function.ensures.does
