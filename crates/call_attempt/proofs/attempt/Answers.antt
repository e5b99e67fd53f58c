-- `call_attempt::attempt` meets its contract: what the world's slices hold at the end the host finds. Assumes nothing.
use Rattle.std.proofs.Common.{rules}
use Rattle.def_refusals.proofs.Laws.Verdicts.{number_some}
use Rattle.laws_monad.proofs.Laws.Answers.{passes}
use Rattle.call_outcome.proofs.Laws.Attempt.{found_ok, found_refused}
use Rattle.call_attempt.proofs.attempt.Goals as goal

pub returns-clause-does : goal.returns-clause-does
returns-clause-does c =
    λ ready. found_ok _ _ _ _ _ _ _ _ c.start_run-run.ensures _ _ _ _ _ _ _ _ (search rules) (search rules) (search rules) (search rules) (c.in_ok-run_or_undo.ensures.does _ _ c.start_run-run.ensures ready)

pub returns-in_err-run_or_undo-clause-does : goal.returns-in_err-run_or_undo-clause-does
returns-in_err-run_or_undo-clause-does c =
    rw (passes _ _ c.from_residual.ensures.1)
    (λ ready. found_refused _ _ _ _ _ _ _ _ c.start_run-run.ensures _ _ _ _ _ _ _ _ (search rules) (search rules) (search rules) (search rules) _ (number_some _) c.in_err-run_or_undo.ensures.back (c.in_err-run_or_undo.ensures.does _ _ c.start_run-run.ensures ready))
