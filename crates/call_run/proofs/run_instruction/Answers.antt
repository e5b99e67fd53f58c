-- `call_run::run_instruction` meets its contract: one law for each of its three ways. Assumes nothing.
use Rattle.laws_monad.proofs.Laws.Answers.{passes}
use Rattle.call_parts.proofs.Laws.Instruction.{run_early, run_stops, run_ends}
use Rattle.call_run.proofs.run_instruction.Goals as goal

pub returns-in_err-early_errors-clause-does : goal.returns-in_err-early_errors-clause-does
returns-in_err-early_errors-clause-does c =
    rw (passes _ _ c.from_residual.ensures.1) (run_early _ _ _ _ _ _ _ c.in_err-early_errors.ensures.does)

pub returns-in_err-candidates_in_order-clause-does : goal.returns-in_err-candidates_in_order-clause-does
returns-in_err-candidates_in_order-clause-does c =
    rw (passes _ _ c.from_residual-in_err-candidates_in_order.ensures.1) (run_stops _ _ _ _ _ _ c.in_ok-early_errors.ensures.does _ _ c.in_err-candidates_in_order.ensures.does)

pub returns-clause-does : goal.returns-clause-does
returns-clause-does c = run_ends _ _ _ _ _ _ c.in_ok-early_errors.ensures.does _ _ _ c.in_ok-candidates_in_order.ensures.does c.define_lvalue.ensures.does c.keep_entries.ensures.does
