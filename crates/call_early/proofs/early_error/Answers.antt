-- `call_early::early_error` meets its contract: one law for each of its two ways. Assumes nothing.
use Rattle.call_parts.proofs.Laws.Instruction.{early_far, early_near}
use Rattle.call_early.proofs.early_error.Goals as goal

pub returns-then-not-is_near-clause-does : goal.returns-then-not-is_near-clause-does
returns-then-not-is_near-clause-does c = early_far _ _ _ _ c.is_near.ensures c.if-not-is_near.true

pub returns-clause-does : goal.returns-clause-does
returns-clause-does c = early_near _ _ _ _ c.is_near.ensures _ c.if-not-is_near.false c.report_early.ensures.does
