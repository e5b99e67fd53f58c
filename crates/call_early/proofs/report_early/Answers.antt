-- `call_early::report_early` meets its contract: one law for each of its four ways. Assumes nothing.
use Rattle.laws_monad.proofs.Laws.Answers.{passes}
use Rattle.call_parts.proofs.Laws.Instruction.{report_undefined, report_other, report_refused, report_lists}
use Rattle.call_early.proofs.report_early.Goals as goal

pub returns-then-not-is_defined-clause-does : goal.returns-then-not-is_defined-clause-does
returns-then-not-is_defined-clause-does c = report_undefined _ _ _ c.is_defined.ensures c.if-not-is_defined.true

pub returns-then-not-is_frozen-clause-does : goal.returns-then-not-is_frozen-clause-does
returns-then-not-is_frozen-clause-does c =
    report_other _ _ _ c.is_defined.ensures c.if-not-is_defined.false _ c.kind_of-a.ensures _ c.is_frozen.ensures c.if-not-is_frozen.true

pub returns-in_err-error-clause-does : goal.returns-in_err-error-clause-does
returns-in_err-error-clause-does c =
    rw (passes _ _ c.from_residual.ensures.1) (report_refused _ _ _ c.is_defined.ensures c.if-not-is_defined.false _ c.kind_of-a.ensures _ c.is_frozen.ensures c.if-not-is_frozen.false _ c.name_of-name.ensures _ c.modified_diagnostic.ensures _ _ c.in_err-error.ensures.does)

pub returns-clause-does : goal.returns-clause-does
returns-clause-does c =
    report_lists _ _ _ c.is_defined.ensures c.if-not-is_defined.false _ c.kind_of-a.ensures _ c.is_frozen.ensures c.if-not-is_frozen.false _ c.name_of-name.ensures _ c.modified_diagnostic.ensures _ _ c.in_ok-error.ensures.does _ _ c.emit.ensures.does
