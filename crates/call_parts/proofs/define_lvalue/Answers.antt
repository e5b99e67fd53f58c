-- `call_parts::define_lvalue` meets its contract: one law for each of its two ends. Assumes nothing.
use mathlib.Core.Path.{refl}
use Rattle.call_parts.proofs.Laws.Instruction.{lvalue_stays, lvalue_own}
use Rattle.call_parts.proofs.define_lvalue.Goals as goal

pub returns-then-is_defined-clause-does : goal.returns-then-is_defined-clause-does
returns-then-is_defined-clause-does c = lvalue_stays _ _ _ _ _ _ _ c.is_defined.ensures c.if-is_defined.true

pub returns-clause-does : goal.returns-clause-does
returns-clause-does c =
    lvalue_own _ _ _ _ _ _ _ c.is_defined.ensures _ _ _ _ c.if-is_defined.false refl refl c.put_value.ensures c.define_own.ensures
