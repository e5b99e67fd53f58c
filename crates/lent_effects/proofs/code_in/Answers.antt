-- `lent_effects::code_in` meets its contract: 12 and what is past 17 read as Render. Assumes nothing.
use native.Mathlib.Omega.{arith}
use Rattle.lent_effects.proofs.Laws.Head.{code_past, code_apply, code_known}
use Rattle.lent_effects.proofs.code_in.Goals as goal

pub returns-then-code-gt17 : goal.returns-then-code-gt17
returns-then-code-gt17 c = code_past _ _ _ _ c.field-code.ensures (omega arith)

pub returns-then-code-eq12 : goal.returns-then-code-eq12
returns-then-code-eq12 c = code_apply _ _ _ _ c.field-code.ensures c.if-code-eq12.true

pub returns : goal.returns
returns c = code_known _ _ _ _ c.field-code.ensures (omega arith) c.if-code-eq12.false
