-- `call_early::early_errors` meets its contract: one law for each of its two ways. Assumes nothing.
use mathlib.Core.Path.{refl}
use Rattle.call_parts.proofs.Laws.Instruction.{own_none, own_some}
use Rattle.call_early.proofs.early_errors.Goals as goal

pub returns-then-own-eq0-clause-does : goal.returns-then-own-eq0-clause-does
returns-then-own-eq0-clause-does c = own_none _ _ c.if-own-eq0.true

pub returns-clause-does : goal.returns-clause-does
returns-clause-does c = own_some _ _ _ _ _ _ c.if-own-eq0.false refl refl c.copy_inside.ensures c.early_all.ensures.does
