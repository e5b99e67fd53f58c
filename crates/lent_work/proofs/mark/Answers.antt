use Rattle.std.proofs.Common.{refl}
use Rattle.lent_work.proofs.Laws.Mark.{marked_past, mark_in}
use Rattle.lent_sets.proofs.Laws.Bit.{one_shl}
use native.Mathlib.Nat.{mod-lt, zero-lt-suc}
use Rattle.lent_work.proofs.mark.Goals as goal

pub returns-then-i-ge512 : goal.returns-then-i-ge512
returns-then-i-ge512 c = marked_past _ _ c.if-i-ge512.true

pub returns : goal.returns
returns c = mark_in _ _ _ _ c.if-i-ge512.false refl (one_shl _ (mod-lt _ (zero-lt-suc 63)))
