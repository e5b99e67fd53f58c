use Rattle.std.proofs.Common.{◌≡◌, length, drop}
use Rattle.lent_sets.specs.Rows.{number}
use Rattle.state_ops.specs.Lists.{unions}
use Rattle.state_assign.proofs.infer_phi.Given as goal

abbrev pub invariant-loop-i : goal.invariant-loop-i
invariant-loop-i l = (length l.acc ≡ 16) × (unions l.sets (drop l.i-index l.operands) (number 16 l.acc 0) ≡ unions l.sets l.operands 0)
