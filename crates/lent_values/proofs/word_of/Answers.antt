use native.Mathlib.Omega.{arith}
use mathlib.Core.Path.{ap}
use Prim.Native.Nat.{ℕ, ◌+◌, ◌*◌}
use Rattle.def_kinds.proofs.Laws.Kinds.{code_lt}
use Rattle.lent_values.specs.Cells.{word_of}
use Rattle.lent_values.proofs.word_of.Goals as goal

pub overflow_add-result : goal.overflow_add-result
overflow_add-result c = omega (arith, code_lt c.args.a.kind)

pub overflow_add-result-2 : goal.overflow_add-result-2
overflow_add-result-2 c = omega (arith, code_lt c.args.a.kind)

pub returns : goal.returns
unfolding word_of
returns c = ap (λ (n : ℕ). c.args.a.reason * 8 + n + 1) c.code.ensures
