-- `lent_sets::add_value` meets its contract: 2 ^ v has one word with a bit, and none below 1,024 where v is past 1,023. Assumes nothing.
use mathlib.Core.Path.{ap, ◌∙◌}
use native.Mathlib.Omega.{arith}
use lib.ListN.{get_or, set}
use lib.Bits.{bit_or}
use Prim.Native.Nat.{ℕ, ◌%◌, ◌/◌}
use Rattle.lent_sets.proofs.Laws.Bit.{one_shl}
use Rattle.lent_sets.proofs.Laws.Code.{value_in, value_past}
use Rattle.lent_sets.proofs.add_value.Goals as goal

pub returns-then-v-lt1024 : goal.returns-then-v-lt1024
returns-then-v-lt1024 c =
    let a = c.args in
    c.or_word.ensures ∙ ap (λ (x : ℕ). set a.acc.now (a.v / 64) (bit_or (get_or a.acc.now (a.v / 64) 0) x)) (one_shl (a.v % 64) (omega arith)) ∙ value_in a.acc.now a.v c.if-v-lt1024.true

pub returns-else-v-lt1024 : goal.returns-else-v-lt1024
returns-else-v-lt1024 c = value_past c.args.acc.now c.args.v c.if-v-lt1024.false
