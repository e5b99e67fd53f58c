use mathlib.Core.Path.{◌≡◌}
use Prim.Native.Nat.{◌-◌}
use lib.ListN.{length}
use lib.Bits.{bit_or}
use Rattle.lent_sets.specs.Rows.{number, put_word, put_set, upto}
use Rattle.lent_set_writes.proofs.put_set.Given as goal

abbrev pub invariant-loop-w : goal.invariant-loop-w
invariant-loop-w l = (length l.rows ≡ length l.initial.rows) × (put_set l.initial.rows l.i (number 16 l.acc 0) ≡ upto (put_word l.i (bit_or (number 16 l.acc 0) 1)) (16 - l.w) l.w l.rows)
