use mathlib.Core.Path.{◌≡◌}
use Prim.Native.Nat.{◌-◌}
use lib.ListN.{length}
use Rattle.lent_sets.specs.Rows.{upto, or_word, add_set, even_row}
use Rattle.lent_set_writes.proofs.add_words.Given as goal

abbrev pub invariant-loop-w : goal.invariant-loop-w
invariant-loop-w l = (length l.acc ≡ length l.initial.acc) × (add_set l.initial.acc (even_row l.rows l.i) ≡ upto (or_word (even_row l.rows l.i)) (16 - l.w) l.w l.acc)
