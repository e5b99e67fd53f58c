use mathlib.Core.Path.{◌≡◌}
use Prim.Native.Nat.{◌-◌}
use lib.ListN.{length}
use Rattle.lent_sets.specs.Rows.{upto}
use Rattle.state_adds.specs.Lists.{copy_word, copy_words}
use Rattle.state_merge.proofs.copy_words.Given as goal

abbrev pub invariant-loop-k : goal.invariant-loop-k
invariant-loop-k l = (length l.into ≡ length l.initial.into) × (copy_words l.initial.into l.from ≡ upto (copy_word l.from) (length l.from - l.k) l.k l.into)
