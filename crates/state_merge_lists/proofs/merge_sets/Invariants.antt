use mathlib.Core.Path.{◌≡◌}
use Prim.Native.Nat.{◌-◌}
use lib.ListN.{length}
use Rattle.lent_sets.specs.Rows.{upto}
use Rattle.state_adds.specs.Lists.{merge_set, merge_sets}
use Rattle.state_merge_lists.proofs.merge_sets.Given as goal

abbrev pub invariant-loop-i : goal.invariant-loop-i
invariant-loop-i l = (length l.sets ≡ length l.initial.sets) × (merge_sets l.n l.initial.sets l.other ≡ upto (merge_set l.other) (l.n - l.i) l.i l.sets)
