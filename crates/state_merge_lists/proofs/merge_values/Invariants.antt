use mathlib.Core.Path.{◌≡◌}
use Prim.Native.Nat.{◌-◌}
use lib.ListN.{length}
use Rattle.lent_sets.specs.Rows.{upto}
use Rattle.state_adds.specs.Lists.{merge_value, merge_values}
use Rattle.state_merge_lists.proofs.merge_values.Given as goal

abbrev pub invariant-loop-v : goal.invariant-loop-v
invariant-loop-v l = (length l.values ≡ length l.initial.values) × (merge_values l.initial.values l.other ≡ upto (merge_value l.other) (1024 - l.v) l.v l.values)
