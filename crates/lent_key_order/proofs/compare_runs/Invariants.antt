use Prim.Native.Nat.{◌≤◌}
use mathlib.Core.Path.{◌≡◌}
use Rattle.base_search.specs.Comparings.{compare_lists}
use Rattle.lent_keys.specs.KeyRecords.{listed}
use Rattle.lent_key_order.proofs.Laws.Runs.{left}
use Rattle.lent_key_order.proofs.compare_runs.Given as goal

abbrev pub invariant-loop-k : goal.invariant-loop-k
invariant-loop-k l = (l.k ≤ l.a.count) × (l.k ≤ l.b.count) × (compare_lists (listed l.a) (listed l.b) ≡ left l.a l.b l.k)
