use Prim.Native.Nat.{ℕ, ◌-◌, ◌≤◌}
use mathlib.Core.Path.{◌≡◌}
use Rattle.std.specs.declared.cmp.Ordering.{Ordering}
use Rattle.base_search.specs.Search.{halving, along}
use Rattle.lent_search.specs.Searches.{Compares}
use Rattle.lent_search.proofs.search.Given as goal

abbrev pub invariant-loop-lo : goal.invariant-loop-lo
invariant-loop-lo g l = (l.lo ≤ l.hi) × (l.hi ≤ l.n) × ((c : ℕ → Ordering) → Compares (λ j o. g.F.Fn.post l.compare (j, tt) o) c l.n → along c l.n ≡ halving (l.hi - l.lo) c l.lo l.hi)

abbrev pub decreases-loop-lo : goal.decreases-loop-lo
decreases-loop-lo g l = l.hi - l.lo
