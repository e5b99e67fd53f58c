use Prim.Native.Nat.{◌-◌, ◌≤◌}
use mathlib.Core.Path.{◌≡◌}
use lib.ListN.{length}
use Rattle.lent_tables.specs.Words.{put_places, places_in}
use Rattle.lent_effects.specs.Records.{captures_of}
use Rattle.lent_layout.specs.Layout.{one_run}
use Rattle.lent_effects.proofs.put_captures.Given as goal

abbrev pub invariant-loop-k : goal.invariant-loop-k
invariant-loop-k l = (l.k ≤ l.n) × (put_places l.t l.xs l.i 18 l.k (places_in one_run l.captures 0 1 l.k (l.n - l.k)) ≡ put_places l.t l.initial.xs l.i 18 0 (captures_of l.captures)) × (length l.xs ≡ length l.initial.xs)
