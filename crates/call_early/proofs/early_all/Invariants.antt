use mathlib.Core.Path.{◌≡◌}
use Prim.Native.Nat.{◌-◌}
use Rattle.def_transfer.specs.Monad.{each}
use Rattle.def_transfer.specs.Instruction.{early_error}
use Rattle.lent_tables.specs.Words.{places_in}
use Rattle.lent_world.specs.Promise.{seen, Kept}
use Rattle.lent_layout.specs.Layout.{inside_run}
use Rattle.call_early.proofs.early_all.Given as goal

abbrev pub invariant-loop-k : goal.invariant-loop-k
invariant-loop-k l =
    Kept l.initial.world l.world
    × (each (places_in inside_run l.places 0 1 l.initial.k (l.n - l.initial.k)) (early_error l.f) (seen l.initial.world) ≡ each (places_in inside_run l.places 0 1 l.k (l.n - l.k)) (early_error l.f) (seen l.world))
