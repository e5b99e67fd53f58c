use mathlib.Core.Path.{◌≡◌}
use Prim.Native.Nat.{◌-◌}
use Rattle.def_transfer.specs.Monad.{each}
use Rattle.def_transfer.specs.Step as Text
use Rattle.lent_context.specs.Lent.{effects_in}
use Rattle.lent_world.specs.Promise.{seen, Kept}
use Rattle.lent_layout.specs.Layout.{candidate_table}
use Rattle.call_candidates.proofs.candidates_in_order.Given as goal

abbrev pub invariant-loop-k : goal.invariant-loop-k
invariant-loop-k l =
    Kept l.initial.world l.world
    × (each (effects_in candidate_table l.candidates l.initial.k (l.count - l.initial.k)) (Text.apply_effect 4) (seen l.initial.world) ≡ each (effects_in candidate_table l.candidates l.k (l.count - l.k)) (Text.apply_effect 4) (seen l.world))
