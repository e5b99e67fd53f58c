use mathlib.Core.Path.{◌≡◌}
use Prim.Native.Nat.{◌-◌, ◌+◌, ◌*◌}
use Rattle.def_transfer.specs.Monad.{each}
use Rattle.def_transfer.specs.Step as Text
use Rattle.def_effects.specs.Effects as Effects
use Rattle.lent_tables.specs.Words.{places_in}
use Rattle.lent_world.specs.Promise.{seen, Kept}
use Rattle.lent_layout.specs.Layout.{one_run}
use Rattle.effect_apply.proofs.+apply_effect.Given as goal

abbrev pub invariant-capture_all-loop-k : goal.invariant-capture_all-loop-k
invariant-capture_all-loop-k l =
    Kept l.initial.world l.world
    × (each (places_in one_run l.captures 0 1 l.initial.k (l.n - l.initial.k)) (λ c. Text.apply_effect l.depth (Effects.Capture c l.into)) (seen l.initial.world) ≡ each (places_in one_run l.captures 0 1 l.k (l.n - l.k)) (λ c. Text.apply_effect l.depth (Effects.Capture c l.into)) (seen l.world))

abbrev pub decreases-capture_all-loop-k : goal.decreases-capture_all-loop-k
decreases-capture_all-loop-k l = l.n - l.k

abbrev pub decreases-assigning : goal.decreases-assigning
decreases-assigning l = 4 * l.depth + 2

abbrev pub decreases-capture_all : goal.decreases-capture_all
decreases-capture_all l = 4 * l.depth + 1

abbrev pub decreases-capturing : goal.decreases-capturing
decreases-capturing l = 4 * l.depth + 2

abbrev pub decreases-creating_chosen : goal.decreases-creating_chosen
decreases-creating_chosen l = 4 * l.depth + 3

abbrev pub decreases-creating_from : goal.decreases-creating_from
decreases-creating_from l = 4 * l.depth + 2

abbrev pub decreases-creating_function : goal.decreases-creating_function
decreases-creating_function l = 4 * l.depth + 2

abbrev pub decreases-follow : goal.decreases-follow
decreases-follow l = 4 * l.depth + 1

abbrev pub decreases-mutating : goal.decreases-mutating
decreases-mutating l = 4 * l.depth + 2

abbrev pub decreases-apply_effect : goal.decreases-apply_effect
decreases-apply_effect l = 4 * l.depth
