use Prim.Native.Nat.{◌-◌}
use Rattle.def_transfer.specs.Walk.{freeze_and_enter}
use Rattle.lent_world.specs.Promise.{Kept}
use Rattle.effect_walk.proofs.Laws.Walk.{Runs, RunsRow}
use Rattle.effect_walk.proofs.+freeze_function_captures_transitive.Given as goal

abbrev pub invariant-loop-m : goal.invariant-loop-m
invariant-loop-m l = Kept l.initial.world l.world × RunsRow l.reason (λ F. freeze_and_enter F l.reason) l.initial.world l.world l.i l.from

abbrev pub decreases-loop-m : goal.decreases-loop-m
decreases-loop-m l = 1024 - l.from

abbrev pub invariant-loop-k : goal.invariant-loop-k
invariant-loop-k l = Kept l.initial.world l.world × Runs l.reason l.initial.world l.world l.f l.n l.k

abbrev pub decreases-freeze_function_captures_transitive : goal.decreases-freeze_function_captures_transitive
decreases-freeze_function_captures_transitive l = 4096 - l.world.now.run.freeze
