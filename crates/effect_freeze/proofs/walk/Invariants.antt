use Prim.Native.Nat.{◌-◌}
use Rattle.lent_world.specs.Promise.{Kept}
use Rattle.effect_freeze.proofs.Laws.Freeze.{Walks}
use Rattle.effect_freeze.proofs.walk.Given as goal

abbrev pub invariant-loop-m : goal.invariant-loop-m
invariant-loop-m l = Kept l.initial.world l.world × Walks l.reason l.initial.world l.world l.i l.from

abbrev pub decreases-loop-m : goal.decreases-loop-m
decreases-loop-m l = 1024 - l.from
