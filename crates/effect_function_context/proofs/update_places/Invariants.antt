use Rattle.lent_world.specs.Promise.{seen, Kept}
use Rattle.effect_function_context.proofs.Laws.Function.{Updates}
use Rattle.effect_function_context.proofs.update_places.Given as goal

abbrev pub invariant-loop-k : goal.invariant-loop-k
invariant-loop-k l = Kept l.initial.world l.world × Updates (seen l.initial.world) (seen l.world) l.f l.places l.n l.k
