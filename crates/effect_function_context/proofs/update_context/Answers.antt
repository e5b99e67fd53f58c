use mathlib.Core.Path.{refl}
use Rattle.effect_function_context.proofs.Laws.Function.{updates_context}
use Rattle.effect_function_context.proofs.update_context.Goals as goal

pub returns-clause-does : goal.returns-clause-does
returns-clause-does c = updates_context _ _ _ _ _ refl c.copy_context.ensures c.update_places.ensures.does
