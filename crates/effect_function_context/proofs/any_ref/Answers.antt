-- `effect_function_context::any_ref` meets its contract: what the search of the context places finds. Assumes nothing.
use Rattle.std.proofs.Common.{arith, rules, refl}
use Rattle.std.proofs.lemmas.Iterator.{YieldsList-from_range}
use Rattle.std.proofs.lemmas.Iterator.Search.{any_from_yields_List}
use Rattle.lent_world.specs.Promise.{seen}
use Rattle.effect_function_context.proofs.Laws.Function.{ref_at, ref_found}
use Rattle.effect_function_context.proofs.any_ref.Goals as goal

pub returns : goal.returns
returns c =
    ref_found (seen c.args.world.now) c.args.f _ _ c.context_count.ensures
    (any_from_yields_List (ref_at (seen c.args.world.now) c.args.f) _ _ c.any.result c.any.ensures.ran (YieldsList-from_range 0 c.context_count.result c.context_count.result refl (omega arith))
    (λ x b q k. (search rules, search rules)))
