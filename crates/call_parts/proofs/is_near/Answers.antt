-- `call_parts::is_near` meets its contract: what the search of the context places finds. Assumes nothing.
use Rattle.std.specs.Prelude.{◌*◌, eqb}
use Rattle.std.proofs.Common.{arith, rules, refl, ◌∙◌}
use Rattle.std.proofs.lemmas.Iterator.{YieldsList-from_range}
use Rattle.std.proofs.lemmas.Iterator.Search.{any_from_yields_List}
use Rattle.lent_tables.specs.Words.{field}
use Rattle.lent_layout.specs.Layout as Layout
use Rattle.lent_layout.specs.Context.{held}
use Rattle.call_parts.proofs.Laws.Instruction.{near_is}
use Rattle.call_parts.proofs.is_near.Goals as goal

pub returns : goal.returns
returns c =
    any_from_yields_List (λ k. eqb c.args.i (field Layout.contexts c.args.context.now.contexts.now c.args.f (k * 5))) _ _ c.any.result c.any.ensures.ran (YieldsList-from_range 0 c.context_count.result c.context_count.result refl (omega arith))
    (λ x b q k. (search rules, search rules))
    ∙ near_is (held c.args.context.now) c.args.f c.args.i _ c.context_count.ensures
