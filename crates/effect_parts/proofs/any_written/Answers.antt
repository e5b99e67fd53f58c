-- `effect_parts::any_written` meets its contract: what the search of the captures finds. Assumes nothing.
use Rattle.std.specs.Prelude.{◌+◌, ◌*◌}
use Rattle.std.proofs.Common.{arith, rules, refl}
use Rattle.std.proofs.lemmas.Iterator.{YieldsList-from_range}
use Rattle.std.proofs.lemmas.Iterator.Search.{any_from_yields_List}
use Rattle.lent_tables.specs.Words.{place_in}
use Rattle.lent_layout.specs.Layout.{one_run}
use Rattle.lent_world.specs.Promise.{seen}
use Rattle.effect_parts.proofs.Laws.Part.{writes, writes_told, written_any}
use Rattle.effect_parts.proofs.any_written.Goals as goal

pub returns : goal.returns
returns c =
    written_any (seen c.args.world.now) _ _ _ c.field-n.ensures
    (any_from_yields_List (λ k. writes (seen c.args.world.now) (place_in one_run c.args.captures.now 0 (1 + k * 5))) _ _ c.any.result c.any.ensures.ran (YieldsList-from_range 0 c.field-n.result c.field-n.result refl (omega arith))
    (λ x b q k. (search rules, writes_told (seen c.args.world.now) (place_in one_run c.args.captures.now 0 (1 + x * 5)) b (search rules))))
