-- `state_adds::adds_sets` meets its contract: what the search of the rows finds. Assumes nothing.
use Rattle.std.proofs.Common.{rules, sym, ◌∙◌}
use Rattle.std.proofs.lemmas.Iterator.Search.{any_from_yields_List}
use Rattle.state_adds.specs.Lists.{set_adds}
use Rattle.state_adds.proofs.Laws.Code.{rows_cut}
use Rattle.state_adds.proofs.Laws.Down.{YieldsList-down, any_down}
use Rattle.state_adds.proofs.adds_sets.Goals as goal

pub returns : goal.returns
returns c =
    any_from_yields_List (set_adds c.args.sets.now c.args.other.now) _ _ c.any.result c.any.ensures.ran (YieldsList-down c.row_count.result c.rev.ensures.source) (λ x b q k. search rules)
    ∙ any_down c.row_count.result (set_adds c.args.sets.now c.args.other.now)
    ∙ sym (rows_cut _ _ _ c.row_count.ensures)
