-- `state_adds::adds_values` meets its contract: what the search of the values finds. Assumes nothing.
use Rattle.std.proofs.Common.{rules, ◌∙◌}
use Rattle.std.proofs.lemmas.Iterator.Search.{any_from_yields_List}
use Rattle.state_adds.specs.Lists.{value_adds}
use Rattle.state_adds.proofs.Laws.Down.{YieldsList-down, any_down}
use Rattle.state_adds.proofs.adds_values.Goals as goal

pub returns : goal.returns
returns c =
    any_from_yields_List (value_adds c.args.values.now c.args.other.now) _ _ c.any.result c.any.ensures.ran (YieldsList-down 1024 c.rev.ensures.source) (λ x b q k. search rules)
    ∙ any_down 1024 (value_adds c.args.values.now c.args.other.now)
