-- `state_adds::adds_value` meets its contract: two values are compared. Assumes nothing.
use Rattle.state_adds.proofs.Laws.Code.{adds_both}
use Rattle.state_adds.proofs.adds_value.Goals as goal

pub returns-in-Some-value_at : goal.returns-in-Some-value_at
returns-in-Some-value_at c =
    adds_both _ _ _ _ _ _ _ c.in-Some.is c.value_at.ensures c.in-Some-value_at.is c.value_at-in-Some.ensures c.above.ensures
