-- `state_freeze::freeze_values` meets its contract: each turn freezes the first of the members that are left. Assumes nothing.
use Rattle.state_ops.proofs.Laws.List.{freeze_turn, freeze_done}
use Rattle.state_freeze.proofs.freeze_values.Goals as goal

pub loop-m-preserved : goal.loop-m-preserved
loop-m-preserved c = (tt, tt, freeze_turn _ _ _ _ _ _ _ c.in-Some.ensures.steps c.freeze_value.ensures c.loop-m.invariant.2)

pub returns : goal.returns
returns c = freeze_done _ _ _ _ c.in-None.ensures.steps.0 c.loop-m.invariant.2
