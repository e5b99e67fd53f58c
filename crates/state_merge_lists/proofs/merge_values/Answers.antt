-- `state_merge_lists::merge_values` meets its contract. The loop's invariant: the turns that are left do to the values what all do to the values at the start.
-- The measure is the values that are left. Assumes nothing.
use mathlib.Core.Path.{refl, ◌∙◌}
use Rattle.state_adds.specs.Lists.{merge_value, merge_values}
use Rattle.state_adds.proofs.Laws.Code.{loop_turn, loop_end}
use Rattle.state_merge_lists.proofs.merge_values.Goals as goal

pub loop-v-init : goal.loop-v-init
unfolding merge_values
loop-v-init c = (refl, refl)

pub loop-v-preserved : goal.loop-v-preserved
loop-v-preserved c =
    let a = c.args in
    (c.merge_value.auto.values ∙ c.loop-v.invariant.0, loop_turn (merge_value a.other.now) 1024 _ _ _ _ c.loop-v.invariant.1 c.loop-v-test.true c.merge_value.ensures)

pub returns : goal.returns
returns c = loop_end (merge_value c.args.other.now) 1024 _ _ _ c.loop-v.invariant.1 c.loop-v-test.false
