-- `state_merge_lists::merge_sets` meets its contract. The loop's invariant: the turns that are left do to the sets what all do to the sets at the start.
-- The measure is the rows that are left. Assumes nothing.
use mathlib.Core.Path.{refl, ap, ◌∙◌}
use Prim.Native.Nat.{ℕ}
use Rattle.state_adds.specs.Lists.{merge_set, merge_sets}
use Rattle.state_adds.proofs.Laws.Code.{loop_start, loop_turn, loop_end}
use Rattle.state_merge_lists.proofs.merge_sets.Goals as goal

pub loop-i-init : goal.loop-i-init
unfolding merge_sets
loop-i-init c = (refl, loop_start _ _ _)

pub loop-i-preserved : goal.loop-i-preserved
loop-i-preserved c =
    let a = c.args in
    (c.merge_set.auto.sets ∙ c.loop-i.invariant.0, loop_turn (merge_set a.other.now) _ _ _ _ _ c.loop-i.invariant.1 c.loop-i-test.true c.merge_set.ensures)

pub returns : goal.returns
returns c =
    let a = c.args in
    loop_end (merge_set a.other.now) _ _ _ _ c.loop-i.invariant.1 c.loop-i-test.false ∙ ap (λ (k : ℕ). merge_sets k a.sets.now a.other.now) c.row_count-n.ensures
