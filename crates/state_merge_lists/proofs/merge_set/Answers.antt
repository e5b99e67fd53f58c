-- `state_merge_lists::merge_set` meets its contract: the set in hand starts from nothing and gets both sets. Assumes nothing.
use mathlib.Core.Path.{refl}
use lib.Dec.{lit≤}
use Rattle.lent_sets.specs.Rows.{number}
use Rattle.state_adds.proofs.Laws.Code.{merge_set_is, merge_set_not}
use Rattle.state_merge_lists.proofs.merge_set.Goals as goal

pub returns-then-adds_set : goal.returns-then-adds_set
unfolding number
returns-then-adds_set c =
    merge_set_is _ _ _ _ _ _ _ _ c.adds_set.ensures c.if-adds_set.true (lit≤ tt) refl c.add_set.ensures c.add_set-then-adds_set.ensures c.put_set.ensures

pub returns-else-adds_set : goal.returns-else-adds_set
returns-else-adds_set c = merge_set_not _ _ _ _ c.adds_set.ensures c.if-adds_set.false
