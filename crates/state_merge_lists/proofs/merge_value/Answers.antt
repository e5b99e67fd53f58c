-- `state_merge_lists::merge_value` meets its contract: the join is stored where the other adds to the entry. Assumes nothing.
use Rattle.state_adds.proofs.Laws.Code.{merge_value_is, merge_value_not}
use Rattle.state_merge_lists.proofs.merge_value.Goals as goal

pub returns-then-adds_value : goal.returns-then-adds_value
returns-then-adds_value c =
    merge_value_is _ _ _ _ _ _ _ _ c.adds_value.ensures c.if-adds_value.true c.value_at-a.ensures c.value_at-b.ensures c.join_entries.ensures c.put_entry.ensures

pub returns-else-adds_value : goal.returns-else-adds_value
returns-else-adds_value c = merge_value_not _ _ _ _ c.adds_value.ensures c.if-adds_value.false
