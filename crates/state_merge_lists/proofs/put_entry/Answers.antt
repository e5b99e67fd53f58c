-- `state_merge_lists::put_entry` meets its contract, by the entry that it is given. Assumes nothing.
use Rattle.state_adds.proofs.Laws.Code.{put_present}
use Rattle.state_merge_lists.proofs.put_entry.Goals as goal

pub returns-in-Some : goal.returns-in-Some
returns-in-Some c = put_present _ _ _ _ _ c.in-Some.is c.put_value.ensures
