use Rattle.refuse_records.proofs.Laws.Accepting.{links_are}
use Rattle.refuse_context.proofs.links_class.Goals as goal

pub returns : goal.returns
returns c = links_are _ _ _ _ _ _ _ c.handed_out-n.ensures c.link_records-records.ensures c.stray_after.ensures c.lower.ensures
