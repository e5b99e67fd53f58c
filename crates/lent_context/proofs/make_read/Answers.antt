use Rattle.lent_context.proofs.Laws.Code.{reads_made}
use Rattle.lent_context.proofs.make_read.Goals as goal

pub returns-clause-does : goal.returns-clause-does
returns-clause-does c = reads_made _ _ _ _ _ c.context_count-n.ensures c.read_places.ensures
