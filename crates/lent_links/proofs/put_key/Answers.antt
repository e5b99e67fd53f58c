use Rattle.std.proofs.Common.{refl}
use Rattle.lent_context.proofs.Laws.Search.{put_cached}
use Rattle.lent_links.proofs.put_key.Goals as goal

pub returns-clause-does : goal.returns-clause-does
returns-clause-does c = put_cached _ _ _ _ _ _ _ _ refl c.put_key.ensures c.insert.ensures c.one_more-context.ensures
