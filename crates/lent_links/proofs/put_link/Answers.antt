use Rattle.std.proofs.Common.{refl}
use Rattle.lent_context.proofs.Laws.Code.{link_put}
use Rattle.lent_links.proofs.put_link.Goals as goal

pub returns-clause-does : goal.returns-clause-does
returns-clause-does c = link_put _ _ _ _ _ refl c.put_option.ensures
