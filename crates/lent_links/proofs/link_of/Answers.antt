use Rattle.std.proofs.Common.{refl}
use Rattle.lent_context.proofs.Laws.Code.{link_is}
use Rattle.lent_links.proofs.link_of.Goals as goal

pub returns : goal.returns
returns c = link_is _ _ _ _ refl c.option_in.ensures
