use Rattle.def_kinds.proofs.Laws.Kinds.{no_single}
use borrow.Author.Rules.{rules}
use Rattle.def_kinds.proofs.single.Goals as goal

pub returns-else-n-lt32 : goal.returns-else-n-lt32
returns-else-n-lt32 c = no_single _ (search rules)
