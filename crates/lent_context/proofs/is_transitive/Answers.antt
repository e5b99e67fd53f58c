use Rattle.std.proofs.Common.{refl}
use Rattle.lent_context.specs.Lent.{is_transitive}
use Rattle.lent_context.proofs.is_transitive.Goals as goal

pub returns : goal.returns
unfolding is_transitive
returns c = refl
