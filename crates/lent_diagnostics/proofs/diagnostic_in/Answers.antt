use Rattle.std.proofs.Common.{ap}
use Rattle.lent_layout.specs.Context.{interned_of}
use Rattle.lent_context.specs.Lent.{diagnostic_in}
use Rattle.lent_diagnostics.proofs.diagnostic_in.Goals as goal

pub returns : goal.returns
unfolding diagnostic_in
returns c = ap interned_of c.get_or.ensures
