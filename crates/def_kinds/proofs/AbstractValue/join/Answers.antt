use Rattle.def_kinds.specs.Values.{join}
use Rattle.def_kinds.proofs.AbstractValue.join.Goals as goal

pub returns : goal.returns
unfolding join
returns c = cc
