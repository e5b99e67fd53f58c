use mathlib.Core.Path.{refl}
use Rattle.def_kinds.specs.Values.{contains}
use Rattle.def_kinds.proofs.AbstractValue.contains.Goals as goal

pub returns : goal.returns
unfolding contains
returns c = refl
