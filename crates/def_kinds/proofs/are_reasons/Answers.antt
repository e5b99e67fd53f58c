use mathlib.Core.Path.{refl}
use Rattle.def_kinds.specs.Reasons.{are_reasons}
use Rattle.def_kinds.proofs.are_reasons.Goals as goal

pub returns : goal.returns
unfolding are_reasons
returns c = refl
