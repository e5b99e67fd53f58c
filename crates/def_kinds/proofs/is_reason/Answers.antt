use mathlib.Core.Path.{refl}
use Rattle.def_kinds.specs.Reasons.{is_reason}
use Rattle.def_kinds.proofs.is_reason.Goals as goal

pub returns : goal.returns
unfolding is_reason
returns c = refl
