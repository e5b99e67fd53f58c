use mathlib.Core.Path.{refl, sym, ◌∙◌}
use Rattle.std.proofs.Common.{le-ltb, rules}
use Rattle.def_kinds.specs.Reasons.{has_reason}
use Rattle.def_kinds.proofs.Laws.Kinds.{no_reason}
use Rattle.def_kinds.proofs.has_reason.Goals as goal

pub returns-then-n-lt32 : goal.returns-then-n-lt32
unfolding has_reason
returns-then-n-lt32 c = refl

pub returns-else-n-lt32 : goal.returns-else-n-lt32
returns-else-n-lt32 c = le-ltb _ _ (search rules) ∙ sym (no_reason _ _ (search rules) (search rules))
