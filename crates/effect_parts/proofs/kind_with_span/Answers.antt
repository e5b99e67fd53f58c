use Rattle.std.proofs.Common.{refl}
use Rattle.effect_parts.proofs.Laws.Part.{kind_is}
use Rattle.effect_parts.proofs.kind_with_span.Goals as goal

pub returns-clause-does : goal.returns-clause-does
returns-clause-does c = kind_is _ _ _ _ _ _ _ _ c.peek.ensures c.after_use-world.ensures refl _ _
