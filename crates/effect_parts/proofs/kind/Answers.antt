use Rattle.effect_parts.proofs.Laws.Part.{kind_plain}
use Rattle.effect_parts.proofs.kind.Goals as goal

pub returns-clause-does : goal.returns-clause-does
returns-clause-does c = kind_plain _ _ _ _ c.kind_with_span.ensures.does
