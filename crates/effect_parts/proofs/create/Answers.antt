use Rattle.std.proofs.Common.{refl}
use Rattle.effect_parts.proofs.Laws.Part.{create_is}
use Rattle.effect_parts.proofs.create.Goals as goal

pub returns-clause-does : goal.returns-clause-does
returns-clause-does c =
    create_is _ _ _ _ _ _ _ _ refl c.put_value.ensures c.define.ensures _ _ _
