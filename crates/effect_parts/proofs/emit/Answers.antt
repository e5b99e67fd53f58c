use Rattle.std.proofs.Common.{refl}
use Rattle.effect_parts.proofs.Laws.Part.{emit_full, emit_one}
use Rattle.effect_parts.proofs.emit.Goals as goal

pub returns-then-world-ge4294967295-clause-does : goal.returns-then-world-ge4294967295-clause-does
returns-then-world-ge4294967295-clause-does c = emit_full _ _ _ _ _ _ c.if-world-ge4294967295.true

pub returns-clause-does : goal.returns-clause-does
returns-clause-does c =
    emit_one _ _ _ _ _ _ _ _ c.if-world-ge4294967295.false refl c.put_effect.ensures
