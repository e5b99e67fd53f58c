use Rattle.std.proofs.Common.{refl}
use Rattle.refuse_instruction.proofs.Laws.Instruction.{effect_apply, effect_other}
use Rattle.refuse_instruction.proofs.effect_class.Goals as goal

pub returns-then-code-eq12 : goal.returns-then-code-eq12
returns-then-code-eq12 c = effect_apply _ _ _ _ _ _ _ _ c.field-code.ensures c.if-code-eq12.true

pub returns : goal.returns
returns c =
    effect_other _ _ _ _ _ _ _ _ _ _ _ _ _ _ _ _ _ c.field-code.ensures c.if-code-eq12.false c.field-captures.ensures refl c.effect_words-words.ensures c.field.ensures c.field-2.ensures c.numbers_class-numbers.ensures c.count_class.ensures c.lower.ensures c.lower-2.ensures
