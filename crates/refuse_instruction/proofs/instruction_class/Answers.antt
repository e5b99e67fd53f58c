use Rattle.std.proofs.Common.{refl}
use Rattle.refuse_instruction.proofs.Laws.Instruction.{instruction_many, instruction_rest}
use Rattle.refuse_instruction.proofs.instruction_class.Goals as goal

pub returns-then-count-gt64 : goal.returns-then-count-gt64
returns-then-count-gt64 c = instruction_many _ _ _ _ _ _ _ c.if-count-gt64.true

pub returns : goal.returns
returns c =
    instruction_rest _ _ _ _ _ _ _ _ _ _ _ _ _ c.if-count-gt64.false refl c.candidates_class-tested.ensures c.place_class.ensures c.own_class.ensures c.lower.ensures c.lower-2.ensures
