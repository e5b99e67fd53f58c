-- `call_class::lent_class` meets its contract: too many candidates, or as many as a word holds. Assumes nothing.
use Rattle.refuse_instruction.proofs.Laws.Instruction.{instruction_many}
use Rattle.call_class.proofs.lent_class.Goals as goal

pub returns-then-n-gt64 : goal.returns-then-n-gt64
returns-then-n-gt64 c = instruction_many _ _ _ _ _ _ _ c.if-n-gt64.true
