use Rattle.effect_function_context.proofs.Laws.Function.{read_other, read_undefined, read_copied, read_frozen}
use Rattle.effect_function_context.proofs.becomes_read.Goals as goal
use Rattle.effect_function_context.proofs.becomes_read.Goals.{then-p-ne3-via-then-p-ne3, then-p-ne3-via-else-p-ne3+then-not-is_defined}

pub returns-then-p-ne3 : goal.returns-then-p-ne3
returns-then-p-ne3 c =
    elim c.then-p-ne3.branch [
      | then-p-ne3-via-then-p-ne3 w ↦ read_other _ _ _ w.if-p-ne3.true
      | then-p-ne3-via-else-p-ne3+then-not-is_defined w ↦ read_undefined _ _ _ w.if-p-ne3.false _ w.is_defined.ensures w.if-not-is_defined.true
    ]

pub returns-then-is_copied : goal.returns-then-is_copied
returns-then-is_copied c =
    read_copied _ _ _ c.if-p-ne3.false _ c.is_defined.ensures c.if-not-is_defined.false _ c.kind_of-kind.ensures _ c.is_copied.ensures c.if-is_copied.true

pub returns-else-is_copied : goal.returns-else-is_copied
returns-else-is_copied c =
    read_frozen _ _ _ c.if-p-ne3.false _ c.is_defined.ensures c.if-not-is_defined.false _ c.kind_of-kind.ensures _ c.is_copied.ensures c.if-is_copied.false _ c.is_frozen.ensures
