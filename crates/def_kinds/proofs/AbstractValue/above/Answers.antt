use mathlib.Core.Path.{sym, ◌∙◌}
use Rattle.std.proofs.Common.{ne_eqb}
use Rattle.def_kinds.proofs.Laws.Kinds.{above_same, above_other}
use Rattle.def_kinds.proofs.AbstractValue.above.Goals as goal

pub returns-then-code : goal.returns-then-code
returns-then-code c =
    c.contains.ensures ∙ sym (above_same _ _ _ _ _ c.join.ensures c.code.ensures c.code-2.ensures c.if-code.true)

pub returns-else-code : goal.returns-else-code
returns-else-code c = ne_eqb _ _ c.if-code.false ∙ sym (above_other _ _ _ _ _ c.join.ensures c.code.ensures c.code-2.ensures c.if-code.false)
