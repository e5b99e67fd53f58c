-- `lent_members::size` meets its contract: a row that is defined has one value less than set bits. Assumes nothing.
use mathlib.Core.Path.{sym, ◌∙◌}
use Rattle.lent_sets.proofs.Laws.Code.{size_some, size_none}
use Rattle.lent_members.proofs.size.Goals as goal

pub overflow_sub-result : goal.overflow_sub-result
overflow_sub-result c =
    let a = c.args in
    (size_some a.rows.now a.i c.count_bits.result (sym c.is_defined.ensures ∙ c.if-is_defined.true) c.count_bits.ensures).0

pub returns-then-is_defined : goal.returns-then-is_defined
returns-then-is_defined c =
    let a = c.args in
    (size_some a.rows.now a.i c.count_bits.result (sym c.is_defined.ensures ∙ c.if-is_defined.true) c.count_bits.ensures).1

pub returns-else-is_defined : goal.returns-else-is_defined
returns-else-is_defined c =
    let a = c.args in
    size_none a.rows.now a.i (sym c.is_defined.ensures ∙ c.if-is_defined.false)
