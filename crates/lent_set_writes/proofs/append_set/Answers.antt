-- `lent_set_writes::append_set` meets its contract: the set in hand starts from nothing and gets both sets. Assumes nothing.
use mathlib.Core.Path.{refl, sym, ◌∙◌}
use lib.Dec.{lit≤}
use Rattle.lent_sets.specs.Rows.{number}
use Rattle.lent_sets.proofs.Laws.Code.{append_some, append_no_place, append_no_value}
use Rattle.lent_set_writes.proofs.append_set.Goals as goal

pub returns-then-is_defined-2 : goal.returns-then-is_defined-2
unfolding number
returns-then-is_defined-2 c =
    let a = c.args in
    append_some a.rows.now _ _ _ _ a.place a.value (sym c.is_defined.ensures ∙ c.if-is_defined.true)
    (sym c.is_defined-then-is_defined.ensures ∙ c.if-is_defined-2.true) (lit≤ tt) refl
    c.add_set.ensures c.add_set-then-is_defined-2.ensures c.put_set.ensures

pub returns-else-is_defined-2 : goal.returns-else-is_defined-2
returns-else-is_defined-2 c =
    let a = c.args in
    append_no_value a.rows.now a.place a.value (sym c.is_defined.ensures ∙ c.if-is_defined.true) (sym c.is_defined-then-is_defined.ensures ∙ c.if-is_defined-2.false)

pub returns-else-is_defined : goal.returns-else-is_defined
returns-else-is_defined c =
    let a = c.args in
    append_no_place a.rows.now a.place a.value (sym c.is_defined.ensures ∙ c.if-is_defined.false)
