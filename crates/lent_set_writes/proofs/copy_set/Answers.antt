-- `lent_set_writes::copy_set` meets its contract: the set in hand starts from nothing and gets that of `from`. Assumes nothing.
use mathlib.Core.Path.{refl, sym, ◌∙◌}
use lib.Dec.{lit≤}
use Rattle.lent_sets.specs.Rows.{number}
use Rattle.lent_sets.proofs.Laws.Code.{copy_some, copy_none}
use Rattle.lent_set_writes.proofs.copy_set.Goals as goal

pub returns-then-is_defined : goal.returns-then-is_defined
unfolding number
returns-then-is_defined c =
    let a = c.args in
    copy_some a.rows.now _ _ _ a.into a.from (sym c.is_defined.ensures ∙ c.if-is_defined.true) (lit≤ tt) refl
    c.add_set.ensures c.put_set.ensures

pub returns-else-is_defined : goal.returns-else-is_defined
returns-else-is_defined c =
    let a = c.args in
    copy_none a.rows.now a.into a.from (sym c.is_defined.ensures ∙ c.if-is_defined.false)
