-- `lent_set_writes::add_set` meets its contract: a row that is not defined adds no bit. Assumes nothing.
use mathlib.Core.Path.{sym, ◌∙◌}
use Rattle.lent_sets.proofs.Laws.Code.{add_some, add_none}
use Rattle.lent_set_writes.proofs.add_set.Goals as goal

pub returns-then-is_defined : goal.returns-then-is_defined
returns-then-is_defined c =
    let a = c.args in
    add_some a.rows.now a.i a.acc.now _ (sym c.is_defined.ensures ∙ c.if-is_defined.true) c.add_words.ensures

pub returns-else-is_defined : goal.returns-else-is_defined
returns-else-is_defined c =
    let a = c.args in
    add_none a.rows.now a.i a.acc.now (sym c.is_defined.ensures ∙ c.if-is_defined.false)
