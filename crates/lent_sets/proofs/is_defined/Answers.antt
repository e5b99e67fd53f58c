-- `lent_sets::is_defined` meets its contract: the lowest bit of a row is that of its first word. Assumes nothing.
use Rattle.lent_sets.proofs.Laws.Code.{defined_is}
use Rattle.lent_sets.proofs.is_defined.Goals as goal

pub returns : goal.returns
returns c =
    let a = c.args in
    let r = c.row_word in
    defined_is a.rows.now a.i r.result r.ensures
