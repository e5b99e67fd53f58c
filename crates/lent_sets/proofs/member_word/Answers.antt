-- `lent_sets::member_word` meets its contract, by the cases of its definition. Assumes nothing.
use Rattle.lent_sets.proofs.Laws.Code.{word_first, word_later}
use Rattle.lent_sets.proofs.member_word.Goals as goal

pub returns-then-w-eq0 : goal.returns-then-w-eq0
returns-then-w-eq0 c =
    let a = c.args in
    let r = c.row_word-x in
    word_first a.rows.now a.i a.w r.result r.ensures c.if-w-eq0.true

pub returns-else-w-eq0 : goal.returns-else-w-eq0
returns-else-w-eq0 c =
    let a = c.args in
    let r = c.row_word-x in
    word_later a.rows.now a.i a.w r.result r.ensures c.if-w-eq0.false
