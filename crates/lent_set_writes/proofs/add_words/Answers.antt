-- `lent_set_writes::add_words` meets its contract. The loop's invariant: the turns that are left do to what is in hand what all do to what was at the start.
-- The measure is the words that are left. Assumes nothing.
use mathlib.Core.Path.{refl, sym, ◌∙◌}
use Rattle.lent_sets.specs.Rows.{or_word, add_set, even_row}
use Rattle.lent_sets.proofs.Laws.Loop.{upto_step, upto_end}
use Rattle.lent_sets.proofs.Laws.Code.{member_word_is}
use Rattle.lent_set_writes.proofs.add_words.Goals as goal

pub loop-w-init : goal.loop-w-init
unfolding add_set
loop-w-init c = (refl, refl)

pub loop-w-preserved : goal.loop-w-preserved
unfolding or_word
loop-w-preserved c =
    let a = c.args in
    let l = c.loop-w in
    let m = c.member_word in
    (c.or_word.auto.acc ∙ l.invariant.0, cc (upto_step (or_word (even_row a.rows.now a.i)) 16 l.w l.acc c.loop-w-test.true, member_word_is a.rows.now a.i l.w m.result c.loop-w-test.true m.ensures m.type_inv))

pub returns : goal.returns
returns c =
    let a = c.args in
    let l = c.loop-w in
    sym (l.invariant.1 ∙ upto_end (or_word (even_row a.rows.now a.i)) 16 l.w l.acc c.loop-w-test.false)
