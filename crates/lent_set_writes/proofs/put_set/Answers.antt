-- `lent_set_writes::put_set` meets its contract. The loop's invariant: the turns that are left do to the rows what all do to the rows at the start.
-- The measure is the words that are left. Assumes nothing.
use mathlib.Core.Path.{refl, sym, ◌∙◌}
use lib.Bits.{bit_or}
use Rattle.lent_sets.specs.Rows.{number, put_word, put_row, put_set}
use Rattle.lent_sets.proofs.Laws.Loop.{upto_step, upto_end}
use Rattle.lent_set_writes.proofs.put_set.Goals as goal

pub loop-w-init : goal.loop-w-init
unfolding put_set put_row
loop-w-init c = (refl, refl)

pub loop-w-preserved : goal.loop-w-preserved
unfolding put_word
loop-w-preserved c =
    let a = c.args in
    let l = c.loop-w in
    (c.set_word.auto.rows ∙ l.invariant.0, cc (upto_step (put_word a.i (bit_or (number 16 a.acc.now 0) 1)) 16 l.w l.rows c.loop-w-test.true))

pub returns : goal.returns
returns c =
    let a = c.args in
    let l = c.loop-w in
    sym (l.invariant.1 ∙ upto_end (put_word a.i (bit_or (number 16 a.acc.now 0) 1)) 16 l.w l.rows c.loop-w-test.false)
