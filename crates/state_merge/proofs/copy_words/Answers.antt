-- `state_merge::copy_words` meets its contract. The loop's invariant: the turns that are left do to the list what all do to the list at the start.
-- The measure is the words that are left. Assumes nothing.
use mathlib.Core.Path.{refl, ◌∙◌}
use lib.ListN.{length}
use Rattle.state_adds.specs.Lists.{copy_word, copy_words}
use Rattle.state_adds.proofs.Laws.Code.{loop_start, loop_turn, loop_end, copied}
use Rattle.state_merge.proofs.copy_words.Goals as goal

pub loop-k-init : goal.loop-k-init
unfolding copy_words
loop-k-init c = (refl, loop_start _ _ _)

pub loop-k-preserved : goal.loop-k-preserved
loop-k-preserved c =
    let a = c.args in
    (c.set.auto.xs ∙ c.loop-k.invariant.0, loop_turn (copy_word a.from.now) (length a.from.now) _ _ _ _ c.loop-k.invariant.1 c.loop-k-test.true (copied _ _ _ _ _ c.get_or-x.ensures c.set.ensures))

pub returns : goal.returns
returns c =
    let a = c.args in
    loop_end (copy_word a.from.now) (length a.from.now) _ _ _ c.loop-k.invariant.1 c.loop-k-test.false
