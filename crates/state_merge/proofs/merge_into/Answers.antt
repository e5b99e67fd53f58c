-- `state_merge::merge_into` meets its contract, by the two ways through it. Assumes nothing.
use Rattle.state_adds.proofs.Laws.Code.{into_some, into_none}
use Rattle.state_merge.proofs.merge_into.Goals as goal

pub returns-then-adds : goal.returns-then-adds
returns-then-adds c =
    into_some _ _ _ _ _ _ _ _ _ _ _ c.adds.ensures c.if-adds.true
    c.copy_words.ensures c.merge_values.ensures
    c.copy_words-then-adds.ensures c.merge_sets.ensures

pub returns : goal.returns
returns c =
    let a = c.args in
    into_none _ a.values1.now a.sets1.now a.values2.now a.sets2.now a.values3.now a.sets3.now _ _
    c.adds.ensures c.if-adds.false c.clear_words.ensures c.clear_words-2.ensures
