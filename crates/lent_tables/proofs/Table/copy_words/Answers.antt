-- `lent_tables::Table::copy_words` meets its contract: each turn copies one of the words that are left. Assumes nothing.
use Rattle.std.specs.Prelude.{refl}
use Rattle.std.proofs.Common.{arith, ◌∙◌}
use Rattle.lent_tables.proofs.Laws.Copy.{copied_start, copied_more, copied_none}
use Rattle.lent_tables.proofs.Table.copy_words.Goals as goal

pub loop-k-init : goal.loop-k-init
loop-k-init c = (omega arith, copied_start _ _ _ _ _ _ _, refl)

pub loop-k-preserved : goal.loop-k-preserved
loop-k-preserved c =
    (omega arith, copied_more _ _ _ _ _ _ _ _ _ _ c.loop-k-test.true c.field-word.ensures c.set.ensures ∙ c.loop-k.invariant.1, c.set.auto.xs ∙ c.loop-k.invariant.2)

pub returns : goal.returns
returns c = copied_none _ _ _ _ _ _ _ _ c.loop-k-test.false ∙ c.loop-k.invariant.1
