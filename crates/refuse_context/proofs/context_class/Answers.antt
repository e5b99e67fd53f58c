use Rattle.refuse_records.proofs.Laws.Accepting.{context_counts, context_tables}
use Rattle.refuse_context.proofs.context_class.Goals as goal

pub returns-then-counts_wrong : goal.returns-then-counts_wrong
returns-then-counts_wrong c = context_counts _ _ _ _ c.counts_wrong.ensures c.if-counts_wrong.true

pub returns : goal.returns
returns c = context_tables _ _ _ _ c.counts_wrong.ensures _ c.if-counts_wrong.false c.tables_class.ensures
