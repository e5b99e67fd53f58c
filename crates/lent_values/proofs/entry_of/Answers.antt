use mathlib.Core.Path.{sym, ◌∙◌}
use Rattle.lent_values.proofs.Laws.Cell.{cell_absent, entry_present}
use Rattle.lent_values.proofs.entry_of.Goals as goal

pub returns-then-tag-eq0 : goal.returns-then-tag-eq0
returns-then-tag-eq0 c = sym (cell_absent _ (sym c.low-tag.ensures ∙ c.if-tag-eq0.true))

pub returns : goal.returns
returns c = entry_present _ _ _ _ c.low-tag.ensures c.if-tag-eq0.false c.of_code-kind.ensures c.high-reason.ensures
