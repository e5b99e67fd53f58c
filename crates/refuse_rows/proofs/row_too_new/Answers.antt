-- `refuse_rows::row_too_new` meets its contract: the next member from next on is below 512 just where some member is too new. Assumes nothing.
use Rattle.std.proofs.Common.{rules, sym, ◌∙◌}
use Rattle.refuse_entries.proofs.Laws.Row.{new_undefined}
use Rattle.refuse_rows.proofs.Laws.Search.{new_found}
use Rattle.refuse_rows.proofs.row_too_new.Goals as goal

pub returns-then-is_defined : goal.returns-then-is_defined
returns-then-is_defined c = new_found _ _ (sym c.is_defined.ensures ∙ c.if-is_defined.true) _ _ _ _ c.max.ensures c.next_member.ensures (search rules)

pub returns-else-is_defined : goal.returns-else-is_defined
returns-else-is_defined c = c.if-is_defined.false ∙ sym (new_undefined _ _ _ (sym c.is_defined.ensures ∙ c.if-is_defined.false))
