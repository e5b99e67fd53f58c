-- `call_room::context_wrong` meets its contract: one test after another. Assumes nothing.
use mathlib.Core.Path.{sym, ◌∙◌}
use Rattle.lent_layout.specs.Context.{held}
use Rattle.call_room.proofs.Laws.Room.{or_then, or_else, context_wrong_is}
use Rattle.call_room.proofs.context_wrong.Goals as goal
use Rattle.call_room.proofs.context_wrong.Goals.{then-table_wrong, else-table_wrong, then-table_wrong-2, else-table_wrong-2, then-table_wrong-3, else-table_wrong-3, then-table_wrong-4, else-table_wrong-4, then-table_wrong-5, else-table_wrong-5, then-table_wrong-6, else-table_wrong-6, then-table_wrong-7, else-table_wrong-7}

pub returns-then-table_wrong-8 : goal.returns-then-table_wrong-8
returns-then-table_wrong-8 c =
    context_wrong_is _ _ _ (held c.args.context.now) _ _ _ _ _ _ _ c.min-functions.ensures
    (elim c.if-table_wrong.branch [ then-table_wrong w ↦ or_then _ _ _ (sym c.table_wrong.ensures ∙ w.if-table_wrong.true) (w.value-is ∙ c.table_wrong.ensures) | else-table_wrong w ↦ or_else _ _ _ _ (sym c.table_wrong.ensures ∙ w.if-table_wrong.false) w.table_wrong-else-table_wrong.ensures w.value-is ])
    (elim c.if-table_wrong-2.branch [ then-table_wrong-2 w ↦ or_then _ _ _ w.if-table_wrong-2.true w.value-is | else-table_wrong-2 w ↦ or_else _ _ _ _ w.if-table_wrong-2.false w.table_wrong-else-table_wrong-2.ensures w.value-is ])
    (elim c.if-table_wrong-3.branch [ then-table_wrong-3 w ↦ or_then _ _ _ w.if-table_wrong-3.true w.value-is | else-table_wrong-3 w ↦ or_else _ _ _ _ w.if-table_wrong-3.false w.table_wrong-else-table_wrong-3.ensures w.value-is ])
    (elim c.if-table_wrong-4.branch [ then-table_wrong-4 w ↦ or_then _ _ _ w.if-table_wrong-4.true w.value-is | else-table_wrong-4 w ↦ or_else _ _ _ _ w.if-table_wrong-4.false w.table_wrong-else-table_wrong-4.ensures w.value-is ])
    (elim c.if-table_wrong-5.branch [ then-table_wrong-5 w ↦ or_then _ _ _ w.if-table_wrong-5.true w.value-is | else-table_wrong-5 w ↦ or_else _ _ _ _ w.if-table_wrong-5.false w.table_wrong-else-table_wrong-5.ensures w.value-is ])
    (elim c.if-table_wrong-6.branch [ then-table_wrong-6 w ↦ or_then _ _ _ w.if-table_wrong-6.true w.value-is | else-table_wrong-6 w ↦ or_else _ _ _ _ w.if-table_wrong-6.false w.table_wrong-else-table_wrong-6.ensures w.value-is ])
    (elim c.if-table_wrong-7.branch [ then-table_wrong-7 w ↦ or_then _ _ _ w.if-table_wrong-7.true w.value-is | else-table_wrong-7 w ↦ or_else _ _ _ _ w.if-table_wrong-7.false w.table_wrong-else-table_wrong-7.ensures w.value-is ])
    c.if-table_wrong-8.true
