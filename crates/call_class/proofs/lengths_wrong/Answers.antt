-- `call_class::lengths_wrong` meets its contract: one test after another. Assumes nothing.
use mathlib.Core.Path.{refl, ap, ◌∙◌}
use mathlib.Core.Bool.{not}
use lib.Dec.{eqb}
use lib.ListN.{length}
use Prim.Native.Nat.{ℕ}
use Rattle.lent_layout.specs.Context.{held}
use Rattle.call_undo.specs.Saves.{saved_words}
use Rattle.call_room.proofs.Laws.Room.{or_then, or_else}
use Rattle.call_class.proofs.Laws.Lengths.{lengths_are}
use Rattle.call_class.proofs.lengths_wrong.Goals as goal
use Rattle.call_class.proofs.lengths_wrong.Goals.{then-context_wrong, else-context_wrong, then-candidates-ne0, else-candidates-ne0, then-output-ne-OUTPUT_WORDS, else-output-ne-OUTPUT_WORDS, then-scratch32-saved_words, else-scratch32-saved_words}

pub returns-then-scratch64-lt1024 : goal.returns-then-scratch64-lt1024
returns-then-scratch64-lt1024 c =
    lengths_are _ (held c.args.context.now) _ _ _ _ _ _ _ _ _ _ _ _ c.min-identifiers.ensures c.room_for-room.ensures c.context_wrong.ensures
    (elim c.if-context_wrong.branch [ then-context_wrong w ↦ or_then _ _ _ w.if-context_wrong.true w.value-is | else-context_wrong w ↦ or_else _ _ _ _ w.if-context_wrong.false refl w.value-is ])
    (elim c.if-candidates-ne0.branch [ then-candidates-ne0 w ↦ or_then _ _ _ w.if-candidates-ne0.true w.value-is | else-candidates-ne0 w ↦ or_else _ _ _ _ w.if-candidates-ne0.false refl w.value-is ])
    (elim c.if-output-ne-OUTPUT_WORDS.branch [
      | then-output-ne-OUTPUT_WORDS w ↦ or_then _ _ _ w.if-output-ne-OUTPUT_WORDS.true w.value-is
      | else-output-ne-OUTPUT_WORDS w ↦ or_else _ _ _ _ w.if-output-ne-OUTPUT_WORDS.false (ap (λ (m : ℕ). not (eqb (length c.args.scratch32.now) m)) (w.saved_words.ensures ∙ ap saved_words w.lengths_of.ensures)) w.value-is
    ])
    (elim c.if-scratch32-saved_words.branch [ then-scratch32-saved_words w ↦ or_then _ _ _ w.if-scratch32-saved_words.true w.value-is | else-scratch32-saved_words w ↦ or_else _ _ _ _ w.if-scratch32-saved_words.false refl w.value-is ])
    (or_then _ _ _ c.if-scratch64-lt1024.true refl)

pub returns-else-scratch64-lt1024 : goal.returns-else-scratch64-lt1024
returns-else-scratch64-lt1024 c =
    lengths_are _ (held c.args.context.now) _ _ _ _ _ _ _ _ _ _ _ _ c.min-identifiers.ensures c.room_for-room.ensures c.context_wrong.ensures
    (elim c.if-context_wrong.branch [ then-context_wrong w ↦ or_then _ _ _ w.if-context_wrong.true w.value-is | else-context_wrong w ↦ or_else _ _ _ _ w.if-context_wrong.false refl w.value-is ])
    (elim c.if-candidates-ne0.branch [ then-candidates-ne0 w ↦ or_then _ _ _ w.if-candidates-ne0.true w.value-is | else-candidates-ne0 w ↦ or_else _ _ _ _ w.if-candidates-ne0.false refl w.value-is ])
    (elim c.if-output-ne-OUTPUT_WORDS.branch [
      | then-output-ne-OUTPUT_WORDS w ↦ or_then _ _ _ w.if-output-ne-OUTPUT_WORDS.true w.value-is
      | else-output-ne-OUTPUT_WORDS w ↦ or_else _ _ _ _ w.if-output-ne-OUTPUT_WORDS.false (ap (λ (m : ℕ). not (eqb (length c.args.scratch32.now) m)) (w.saved_words.ensures ∙ ap saved_words w.lengths_of.ensures)) w.value-is
    ])
    (elim c.if-scratch32-saved_words.branch [ then-scratch32-saved_words w ↦ or_then _ _ _ w.if-scratch32-saved_words.true w.value-is | else-scratch32-saved_words w ↦ or_else _ _ _ _ w.if-scratch32-saved_words.false refl w.value-is ])
    (or_else _ _ _ _ c.if-scratch64-lt1024.false refl refl)
