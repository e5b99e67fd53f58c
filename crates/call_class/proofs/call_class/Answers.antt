-- `call_class::call_class` meets its contract: one law for each of its three ways. Assumes nothing.
use mathlib.Core.Path.{refl, sym, ◌∙◌}
use native.Mathlib.Omega.{arith}
use Rattle.refuse_entries.proofs.Laws.State.{lengths_fit, refused_1}
use Rattle.call_outcome.proofs.Laws.Class.{class_lengths, class_state, class_lowest}
use Rattle.call_class.proofs.call_class.Goals as goal
use Rattle.call_class.proofs.call_class.Goals.{then-lengths_wrong-via-then-lengths_wrong, then-lengths_wrong-via-else-lengths_wrong+then-wrong_lengths}

pub returns-then-lengths_wrong : goal.returns-then-lengths_wrong
returns-then-lengths_wrong c =
    elim c.then-lengths_wrong.branch [
      | then-lengths_wrong-via-then-lengths_wrong w ↦ class_lengths _ _ _ _ _ _ _ _ _ _ _ _ (c.lengths_wrong.ensures _ _ _ _ _) w.if-lengths_wrong.true
      | then-lengths_wrong-via-else-lengths_wrong+then-wrong_lengths w ↦
          class_state _ _ _ _ _ _ _ _ _ _ _ _ _ (c.lengths_wrong.ensures _ _ _ _ _) w.if-lengths_wrong.false refl (refused_1 _ _ _ _ (sym w.wrong_lengths.ensures ∙ w.if-wrong_lengths.true))
    ]

pub overflow_cast-identifiers : goal.overflow_cast-identifiers
overflow_cast-identifiers c = let h = lengths_fit _ _ (sym c.wrong_lengths.ensures ∙ c.if-wrong_lengths.false) in omega arith

pub returns : goal.returns
returns c =
    class_lowest _ _ _ _ _ _ _ _ _ _ _ _ _ _ _ _ _ _ (c.lengths_wrong.ensures _ _ _ _ _) c.if-lengths_wrong.false c.state_refusal-state.ensures refl c.context_class-tables.ensures c.lent_class-instruction.ensures c.lower.ensures c.lower-2.ensures
