-- `refuse_state::state_refusal` meets its contract: the lowest class first; a count of identifiers fits, since the lengths are right. Assumes nothing.
use mathlib.Core.Path.{sym, ◌∙◌}
use native.Mathlib.Omega.{arith}
use Rattle.refuse_entries.proofs.Laws.State.{lengths_fit, refused_1, refused_3, refused_4, refused_0}
use Rattle.refuse_state.proofs.state_refusal.Goals as goal

pub returns-then-wrong_lengths : goal.returns-then-wrong_lengths
returns-then-wrong_lengths c = sym (refused_1 _ _ _ _ (sym c.wrong_lengths.ensures ∙ c.if-wrong_lengths.true))

pub overflow_cast-n : goal.overflow_cast-n
overflow_cast-n c = let h = lengths_fit _ _ (sym c.wrong_lengths.ensures ∙ c.if-wrong_lengths.false) in omega arith

pub returns-then-state_out_of_range : goal.returns-then-state_out_of_range
returns-then-state_out_of_range c = sym (refused_3 _ _ _ _ (sym c.wrong_lengths.ensures ∙ c.if-wrong_lengths.false) (sym c.state_out_of_range.ensures ∙ c.if-state_out_of_range.true))

pub returns-then-state_unfit : goal.returns-then-state_unfit
returns-then-state_unfit c =
    sym (refused_4 _ _ _ _ (sym c.wrong_lengths.ensures ∙ c.if-wrong_lengths.false) (sym c.state_out_of_range.ensures ∙ c.if-state_out_of_range.false) (sym c.state_unfit.ensures ∙ c.if-state_unfit.true))

pub returns : goal.returns
returns c =
    sym (refused_0 _ _ _ _ (sym c.wrong_lengths.ensures ∙ c.if-wrong_lengths.false) (sym c.state_out_of_range.ensures ∙ c.if-state_out_of_range.false) (sym c.state_unfit.ensures ∙ c.if-state_unfit.false))
