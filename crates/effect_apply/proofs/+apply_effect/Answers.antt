use mathlib.Core.Path.{refl, ◌∙◌}
use mathlib.Core.List.{[]}
use Rattle.def_transfer.specs.Step as Text
use Rattle.laws_monad.proofs.Laws.Answers.{passes}
use Rattle.lent_world.proofs.Laws.Promise.{kept_start, kept_then}
use Rattle.effect_apply.proofs.Laws.Step.{step_none, step_refused, step_acts, arm_plain, plain_is, arm_mutating, arm_flowing, arm_assigning, arm_from, arm_function, follow_nothing, follow_itself, follow_derived, created_follows, assign_plain, assign_stops, assign_goes, captures_start, captures_next, captures_stop, captures_end, chosen_copied}
use Rattle.effect_apply.proofs.+apply_effect.Goals as goal

pub assigning-returns-in_err-a-clause-does : goal.assigning-returns-in_err-a-clause-does
assigning-returns-in_err-a-clause-does t c = rw (passes _ _ c.from_residual.ensures.1) (c.in_err-a.ensures.does (Text.apply_effect _))

pub assigning-returns-in_err-apply_effect-clause-does : goal.assigning-returns-in_err-apply_effect-clause-does
assigning-returns-in_err-apply_effect-clause-does t c =
    rw (passes _ _ c.from_residual-in_err-apply_effect.ensures.1) (c.in_ok-a.ensures.does (Text.apply_effect _) ∙ assign_stops _ _ _ _ _ _ _ c.is_frozen.ensures c.if-is_frozen.true _ _ c.in_err-apply_effect.ensures.does)

pub assigning-returns-then-is_frozen-clause-does : goal.assigning-returns-then-is_frozen-clause-does
assigning-returns-then-is_frozen-clause-does t c =
    c.in_ok-a.ensures.does (Text.apply_effect _) ∙ assign_goes _ _ _ _ _ _ _ c.is_frozen.ensures c.if-is_frozen.true _ _ c.in_ok-apply_effect.ensures.does c.number_and_create.ensures.does

pub assigning-returns-clause-does : goal.assigning-returns-clause-does
assigning-returns-clause-does t c =
    c.in_ok-a.ensures.does (Text.apply_effect _) ∙ assign_plain _ _ _ _ [] _ _ c.is_frozen.ensures _ c.if-is_frozen.false c.assign_rest.ensures.does

pub capture_all-loop-k-init : goal.capture_all-loop-k-init
capture_all-loop-k-init t c = (kept_start c.args.world.now, refl)

pub capture_all-returns-in_err-apply_effect-clause-does : goal.capture_all-returns-in_err-apply_effect-clause-does
capture_all-returns-in_err-apply_effect-clause-does t c =
    rw (passes _ _ c.from_residual.ensures.1) (captures_start (Text.apply_effect c.args.depth) c.args.into _ _ _ c.field-n.ensures ∙ c.loop-k.invariant.1 ∙ captures_stop (Text.apply_effect c.args.depth) c.args.into _ _ _ _ _ _ c.loop-k-test.true c.place_in-from.ensures _ _ c.in_err-apply_effect.ensures.does)

pub capture_all-loop-k-preserved : goal.capture_all-loop-k-preserved
capture_all-loop-k-preserved t c =
    (kept_then c.args.world.now c.loop-k.world c.apply_effect.new.world c.loop-k.invariant.0 c.in_ok-apply_effect.ensures.kept, c.loop-k.invariant.1 ∙ captures_next (Text.apply_effect c.args.depth) c.args.into _ _ _ _ _ _ c.loop-k-test.true c.place_in-from.ensures _ c.in_ok-apply_effect.ensures.does)

pub capture_all-returns-clause-does : goal.capture_all-returns-clause-does
capture_all-returns-clause-does t c =
    captures_start (Text.apply_effect c.args.depth) c.args.into _ _ _ c.field-n.ensures ∙ c.loop-k.invariant.1 ∙ captures_end (Text.apply_effect c.args.depth) c.args.into _ _ _ _ c.loop-k-test.false

pub capturing-returns-in_err-next-clause-does : goal.capturing-returns-in_err-next-clause-does
capturing-returns-in_err-next-clause-does t c = rw (passes _ _ c.from_residual.ensures.1) (c.in_err-next.ensures.does (Text.apply_effect _) _ [])

pub capturing-returns-clause-does : goal.capturing-returns-clause-does
capturing-returns-clause-does t c = c.in_ok-next.ensures.does (Text.apply_effect _) _ _ ∙ c.follow.ensures.does

pub creating_chosen-returns-clause-does : goal.creating_chosen-returns-clause-does
creating_chosen-returns-clause-does t c =
    chosen_copied _ _ _ _ _ _ _ (c.choose_captures.ensures refl) c.creating_function.ensures.does

pub creating_from-returns-in_err-next-clause-does : goal.creating_from-returns-in_err-next-clause-does
creating_from-returns-in_err-next-clause-does t c = rw (passes _ _ c.from_residual.ensures.1) (c.in_err-next.ensures.does (Text.apply_effect _) [])

pub creating_from-returns-clause-does : goal.creating_from-returns-clause-does
creating_from-returns-clause-does t c =
    c.in_ok-next.ensures.does (Text.apply_effect _) _ ∙ created_follows _ _ _ _ _ _ _ c.follow.ensures.does

pub creating_function-returns-in_err-make_function-clause-does : goal.creating_function-returns-in_err-make_function-clause-does
creating_function-returns-in_err-make_function-clause-does t c = rw (passes _ _ c.from_residual.ensures.1) (c.in_err-make_function.ensures.does (Text.apply_effect _))

pub creating_function-returns-clause-does : goal.creating_function-returns-clause-does
creating_function-returns-clause-does t c = c.in_ok-make_function.ensures.does (Text.apply_effect _) ∙ c.capture_all.ensures.does

pub follow-returns-in-Nothing-clause-does : goal.follow-returns-in-Nothing-clause-does
follow-returns-in-Nothing-clause-does t c = follow_nothing _ _ _ _ _ c.in-Nothing.is

pub follow-returns-in-Itself-clause-does : goal.follow-returns-in-Itself-clause-does
follow-returns-in-Itself-clause-does t c = follow_itself _ _ _ _ _ _ c.in-Itself.is c.emit.ensures.does

pub follow-returns-in-Derived-clause-does : goal.follow-returns-in-Derived-clause-does
follow-returns-in-Derived-clause-does t c = follow_derived _ _ _ _ _ _ _ c.in-Derived.is c.apply_effect.ensures.does

pub mutating-returns-in_err-next-clause-does : goal.mutating-returns-in_err-next-clause-does
mutating-returns-in_err-next-clause-does t c = rw (passes _ _ c.from_residual.ensures.1) (c.in_err-next.ensures.does (Text.apply_effect _) _ [])

pub mutating-returns-clause-does : goal.mutating-returns-clause-does
mutating-returns-clause-does t c = c.in_ok-next.ensures.does (Text.apply_effect _) _ _ ∙ c.follow.ensures.does

pub apply_effect-returns-then-depth-eq0-clause-does : goal.apply_effect-returns-then-depth-eq0-clause-does
apply_effect-returns-then-depth-eq0-clause-does t c = step_none _ _ _ c.if-depth-eq0.true

pub apply_effect-returns-in_err-interned-clause-does : goal.apply_effect-returns-in_err-interned-clause-does
apply_effect-returns-in_err-interned-clause-does t c =
    rw (passes _ _ c.from_residual.ensures.1) (step_refused _ _ _ c.if-depth-eq0.false _ _ c.in_err-interned.ensures.does)

pub apply_effect-returns-in-Plain-clause-does : goal.apply_effect-returns-in-Plain-clause-does
apply_effect-returns-in-Plain-clause-does t c =
    step_acts _ _ _ c.if-depth-eq0.false _ _ _ c.in_ok-interned.ensures.does (arm_plain _ _ _ [] _ _ _ c.act_of.ensures c.in-Plain.is (c.plain.ensures.does (plain_is _ _ c.act_of.ensures c.in-Plain.is) _))

pub apply_effect-returns-in-Mutating-clause-does : goal.apply_effect-returns-in-Mutating-clause-does
apply_effect-returns-in-Mutating-clause-does t c =
    step_acts _ _ _ c.if-depth-eq0.false _ _ _ c.in_ok-interned.ensures.does (arm_mutating _ _ _ _ _ _ _ c.act_of.ensures _ _ c.in-Mutating.is c.mutating.ensures.does)

pub apply_effect-returns-in-Flowing-clause-does : goal.apply_effect-returns-in-Flowing-clause-does
apply_effect-returns-in-Flowing-clause-does t c =
    step_acts _ _ _ c.if-depth-eq0.false _ _ _ c.in_ok-interned.ensures.does (arm_flowing _ _ _ _ _ _ _ c.act_of.ensures _ _ _ c.in-Flowing.is c.capturing.ensures.does)

pub apply_effect-returns-in-Assigning-clause-does : goal.apply_effect-returns-in-Assigning-clause-does
apply_effect-returns-in-Assigning-clause-does t c =
    step_acts _ _ _ c.if-depth-eq0.false _ _ _ c.in_ok-interned.ensures.does (arm_assigning _ _ _ [] _ _ _ c.act_of.ensures _ _ c.in-Assigning.is c.assigning.ensures.does)

pub apply_effect-returns-in-CreatingFrom-clause-does : goal.apply_effect-returns-in-CreatingFrom-clause-does
apply_effect-returns-in-CreatingFrom-clause-does t c =
    step_acts _ _ _ c.if-depth-eq0.false _ _ _ c.in_ok-interned.ensures.does (arm_from _ _ _ [] _ _ _ c.act_of.ensures _ _ c.in-CreatingFrom.is c.creating_from.ensures.does)

pub apply_effect-returns-in-CreatingFunction-clause-does : goal.apply_effect-returns-in-CreatingFunction-clause-does
apply_effect-returns-in-CreatingFunction-clause-does t c =
    step_acts _ _ _ c.if-depth-eq0.false _ _ _ c.in_ok-interned.ensures.does (arm_function _ _ _ [] _ _ _ c.act_of.ensures _ _ c.in-CreatingFunction.is c.creating_chosen.ensures.does)
