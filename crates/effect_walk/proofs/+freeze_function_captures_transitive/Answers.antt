use native.Mathlib.Omega.{arith}
use mathlib.Core.Path.{refl, sym, ◌∙◌}
use Rattle.laws_monad.proofs.Laws.Answers.{passes}
use Rattle.lent_world.proofs.Laws.Promise.{kept_start, kept_then, slices_then}
use Rattle.effect_walk.proofs.Laws.Walk.{values_some, goes_start, enters_none, enters_plain, runs_shut, row_start, runs_open, enters, row_next, row_fails, walk_ends, walk_fails}
use Rattle.effect_walk.proofs.+freeze_function_captures_transitive.Goals as goal
use Rattle.effect_walk.proofs.+freeze_function_captures_transitive.Goals.{then-opens+in_default-value_from, else-opens}

pub returns-then-world-ge4096-clause-does : goal.returns-then-world-ge4096-clause-does
returns-then-world-ge4096-clause-does t c = enters_none c.args.world.now _ _ c.if-world-ge4096.true

pub returns-in_default-clause-does : goal.returns-in_default-clause-does
returns-in_default-clause-does t c = enters_plain c.args.world.now _ _ _ c.if-world-ge4096.false c.one_more-world.ensures _ c.link_of.ensures c.in_default.is

pub loop-k-init : goal.loop-k-init
loop-k-init t c = (kept_start c.args.world.now, goes_start _ _ _ _ _ refl)

pub loop-m-init : goal.loop-m-init
loop-m-init t c = (kept_start c.loop-k.world, row_start _ _ _ _)

pub freeze_function_captures_transitive-requires : goal.freeze_function_captures_transitive-requires
freeze_function_captures_transitive-requires t c = (let x = c.loop-k.invariant.1.walked.grows in let y = c.loop-m.invariant.1.walked.grows in omega arith)

pub returns-in_err-freeze_function_captures_transitive-clause-does : goal.returns-in_err-freeze_function_captures_transitive-clause-does
returns-in_err-freeze_function_captures_transitive-clause-does t c =
    rw (passes _ _ c.from_residual.ensures.1) (walk_fails c.args.world.now _ _ _ c.if-world-ge4096.false c.one_more-world.ensures _ c.link_of.ensures _ _ c.in-Some.is c.context_count-n.ensures _ _ c.loop-k.invariant.1 _ _ c.loop-k-test.true c.entered_place-i.ensures c.opens.ensures c.if-opens.true _ _ (row_fails _ _ _ _ _ _ c.loop-m.invariant.1 _ c.value_from.ensures _ _ _ c.in-Some-value_from.is (enters _ _ c.loop-m.world _ c.freeze_value.ensures _ c.in_err-freeze_function_captures_transitive.ensures.does)))

pub overflow_add-from : goal.overflow_add-from
overflow_add-from t c = let g = values_some _ _ _ _ c.value_from.ensures _ c.in-Some-value_from.is in let l = g.2 in omega arith

pub loop-m-smaller : goal.loop-m-smaller
loop-m-smaller t c = let g = values_some _ _ _ _ c.value_from.ensures _ c.in-Some-value_from.is in let h = g.1 in let l = g.2 in omega arith

pub loop-m-preserved : goal.loop-m-preserved
loop-m-preserved t c =
    let h : _ = c.loop-m.invariant.0 in
    let g : _ = c.freeze_function_captures_transitive.ensures.kept in
    (((h.0.0 ∙ g.0.0, h.0.1 ∙ sym c.freeze_value.auto.values ∙ g.0.1), (h.1.0 ∙ g.1.0, h.1.1 ∙ g.1.1), (h.2.0 ∙ g.2.0, h.2.1 ∙ g.2.1), h.3 ∙ g.3, slices_then c.loop-k.world.context.now c.loop-m.world.context.now c.freeze_function_captures_transitive.new.world.context.now h.4 g.4), row_next _ _ _ _ _ _ c.loop-m.invariant.1 _ c.value_from.ensures _ _ c.in-Some-value_from.is (record { sets = c.freeze_function_captures_transitive.ensures.walked.sets; context = c.freeze_function_captures_transitive.ensures.walked.context; grows = c.freeze_function_captures_transitive.ensures.walked.grows }) (enters _ _ c.loop-m.world _ c.freeze_value.ensures _ c.in_ok-freeze_function_captures_transitive.ensures.does))

pub loop-k-preserved : goal.loop-k-preserved
loop-k-preserved t c =
    elim c.if-opens.branch [
      | then-opens+in_default-value_from w ↦ rw w.world-is (kept_then c.args.world.now c.loop-k.world w.loop-m.world c.loop-k.invariant.0 w.loop-m.invariant.0, runs_open _ _ _ _ _ _ _ _ c.loop-k.invariant.1 c.loop-k-test.true c.entered_place-i.ensures c.opens.ensures w.if-opens.true _ _ w.loop-m.invariant.1 _ w.value_from.ensures w.in_default-value_from.is)
      | else-opens w ↦ rw w.world-is (c.loop-k.invariant.0, runs_shut _ _ _ _ _ _ _ _ c.loop-k.invariant.1 c.loop-k-test.true c.entered_place-i.ensures c.opens.ensures w.if-opens.false)
    ]

pub returns-clause-does : goal.returns-clause-does
returns-clause-does t c =
    walk_ends c.args.world.now _ _ _ c.if-world-ge4096.false c.one_more-world.ensures _ c.link_of.ensures _ _ c.in-Some.is c.context_count-n.ensures _ _ c.loop-k.invariant.1 c.loop-k-test.false
