use native.Mathlib.Omega.{arith}
use Rattle.laws_monad.proofs.Laws.Answers.{passes}
use Rattle.effect_walk.proofs.Laws.Walk.{values_some, row_start, row_next}
use Rattle.lent_world.proofs.Laws.Promise.{kept_start, kept_then}
use Rattle.effect_freeze.proofs.Laws.Freeze.{walk_fails, walk_ends}
use Rattle.effect_freeze.proofs.walk.Goals as goal

pub loop-m-init : goal.loop-m-init
loop-m-init c = (kept_start c.args.world.now, row_start _ _ _ _)

pub returns-in_err-freeze_function_captures_transitive-clause-does : goal.returns-in_err-freeze_function_captures_transitive-clause-does
returns-in_err-freeze_function_captures_transitive-clause-does c =
    rw (passes _ _ c.from_residual.ensures.1) (walk_fails c.args.world.now _ _ _ _ c.loop-m.invariant.1 _ c.value_from.ensures _ _ _ c.in-Some.is c.in_err-freeze_function_captures_transitive.ensures.does)

pub overflow_add-from : goal.overflow_add-from
overflow_add-from c = let g = values_some _ _ _ _ c.value_from.ensures _ c.in-Some.is in let l = g.2 in omega arith

pub loop-m-smaller : goal.loop-m-smaller
loop-m-smaller c = let g = values_some _ _ _ _ c.value_from.ensures _ c.in-Some.is in let h = g.1 in let l = g.2 in omega arith

pub loop-m-preserved : goal.loop-m-preserved
loop-m-preserved c =
    (kept_then c.args.world.now c.loop-m.world c.freeze_function_captures_transitive.new.world c.loop-m.invariant.0 c.freeze_function_captures_transitive.ensures.kept, row_next _ _ _ _ _ _ c.loop-m.invariant.1 _ c.value_from.ensures _ _ c.in-Some.is c.freeze_function_captures_transitive.ensures.walked c.in_ok-freeze_function_captures_transitive.ensures.does)

pub returns-clause-does : goal.returns-clause-does
returns-clause-does c = walk_ends c.args.world.now _ _ _ _ c.loop-m.invariant.1 _ c.value_from.ensures c.in_default.is
