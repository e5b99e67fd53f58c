-- `call_early::early_all` meets its contract: the loop does one of the places that are left. Assumes nothing.
use mathlib.Core.Path.{◌∙◌}
use Rattle.def_transfer.specs.Instruction.{early_error}
use Rattle.laws_monad.proofs.Laws.Answers.{passes}
use Rattle.lent_world.proofs.Laws.Promise.{kept_then}
use Rattle.call_parts.proofs.Laws.Instruction.{places_start, places_next, places_stop, places_end}
use Rattle.call_early.proofs.early_all.Goals as goal

pub returns-in_err-early_error-clause-does : goal.returns-in_err-early_error-clause-does
returns-in_err-early_error-clause-does c =
    rw (passes _ _ c.from_residual.ensures.1) (places_start (early_error c.args.f) _ _ _ c.field-n.ensures ∙ c.loop-k.invariant.1 ∙ places_stop (early_error c.args.f) _ _ _ _ _ c.loop-k-test.true c.place_in.ensures _ _ c.in_err-early_error.ensures.does)

pub loop-k-preserved : goal.loop-k-preserved
loop-k-preserved c =
    (kept_then c.args.world.now c.loop-k.world c.early_error.new.world c.loop-k.invariant.0 c.early_error.ensures.kept, c.loop-k.invariant.1 ∙ places_next (early_error c.args.f) _ _ _ _ _ c.loop-k-test.true c.place_in.ensures _ c.in_ok-early_error.ensures.does)

pub returns-clause-does : goal.returns-clause-does
returns-clause-does c =
    places_start (early_error c.args.f) _ _ _ c.field-n.ensures ∙ c.loop-k.invariant.1 ∙ places_end (early_error c.args.f) _ _ _ _ c.loop-k-test.false
