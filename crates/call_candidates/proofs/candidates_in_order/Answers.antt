-- `call_candidates::candidates_in_order` meets its contract: the loop does one of the candidates that are left. Assumes nothing.
use mathlib.Core.Path.{refl, ◌∙◌}
use Rattle.def_transfer.specs.Step as Text
use Rattle.laws_monad.proofs.Laws.Answers.{passes}
use Rattle.lent_world.proofs.Laws.Promise.{kept_start, kept_then}
use Rattle.call_parts.proofs.Laws.Instruction.{candidates_start, candidates_next, candidates_stop, candidates_end}
use Rattle.call_candidates.proofs.candidates_in_order.Goals as goal

pub loop-k-init : goal.loop-k-init
loop-k-init c = (kept_start c.args.world.now, refl)

pub returns-in_err-candidate-clause-does : goal.returns-in_err-candidate-clause-does
returns-in_err-candidate-clause-does c =
    rw (passes _ _ c.from_residual.ensures.1) (candidates_start (Text.apply_effect 4) _ _ _ ∙ c.loop-k.invariant.1 ∙ candidates_stop (Text.apply_effect 4) _ _ _ _ c.loop-k-test.true _ _ c.in_err-candidate.ensures.does)

pub loop-k-preserved : goal.loop-k-preserved
loop-k-preserved c =
    (kept_then c.args.world.now c.loop-k.world c.candidate.new.world c.loop-k.invariant.0 c.in_ok-candidate.ensures.kept, c.loop-k.invariant.1 ∙ candidates_next (Text.apply_effect 4) _ _ _ _ c.loop-k-test.true _ c.in_ok-candidate.ensures.does)

pub returns-clause-does : goal.returns-clause-does
returns-clause-does c = candidates_start (Text.apply_effect 4) _ _ _ ∙ c.loop-k.invariant.1 ∙ candidates_end (Text.apply_effect 4) _ _ _ _ c.loop-k-test.false
