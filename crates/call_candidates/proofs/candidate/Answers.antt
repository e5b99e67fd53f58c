-- `call_candidates::candidate` meets its contract: one law, for its one way. Assumes nothing.
use mathlib.Core.Path.{refl}
use Rattle.def_transfer.specs.Step as Text
use Rattle.call_parts.proofs.Laws.Instruction.{candidate_is}
use Rattle.call_candidates.proofs.candidate.Goals as goal

pub returns-clause-does : goal.returns-clause-does
returns-clause-does c =
    candidate_is (Text.apply_effect 4) _ _ _ _ _ _ _ _ _ refl c.effect_in-e.ensures refl c.copy_captures.ensures refl c.apply_effect.ensures.does
