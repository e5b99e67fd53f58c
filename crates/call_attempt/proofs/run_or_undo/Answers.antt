-- `call_attempt::run_or_undo` meets its contract: the run ends, or it is refused and all is put back. Assumes nothing.
use mathlib.Core.Path.{sym}
use Rattle.call_outcome.proofs.Laws.Attempt.{attempt_ends, attempt_refused}
use Rattle.call_attempt.proofs.run_or_undo.Goals as goal

pub returns-in-Ok-clause-does : goal.returns-in-Ok-clause-does
returns-in-Ok-clause-does c =
    λ s flag start ready. attempt_ends _ _ _ _ _ _ _ ready _ _ s flag _ _ _ _ _ _ _ c.candidate_count-count.ensures start c.in-Ok.ensures.does

pub returns-in-Err-clause-does : goal.returns-in-Err-clause-does
returns-in-Err-clause-does c =
    λ s flag start ready. attempt_refused _ _ _ _ _ _ _ ready _ _ s flag _ _ _ _ _ _ _ c.candidate_count-count.ensures start _ c.in-Err.ensures.does _ _ _ _ _ _ _ _ _ c.set_words-n.ensures c.lengths_of-l.ensures c.used_of-u.ensures c.save.ensures.0 c.save.ensures.1 c.undo.ensures.restores.0 c.undo.ensures.restores.1 c.undo.ensures.restores.2 c.undo.ensures.restores.3 (sym c.run_instruction.ensures.kept.2.1)
