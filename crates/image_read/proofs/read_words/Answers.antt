-- `image_read::read_words` meets its contract: a class refuses the words, or all tables are filled. Assumes nothing.
use mathlib.Core.Path.{refl}
use Rattle.def_refusals.proofs.Laws.Verdicts.{number_some}
use Rattle.laws_monad.proofs.Laws.Answers.{passes}
use Rattle.image_job.proofs.Laws.Reading.{words_refused, words_read}
use Rattle.image_read.proofs.read_words.Goals as goal

pub returns-in_err-words_refusal-clause-does : goal.returns-in_err-words_refusal-clause-does
returns-in_err-words_refusal-clause-does c =
    rw (passes _ _ c.from_residual.ensures.1) (words_refused _ _ _ _ _ _ _ _ _ c.load_words.ensures c.in_err-words_refusal.ensures (number_some c.in_err-words_refusal.field-0.0) refl)

pub returns-clause-does : goal.returns-clause-does
returns-clause-does c =
    words_read _ _ _ _ _ _ _ _ _ _ _ _ _ c.load_words.ensures c.in_ok-words_refusal.ensures refl c.fill_state.ensures.0 c.fill_state.ensures.1 c.fill_context.ensures.does c.fill_candidates.ensures c.job_of.ensures
