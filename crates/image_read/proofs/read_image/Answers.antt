-- `image_read::read_image` meets its contract: a law for each of its ways. Assumes nothing.
use Rattle.lent_copies.proofs.Laws.Copy.{cleared}
use Rattle.image_job.proofs.Laws.Reading.{read_lent, read_length, read_words_is, words_fit, whole_length}
use mathlib.Core.Path.{refl, sym, ap, ◌∙◌}
use lib.Seq.{length-take-le}
use Rattle.lent_copies.specs.Copies.{zeros}
use Rattle.image_read.proofs.read_image.Goals as goal
use Rattle.image_read.proofs.read_image.Goals.{then-lent_wrong-via-then-lent_wrong, then-lent_wrong-via-else-lent_wrong+then-length_wrong}

pub returns-then-lent_wrong-clause-does : goal.returns-then-lent_wrong-clause-does
returns-then-lent_wrong-clause-does c = (
  elim c.then-lent_wrong.branch [
    | then-lent_wrong-via-then-lent_wrong w ↦ read_lent _ _ _ _ _ _ _ (sym w.if-lent_wrong.true ∙ c.lent_wrong.ensures) refl
    | then-lent_wrong-via-else-lent_wrong+then-length_wrong w ↦ read_length _ _ _ _ _ _ _ (sym w.if-lent_wrong.false ∙ c.lent_wrong.ensures) (sym w.if-length_wrong.true ∙ w.length_wrong.ensures) refl
  ],
  cleared _ _ (c.fill.ensures.after (λ y h. h)),
)

pub slice_bounds-read_words-end : goal.slice_bounds-read_words-end
slice_bounds-read_words-end c = words_fit _ _ _ _ _ _ (sym c.if-lent_wrong.false ∙ c.lent_wrong.ensures) (sym c.if-length_wrong.false ∙ c.length_wrong.ensures)

pub slice_bounds-read_words-end-2 : goal.slice_bounds-read_words-end-2
slice_bounds-read_words-end-2 c =
    sym (length-take-le _ _ (words_fit _ _ _ _ _ _ (sym c.if-lent_wrong.false ∙ c.lent_wrong.ensures) (sym c.if-length_wrong.false ∙ c.length_wrong.ensures)))

pub returns-clause-does : goal.returns-clause-does
returns-clause-does c =
    (read_words_is _ _ _ _ _ _ _ _ (sym c.if-lent_wrong.false ∙ c.lent_wrong.ensures) (sym c.if-length_wrong.false ∙ c.length_wrong.ensures) (length-take-le _ _ (words_fit _ _ _ _ _ _ (sym c.if-lent_wrong.false ∙ c.lent_wrong.ensures) (sym c.if-length_wrong.false ∙ c.length_wrong.ensures))) c.read_words-job.ensures.does, (cleared _ _ (c.fill-2.ensures.after (λ y h. h))) ∙ ap zeros (whole_length c.read_words-job.new.words _ _ (words_fit _ _ _ _ _ _ (sym c.if-lent_wrong.false ∙ c.lent_wrong.ensures) (sym c.if-length_wrong.false ∙ c.length_wrong.ensures)) c.read_words-job.auto.words))
