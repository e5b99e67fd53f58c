-- `image_infer::infer_image` meets its contract: what it leaves, its pieces, what is zero; what that means on plain tables is a law. Assumes nothing.
use mathlib.Core.Path.{ap, ◌∙◌}
use Rattle.lent_copies.specs.Copies.{zeros}
use Rattle.image_outcome.specs.Inferring.{pieces_of}
use Rattle.image_outcome.proofs.Laws.Pieces.{leaves_written}
use Rattle.image_outcome.proofs.Laws.Full.{emptied_kept}
use Rattle.image_means.proofs.Laws.Inferred.{inferred_is}
use Rattle.image_infer.proofs.infer_image.Goals as goal

pub returns-clause-does : goal.returns-clause-does
returns-clause-does c =
    let e = c.settle.ensures ∙ c.run_image-shown.ensures.does in (e, ap pieces_of e ∙ leaves_written _ _ _ _ _ _ _ _ _, c.clear_work.ensures.words ∙ ap zeros c.run_image-shown.auto.words, c.clear_work.ensures.context ∙ emptied_kept c.args.context.now c.run_image-shown.new.context c.run_image-shown.ensures.kept, c.clear_work.ensures.candidates ∙ ap zeros c.run_image-shown.auto.candidates, c.clear_work.ensures.scratch64 ∙ ap zeros c.run_image-shown.auto.scratch64, c.clear_work.ensures.scratch32 ∙ ap zeros c.run_image-shown.auto.scratch32, inferred_is _)
