-- `image_infer::run_image` meets its contract: one law for each of its three ways. Assumes nothing.
use mathlib.Core.Path.{sym, refl, ◌∙◌}
use Rattle.lent_layout.specs.Context.{held}
use Rattle.laws_monad.proofs.Laws.Answers.{passes}
use Rattle.image_outcome.proofs.Laws.Inferring.{leaves_memory, leaves_refused, leaves_job}
use Rattle.image_infer.proofs.run_image.Goals as goal

pub returns-then-memory_wrong-clause-does : goal.returns-then-memory_wrong-clause-does
returns-then-memory_wrong-clause-does c =
    leaves_memory c.args.bytes.now _ c.args.values.now c.args.sets.now (held c.args.context.now) c.args.candidates.now _ _ _ c.args.output.now refl (sym c.if-memory_wrong.true ∙ c.memory_wrong.ensures)

pub returns-in_err-job-clause-does : goal.returns-in_err-job-clause-does
returns-in_err-job-clause-does c =
    rw (passes _ _ c.from_residual.ensures.1) (leaves_refused c.args.bytes.now _ c.args.values.now c.args.sets.now (held c.args.context.now) c.args.candidates.now _ _ _ _ _ _ _ _ _ c.args.output.now c.in_err-job.was refl (sym c.if-memory_wrong.false ∙ c.memory_wrong.ensures) c.read_image.ensures.does.0)

pub returns-clause-does : goal.returns-clause-does
returns-clause-does c =
    leaves_job c.args.bytes.now _ c.args.values.now c.args.sets.now (held c.args.context.now) c.args.candidates.now _ _ _ _ _ _ _ _ _ c.args.output.now c.args.scratch64.now c.args.scratch32.now _ c.in_ok-job.was (sym c.if-memory_wrong.false ∙ c.memory_wrong.ensures) refl refl refl c.read_image.ensures.does.0 c.read_image.auto.sets c.read_image.auto.candidates c.run_tables.ensures.does
