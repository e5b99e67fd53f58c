-- `image_run::shown_of` meets its contract: a refusal's number, or what the call answered. Assumes nothing.
use mathlib.Core.Path.{refl, sym, ap, ◌∙◌}
use Rattle.std.specs.Prelude.{Result, Ok, Err}
use Rattle.def_refusals.specs.declared.Refusal.{Refusal}
use Rattle.def_refusals.proofs.Laws.Verdicts.{number_some}
use Rattle.laws_monad.proofs.Laws.Answers.{passes}
use Rattle.call_outcome.specs.declared.Applied.{Applied}
use Rattle.call_outcome.specs.Calls.{told}
use Rattle.image_outcome.specs.Inferring.{answered}
use Rattle.image_outcome.proofs.Laws.Inferring.{answered_refused, answered_ran}
use Rattle.image_run.proofs.shown_of.Goals as goal

pub returns-in_err-applied : goal.returns-in_err-applied
returns-in_err-applied c =
    rw (passes _ _ c.from_residual.ensures.1) (λ s f. answered_refused (told s f (Err c.in_err-applied.field-0.0)) _ (number_some c.in_err-applied.field-0.0) refl ∙ ap (λ (x : Result Applied Refusal). answered (told s f x)) (sym c.in_err-applied.was))

pub returns : goal.returns
returns c =
    λ s f. answered_ran (told s f (Ok c.in_ok-applied.applied)) refl ∙ ap (λ (x : Result Applied Refusal). answered (told s f x)) (sym c.in_ok-applied.was)
