-- `call_apply::apply_signature` meets its contract: a class refuses it, or the transfer decides; what it means on plain tables, and isolation, follow. Assumes nothing.
use Rattle.std.specs.Prelude.{Result, Ok, Err, refl, ◌≡◌}
use Rattle.std.proofs.Common.{sym, subst, ◌∙◌}
use Rattle.def_refusals.specs.declared.Refusal.{Refusal}
use Rattle.def_refusals.proofs.Laws.Verdicts.{number_some, class_ok, class_is}
use Rattle.laws_monad.proofs.Laws.Answers.{passes}
use Rattle.lent_work.specs.declared.Run.{Run}
use Rattle.call_outcome.specs.declared.Applied.{Applied}
use Rattle.lent_copies.proofs.Laws.Copy.{cleared}
use Rattle.call_outcome.proofs.Laws.Outcome.{Ends, outcome_refused, outcome_told}
use Rattle.call_outcome.proofs.Laws.Isolation.{isolated}
use Rattle.call_means.proofs.Laws.CallMeans.{meant}
use Rattle.call_apply.proofs.apply_signature.Goals as goal

pub returns-in-Err-clause-meets : goal.returns-in-Err-clause-meets
returns-in-Err-clause-meets c =
    let h = outcome_refused _ _ _ _ _ _ _ _ _ _ _ _ _ _ _ (sym (class_is _ _ c.in-Err.is) ∙ c.call_class-verdict.ensures) (number_some c.in-Err.refusal) (cleared _ _ (c.fill.ensures.after (λ y h. h))) c.clear_scratch.ensures.0 c.clear_scratch.ensures.1 in (h, meant _ _ h, isolated _ _ h)

pub returns-clause-meets : goal.returns-clause-meets
returns-clause-meets c =
    let run = c.in_ok-run.run' in
    let a : Result Applied Refusal = Ok (record { count = run.listed; entries = run.entries; session = run.session; flag = run.flag }) in
    let ends : Ends c.attempt-ran.result a = subst (λ (x : Result Run Refusal). Ends x a) (sym c.in_ok-run.was) refl in
    let h = outcome_told _ _ _ _ _ _ _ _ _ _ _ _ _ _ _ _ _ _ _ _ _ _ _ c.call_class-verdict.ensures (class_ok _ _ c.in_default.is) (cleared _ _ (c.fill.ensures.after (λ y h. h))) c.attempt-ran.ensures.does c.attempt-ran.auto.scratch64 c.attempt-ran.auto.scratch32 c.clear_scratch-2.ensures.0 c.clear_scratch-2.ensures.1 ends in (h, meant _ _ h, isolated _ _ h)

pub returns-in_err-run-clause-meets : goal.returns-in_err-run-clause-meets
returns-in_err-run-clause-meets c =
    let q = c.in_err-run.field-0.0 in
    let a : Result Applied Refusal = c.from_residual.result in
    let e : a ≡ Err q = passes a q c.from_residual.ensures.1 in
    let ends : Ends c.attempt-ran.result a = subst (λ (x : Result Applied Refusal). Ends c.attempt-ran.result x) (sym e) (subst (λ (x : Result Run Refusal). Ends x (Err q)) (sym c.in_err-run.was) refl) in
    let h = outcome_told _ _ _ _ _ _ _ _ _ _ _ _ _ _ _ _ _ _ _ _ _ _ _ c.call_class-verdict.ensures (class_ok _ _ c.in_default.is) (cleared _ _ (c.fill.ensures.after (λ y h. h))) c.attempt-ran.ensures.does c.attempt-ran.auto.scratch64 c.attempt-ran.auto.scratch32 c.clear_scratch-2.ensures.0 c.clear_scratch-2.ensures.1 ends in (h, meant _ _ h, isolated _ _ h)
