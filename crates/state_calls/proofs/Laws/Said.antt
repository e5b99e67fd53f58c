-- What a Result says where it is the refusal that a test came to. Assumes nothing.
use Rattle.std.specs.Prelude.{ℕ, ◌≡◌, Bool, false, List, Result, Ok, Err, IsErrAnd}
use Rattle.std.proofs.Common.{ap, ◌∙◌}
use Rattle.def_kinds.specs.declared.AbstractValue.{AbstractValue}
use Rattle.def_effects.specs.declared.Session.{Session}
use Rattle.def_effects.specs.declared.MutationResult.{MutationResult}
use Rattle.def_effects.specs.declared.MutationResult.TheVariants as Mutation
use Rattle.def_transfer.specs.Monad.{Done}
use Rattle.def_refusals.specs.declared.Refusal.{Refusal}
use Rattle.def_refusals.specs.Verdicts.{number_of}
use Rattle.state_calls.specs.declared.KindAnswer.{KindAnswer}
use Rattle.state_calls.specs.declared.MutationAnswer.{MutationAnswer}
use Rattle.state_calls.specs.Calls.{Outcome, no_kind}
use Rattle.state_calls.specs.Plain.{leaving}
use Rattle.state_calls.specs.Answers.{outcome, kind_outcome, mutation_outcome, test_outcome, done_outcome, count_outcome}

module _ (vs ss : List ℕ) (s : Session) (r : Refusal) where
  err_said : {A B : Type 0} (empty : A) (answer : B → A) (session : B → Session) (w : Result B Refusal) (o : Outcome A)
      → IsErrAnd w (λ e. e ≡ r) → leaving (number_of r) empty vs ss s ≡ o → outcome empty answer session vs ss s w ≡ o
  err_said empty answer session (Err e) o h p = ap (λ (x : Refusal). leaving (number_of x) empty vs ss s) h ∙ p
  err_said empty answer session (Ok b) o h p = absurd h

  pub kind_said : (w : Result KindAnswer Refusal) (o : Outcome AbstractValue) → IsErrAnd w (λ e. e ≡ r) → leaving (number_of r) no_kind vs ss s ≡ o → kind_outcome vs ss s w ≡ o
  kind_said w o h p = err_said no_kind (λ (a : KindAnswer). a.value) (λ (a : KindAnswer). a.session) w o h p

  pub mutation_said : (w : Result MutationAnswer Refusal) (o : Outcome MutationResult) → IsErrAnd w (λ e. e ≡ r) → leaving (number_of r) Mutation.None vs ss s ≡ o → mutation_outcome vs ss s w ≡ o
  mutation_said w o h p = err_said Mutation.None (λ (a : MutationAnswer). a.result) (λ (a : MutationAnswer). a.session) w o h p

  pub test_said : (w : Result Bool Refusal) (o : Outcome Bool) → IsErrAnd w (λ e. e ≡ r) → leaving (number_of r) false vs ss s ≡ o → test_outcome vs ss s w ≡ o
  test_said w o h p = err_said false (λ b. b) (λ b. s) w o h p

  pub done_said : (w : Result Done Refusal) (o : Outcome Done) → IsErrAnd w (λ e. e ≡ r) → leaving (number_of r) tt vs ss s ≡ o → done_outcome vs ss s w ≡ o
  done_said w o h p = err_said tt (λ d. d) (λ d. s) w o h p

  pub count_said : (w : Result ℕ Refusal) (o : Outcome ℕ) → IsErrAnd w (λ e. e ≡ r) → leaving (number_of r) 0 vs ss s ≡ o → count_outcome vs ss s w ≡ o
  count_said w o h p = err_said 0 (λ n. n) (λ n. s) w o h p
