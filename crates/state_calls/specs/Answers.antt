-- What the Result of a call on a lent state says, as the outcome that the definition has. Assumes nothing: these are definitions.
use Rattle.std.specs.Prelude.{ℕ, Bool, false, List, [], take, Result, Ok, Err}
use Rattle.def_kinds.specs.declared.AbstractValue.{AbstractValue}
use Rattle.def_effects.specs.declared.Session.{Session}
use Rattle.def_effects.specs.declared.MutationResult.{MutationResult}
use Rattle.def_effects.specs.declared.MutationResult.TheVariants as Mutation
use Rattle.def_transfer.specs.Monad.{Done}
use Rattle.def_refusals.specs.declared.Refusal.{Refusal}
use Rattle.def_refusals.specs.Verdicts.{number_of}
use Rattle.state_calls.specs.declared.KindAnswer.{KindAnswer}
use Rattle.state_calls.specs.declared.MutationAnswer.{MutationAnswer}
use Rattle.state_calls.specs.Calls.{Outcome, no_kind}
use Rattle.state_calls.specs.Plain.{leaving}

-- with a refusal: its number, the empty answer, and the session as it was lent; else 0, the answer and the session after it
-- the lists are those that the call left
abbrev pub outcome : {A B : Type 0} → A → (B → A) → (B → Session) → List ℕ → List ℕ → Session → Result B Refusal → Outcome A
outcome empty answer session vs ss s (Ok b) = leaving 0 (answer b) vs ss (session b)
outcome empty answer session vs ss s (Err r) = leaving (number_of r) empty vs ss s

-- of a call that asks for a kind
abbrev pub kind_outcome : List ℕ → List ℕ → Session → Result KindAnswer Refusal → Outcome AbstractValue
kind_outcome = outcome no_kind (λ (a : KindAnswer). a.value) (λ (a : KindAnswer). a.session)

-- of a mutation
abbrev pub mutation_outcome : List ℕ → List ℕ → Session → Result MutationAnswer Refusal → Outcome MutationResult
mutation_outcome = outcome Mutation.None (λ (a : MutationAnswer). a.result) (λ (a : MutationAnswer). a.session)

-- of a call that tests, or says whether it acted: the session stays
abbrev pub test_outcome : List ℕ → List ℕ → Session → Result Bool Refusal → Outcome Bool
test_outcome vs ss s = outcome false (λ b. b) (λ b. s) vs ss s

-- of a call that only acts: the session stays
abbrev pub done_outcome : List ℕ → List ℕ → Session → Result Done Refusal → Outcome Done
done_outcome vs ss s = outcome tt (λ d. d) (λ d. s) vs ss s

-- of a call that lists: how many there are
abbrev pub count_outcome : List ℕ → List ℕ → Session → Result ℕ Refusal → Outcome ℕ
count_outcome vs ss s = outcome 0 (λ n. n) (λ n. s) vs ss s

-- of a call that lists: the words up to that many, of the list that it wrote
abbrev pub listed_outcome : List ℕ → List ℕ → List ℕ → Session → Result ℕ Refusal → Outcome (List ℕ)
listed_outcome out vs ss s = outcome [] (λ n. take n out) (λ n. s) vs ss s
