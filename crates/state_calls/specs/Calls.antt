-- What a public call on a lent state comes to: a refusal that leaves all as it was, or the definition run on the lent lists.
-- Assumes nothing: these are definitions.
use Rattle.std.specs.Prelude.{ℕ, zero, suc, Bool, false, not, ◌||◌, List, [], ◌∷◌, length, set, replicate, eqb, ltb, None}
use Rattle.base_tests.specs.Tests.{ite, any_of}
use Rattle.def_kinds.specs.declared.ValueKind.TheVariants.{Mutable}
use Rattle.def_kinds.specs.declared.AbstractValue.{AbstractValue}
use Rattle.def_kinds.specs.Reasons.{are_reasons, is_reason}
use Rattle.def_kinds.specs.Values.{mk}
use Rattle.def_effects.specs.declared.Span.{Span}
use Rattle.def_effects.specs.declared.Place.{Place}
use Rattle.def_effects.specs.declared.Session.{Session}
use Rattle.def_effects.specs.declared.MutateVariant.{MutateVariant}
use Rattle.def_effects.specs.declared.MutationResult.{MutationResult}
use Rattle.def_effects.specs.declared.MutationResult.TheVariants as Result
use Rattle.def_effects.specs.Places.{no_span}
use Rattle.def_transfer.specs.Accepted.{not_anumber, not_yet_handed_out}
use Rattle.def_transfer.specs.Monad.{Res, ok, refused, M, Done}
use Rattle.def_transfer.specs.Tables.{Tables, Rest, World}
use Rattle.def_transfer.specs.Pure as Pure
use Rattle.def_transfer.specs.State as State
use Rattle.def_transfer.specs.Step as Step
use Rattle.lent_sets.specs.Rows.{set_at}
use Rattle.base_sets.specs.Members.{values_of}
use Rattle.state_ops.specs.OnLists.{on_lists, lists}
use Rattle.refuse_entries.specs.Words.{state_refusal, identifiers}

-- ---- the world of a call on one state: the lent lists, the session, and an empty context, at which no operation of a state looks

abbrev pub Lent : Tables
Lent = on_lists Pure.pure

-- the ref flag of a mutated place comes with the call
abbrev pub context_with : Bool → Pure.Context
context_with ref = record {
  interned = [];
  cached = λ n. None;
  links = λ v. None;
  functions = λ f. record { context = []; inside = []; tracked = false };
  identifiers = λ i. record { ref = ref; hoisted = false; access = no_span; name = 0 };
  transitive = false;
  diagnostics = [];
}

abbrev pub rest_of : Bool → Session → Rest Lent
rest_of ref s = record { session = s; context = context_with ref; work = record { initialized = []; listed = []; freeze_entries = 0; entries = 0 } }

abbrev pub start : Bool → List ℕ → List ℕ → Session → World Lent
start ref vs ss s = lists Pure.pure false (rest_of ref s) vs ss

-- ---- a call: its refusal, its answer, the lists and the session after it

pub record Outcome (A : Type 0) : Type 0 where
  pub refusal : ℕ
  pub answer : A
  pub values : List ℕ
  pub sets : List ℕ
  pub session : Session

-- what a run of the definition leaves; with a number comes the empty answer
unfoldable pub outcome_of : {A : Type 0} → A → Res (World Lent) A → Outcome A
outcome_of empty (ok a w) = record { refusal = 0; answer = a; values = w.state.values; sets = w.state.sets; session = w.rest.session }
outcome_of empty (refused n w) = record { refusal = n; answer = empty; values = w.state.values; sets = w.state.sets; session = w.rest.session }

-- demand 1, after a refusal everything is as before: refused before anything is done, or the definition
unfoldable pub call_with : {A : Type 0} → Bool → ℕ → A → M (World Lent) A → List ℕ → List ℕ → Session → Outcome A
call_with ref zero empty m vs ss s = outcome_of empty (m (start ref vs ss s))
call_with ref (suc n) empty m vs ss s = record { refusal = suc n; answer = empty; values = vs; sets = ss; session = s }

abbrev pub call : {A : Type 0} → ℕ → A → M (World Lent) A → List ℕ → List ℕ → Session → Outcome A
call = call_with false

-- ---- refusals of a call: "order 1 to 5 over the whole input", the state and the arguments alike

-- the lower of the class of a state and the class of the arguments: whether one is out of range (3), whether one is unfit (4)
unfoldable pub worst : ℕ → Bool → Bool → ℕ
worst r out unfit = ite (eqb r 1) 1 (ite (eqb r 3 || out) 3 (ite (eqb r 4 || unfit) 4 0))

unfoldable pub refusal_of : List ℕ → List ℕ → Session → Bool → Bool → ℕ
refusal_of vs ss s = worst (state_refusal vs ss s.next s.access)

-- an identifier that is not in the list
unfoldable pub outside : List ℕ → ℕ → Bool
outside ss i = not (ltb i (identifiers ss))

-- the refusal of a call with one identifier, with two
unfoldable pub refusal1 : List ℕ → List ℕ → Session → ℕ → ℕ
refusal1 vs ss s i = refusal_of vs ss s (outside ss i) false

unfoldable pub refusal2 : List ℕ → List ℕ → Session → ℕ → ℕ → ℕ
refusal2 vs ss s i j = refusal_of vs ss s (outside ss i || outside ss j) false

-- ---- the calls

-- the empty answer where a kind is asked for
abbrev pub no_kind : AbstractValue
no_kind = mk Mutable 0

-- kind of a place with its span, and without
unfoldable pub kind_with_span : List ℕ → List ℕ → Session → ℕ → Span → Outcome AbstractValue
kind_with_span vs ss s i span = call (refusal1 vs ss s i) no_kind (State.kind_with_span i span) vs ss s

unfoldable pub kind : List ℕ → List ℕ → Session → ℕ → Outcome AbstractValue
kind vs ss s i = call (refusal1 vs ss s i) no_kind (State.kind i) vs ss s

-- the write test, and whether a place is defined
unfoldable pub may_write : List ℕ → List ℕ → Session → ℕ → Outcome Bool
may_write vs ss s i = call (refusal1 vs ss s i) false (State.may_write i) vs ss s

unfoldable pub is_defined : List ℕ → List ℕ → Session → ℕ → Outcome Bool
is_defined vs ss s i = call (refusal1 vs ss s i) false (State.is_defined i) vs ss s

-- a value gets an entry: 3 for no value number or no set of reasons, 4 for a number not handed out yet
unfoldable pub initialize : List ℕ → List ℕ → Session → ℕ → AbstractValue → Outcome Done
initialize vs ss s v a = call (refusal_of vs ss s (not_anumber (identifiers ss) v || not (are_reasons a.reason)) (not_yet_handed_out s.next v)) tt (State.initialize v a) vs ss s

-- a place gets one value
unfoldable pub define : List ℕ → List ℕ → Session → ℕ → ℕ → Outcome Done
define vs ss s i v = call (refusal_of vs ss s (outside ss i || not_anumber (identifiers ss) v) (not_yet_handed_out s.next v)) tt (State.define i v) vs ss s

unfoldable pub assign : List ℕ → List ℕ → Session → ℕ → ℕ → Outcome Done
assign vs ss s into from = call (refusal2 vs ss s into from) tt (State.assign into from) vs ss s

unfoldable pub append_alias : List ℕ → List ℕ → Session → ℕ → ℕ → Outcome Done
append_alias vs ss s place value = call (refusal2 vs ss s place value) tt (State.append_alias place value) vs ss s

-- freeze: 3 for a place that is not in the list or a reason that is none
unfoldable pub freeze : List ℕ → List ℕ → Session → ℕ → ℕ → Outcome Bool
freeze vs ss s i reason = call (refusal_of vs ss s (outside ss i || not (is_reason reason)) false) false (State.freeze i reason) vs ss s

-- phi: 3 for any operand that is not in the list
unfoldable pub infer_phi : List ℕ → List ℕ → Session → ℕ → List ℕ → Outcome Done
infer_phi vs ss s place operands = call (refusal_of vs ss s (outside ss place || any_of (outside ss) operands) false) tt (State.infer_phi place operands) vs ss s

-- a place as a call names it: of one that is mutated only identifier and span are looked at
abbrev pub used : ℕ → Span → Place
used i span = record { identifier = i; effect = 0; reactive = 0; span = span }

-- the mutation answer of a place, by its variant and with its ref flag
unfoldable pub mutate : List ℕ → List ℕ → Session → Bool → MutateVariant → ℕ → Span → Outcome MutationResult
mutate vs ss s ref variant i span = call_with ref (refusal1 vs ss s i) Result.None (Step.mutate variant (used i span)) vs ss s

-- ---- the values of a place, in a lent list

-- some numbers in a list, from a place of it on
unfoldable pub written : List ℕ → ℕ → List ℕ → List ℕ
written [] k out = out
written (v ∷ vs) k out = written vs (suc k) (set out k v)

-- 1 for a list that has not 1,024 words
unfoldable pub values_refusal : List ℕ → List ℕ → Session → ℕ → ℕ → ℕ
values_refusal vs ss s i room = ite (eqb room 1024) (refusal1 vs ss s i) 1

-- how many values the place has; "with a number come zero effects and count"
-- nothing of the state changes
unfoldable pub values_answer : List ℕ → List ℕ → Session → ℕ → List ℕ → Outcome ℕ
values_answer vs ss s i out = record {
  refusal = values_refusal vs ss s i (length out);
  answer = ite (eqb (values_refusal vs ss s i (length out)) 0) (length (values_of (set_at ss i))) 0;
  values = vs;
  sets = ss;
  session = s;
}

-- the values, ascending, and zeros behind them; zeros alone after a refusal
unfoldable pub values_listed : List ℕ → List ℕ → Session → ℕ → List ℕ → List ℕ
values_listed vs ss s i out = ite (eqb (values_refusal vs ss s i (length out)) 0) (written (values_of (set_at ss i)) 0 (replicate (length out) 0)) (replicate (length out) 0)
