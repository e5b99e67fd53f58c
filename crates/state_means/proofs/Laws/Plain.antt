-- Each call on a lent state, where it is not refused, does what the definition does on plain tables. Assumes nothing.
use Prim.Native.Nat.{ℕ, zero, suc, ◌+◌, ◌^◌, ◌≤◌, ◌<◌}
use Rattle.std.proofs.Common.{arith, ltb-true, leb-true}
use Rattle.std.specs.Prelude.{◌≡◌, Bool, not, List, leb}
use Rattle.std.proofs.Math.Path.{refl, sym, subst}
use Rattle.std.proofs.Math.Bool.{true, false}
use Rattle.std.proofs.lemmas.Bool.{not-false}
use Rattle.base_tests.proofs.Laws.Bool.{or_no_first, or_no_second}
use Rattle.def_kinds.specs.declared.AbstractValue.{AbstractValue}
use Rattle.def_kinds.specs.Reasons.{reason_count, are_reasons}
use Rattle.def_effects.specs.declared.Span.{Span}
use Rattle.def_effects.specs.declared.Session.{Session}
use Rattle.def_effects.specs.declared.MutateVariant.{MutateVariant}
use Rattle.def_effects.specs.declared.MutationResult.TheVariants as Result
use Rattle.def_effects.specs.Places.{no_span}
use Rattle.def_transfer.specs.Accepted.{not_anumber}
use Rattle.def_transfer.specs.Monad.{Res, ok, refused, M}
use Rattle.def_transfer.specs.Tables.{World}
use Rattle.def_transfer.specs.Pure.{pure}
use Rattle.def_transfer.specs.State as State
use Rattle.def_transfer.specs.Step as Step
use Rattle.refuse_entries.specs.Words.{state_refusal, identifiers}
use Rattle.refuse_entries.proofs.Laws.Accepted.{accepted_lent}
use Rattle.state_ops.proofs.Laws.Text.{initialize_lists, define_lists, assign_lists, append_lists, freeze_lists, phi_lists}
use Rattle.state_calls.specs.Calls as Calls
use Rattle.state_calls.specs.Calls.{Lent, outcome_of, call_with, start, rest_of, outside, refusal1, refusal2, no_kind, used}
use Rattle.state_calls.specs.Plain.{plainly, MeansPlain}
use Rattle.state_calls.proofs.Laws.Call.{state_0, in_range, inside1, kind_runs, write_runs, defined_runs}
use Rattle.state_calls.proofs.Laws.More.{mutate_ref, mutate_kind}
use Rattle.def_faithful.specs.Ranges.{Number, Reasoned}
use Rattle.def_faithful.specs.Faithful.{Faithful}
use Rattle.def_faithful.proofs.Laws.Means.{Related, Rel, Means, initialize_means}
use Rattle.def_faithful.proofs.Laws.PureFaithful.{pure_faithful}
use Rattle.def_faithful.proofs.Laws.Touching.{kind_with_span_means, define_means, assign_means, freeze_means, mutate_means}
use Rattle.state_means.proofs.Laws.ListsFaithful.{lists_faithful}
use Rattle.state_means.proofs.Laws.Operations.{is_defined_means, may_write_means, append_alias_means, infer_phi_means}

-- ---- a plain world that is related to lent lists is what they mean

module _ (vs ss : List ℕ) (s : Session) (z : state_refusal vs ss s.next s.access ≡ 0) where
  -- the tables of an accepted state
  unfoldable faithful : Faithful (identifiers ss) Lent
  faithful = lists_faithful (identifiers ss) (accepted_lent vs ss s.next s.access z).most

  starts : (ref : Bool) → Related faithful (start ref vs ss s) (plainly ref vs ss s)
  unfolding faithful lists_faithful pure_faithful
  starts ref =
      let l = accepted_lent vs ss s.next s.access z in record {
        state = record { fit_values = l.values_length; values = refl; fit_sets = l.sets_length; sets = refl; flag = refl };
        rest = record {
          session = record { low = l.next_low; next = refl; access = refl; span = refl; entries = refl };
          fit = tt;
          context = refl;
          unused = λ v l. refl;
          work = record { initialized = refl; listed = refl; freeze_entries = refl; entries = refl };
        };
      }

  ends : (ref : Bool) (us rs : List ℕ) (t : Session) (u : World pure) → Related faithful (start ref us rs t) u → u ≡ plainly ref us rs t
  unfolding faithful lists_faithful pure_faithful
  ends ref us rs t u h = λ j. record {
    state = record { values = sym h.state.values j; sets = sym h.state.sets j; is_function_expression = sym h.state.flag j };
    rest = record {
      session = record { next = sym h.rest.session.next j; access = sym h.rest.session.access j; span = sym h.rest.session.span j; entries = sym h.rest.session.entries j };
      context = sym h.rest.context j;
      work = record {
        initialized = sym h.rest.work.initialized j;
        listed = sym h.rest.work.listed j;
        freeze_entries = sym h.rest.work.freeze_entries j;
        entries = sym h.rest.work.entries j;
      };
    };
  }

-- ---- a call

-- what is known of a call that is not refused: its state is accepted, over its tables the computation does what it does over plain ones, and it ends
record Runs {A : Type 0} (Q : A → Type 0) (ref : Bool) (m : M (World Lent) A) (p : M (World pure) A) (vs ss : List ℕ) (s : Session) : Type 0 where
  accepted : state_refusal vs ss s.next s.access ≡ 0
  means : Means (faithful vs ss s accepted) Q m p
  answer : A
  values : List ℕ
  sets : List ℕ
  session : Session
  runs : m (start ref vs ss s) ≡ ok answer (start ref values sets session)

module _ {A : Type 0} (Q : A → Type 0) (ref : Bool) (empty : A) (m : M (World Lent) A) (p : M (World pure) A) (vs ss : List ℕ) (s : Session) where
  run_plain : Runs Q ref m p vs ss s → MeansPlain ref p vs ss s (outcome_of empty (m (start ref vs ss s)))
  unfolding MeansPlain outcome_of
  run_plain r _ = subst
      (λ (x : Res (World Lent) A). p (plainly ref vs ss s) ≡ ok (outcome_of empty x).answer (plainly ref (outcome_of empty x).values (outcome_of empty x).sets (outcome_of empty x).session))
      (sym r.runs) (go (p (plainly ref vs ss s)) (subst (λ (x : Res (World Lent) A). Rel F Q x (p (plainly ref vs ss s))) r.runs (r.means.runs _ _ (starts vs ss s r.accepted ref))))
    where
      F : Faithful (identifiers ss) Lent
      F = faithful vs ss s r.accepted

      go : (y : Res (World pure) A) → Rel F Q (ok r.answer (start ref r.values r.sets r.session)) y → y ≡ ok r.answer (plainly ref r.values r.sets r.session)
      go (ok b u) e = λ j. ok (sym e.0 j) (ends vs ss s r.accepted ref r.values r.sets r.session u e.2 j)
      go (refused k u) e = absurd e

  call_plain : (k : ℕ) → (k ≡ 0 → Runs Q ref m p vs ss s) → MeansPlain ref p vs ss s (call_with ref k empty m vs ss s)
  unfolding call_with MeansPlain
  call_plain zero h = run_plain (h refl)
  call_plain (suc k) h = λ e. absurd (omega arith)

-- ---- ranges of the arguments

inside : (ss : List ℕ) (i : ℕ) → outside ss i ≡ false → i < identifiers ss
unfolding outside
inside ss i e = ltb-true _ _ (not-false _ e)

number : (n v : ℕ) → n ≤ 512 → not_anumber n v ≡ false → Number v
unfolding not_anumber
number n v few e =
    let h : v < 512 + n = ltb-true _ _ (not-false _ (or_no_second (not (leb 1 v)) _ e)) in
    record { low = leb-true 1 v (not-false _ (or_no_first (not (leb 1 v)) _ e)); high = omega arith }

reasoned : (a : AbstractValue) → not (are_reasons a.reason) ≡ false → Reasoned a
unfolding are_reasons
reasoned a e = record { word = let h : a.reason < 2 ^ reason_count = ltb-true _ _ (not-false _ e) in omega arith }

-- ---- the calls

module _ (vs ss : List ℕ) (s : Session) where
  pub kind_with_span_plain : (i : ℕ) (span : Span) → MeansPlain false (State.kind_with_span i span) vs ss s (Calls.kind_with_span vs ss s i span)
  unfolding Calls.kind_with_span refusal1
  kind_with_span_plain i span = call_plain _ false no_kind (State.kind_with_span i span) (State.kind_with_span i span) vs ss s (refusal1 vs ss s i) (λ z. record {
    accepted = state_0 vs ss s _ _ z;
    means = kind_with_span_means i span (inside ss i (in_range vs ss s _ _ z));
    answer = _;
    values = vs;
    sets = ss;
    session = _;
    runs = kind_runs false vs ss s i span (inside1 vs ss s i z);
  })

  pub kind_plain : (i : ℕ) → MeansPlain false (State.kind i) vs ss s (Calls.kind vs ss s i)
  unfolding Calls.kind Calls.kind_with_span State.kind
  kind_plain i = kind_with_span_plain i no_span

  pub may_write_plain : (i : ℕ) → MeansPlain false (State.may_write i) vs ss s (Calls.may_write vs ss s i)
  unfolding Calls.may_write refusal1
  may_write_plain i = call_plain _ false false (State.may_write i) (State.may_write i) vs ss s (refusal1 vs ss s i) (λ z. record {
    accepted = state_0 vs ss s _ _ z;
    means = may_write_means i;
    answer = _;
    values = vs;
    sets = ss;
    session = s;
    runs = write_runs vs ss s i;
  })

  pub is_defined_plain : (i : ℕ) → MeansPlain false (State.is_defined i) vs ss s (Calls.is_defined vs ss s i)
  unfolding Calls.is_defined refusal1
  is_defined_plain i = call_plain _ false false (State.is_defined i) (State.is_defined i) vs ss s (refusal1 vs ss s i) (λ z. record {
    accepted = state_0 vs ss s _ _ z;
    means = is_defined_means i;
    answer = _;
    values = vs;
    sets = ss;
    session = s;
    runs = defined_runs vs ss s i;
  })

  pub initialize_plain : (v : ℕ) (a : AbstractValue) → MeansPlain false (State.initialize v a) vs ss s (Calls.initialize vs ss s v a)
  unfolding Calls.initialize
  initialize_plain v a = call_plain _ false tt (State.initialize v a) (State.initialize v a) vs ss s _ (λ z.
      let e = in_range vs ss s _ _ z in
      let l = accepted_lent vs ss s.next s.access (state_0 vs ss s _ _ z) in record {
        accepted = state_0 vs ss s _ _ z;
        means = initialize_means v a (number (identifiers ss) v l.most (or_no_first _ _ e)) (reasoned a (or_no_second (not_anumber (identifiers ss) v) _ e));
        answer = tt;
        values = _;
        sets = ss;
        session = s;
        runs = initialize_lists pure false (rest_of false s) vs ss v a;
      })

  pub define_plain : (i v : ℕ) → MeansPlain false (State.define i v) vs ss s (Calls.define vs ss s i v)
  unfolding Calls.define
  define_plain i v = call_plain _ false tt (State.define i v) (State.define i v) vs ss s _ (λ z.
      let e = in_range vs ss s _ _ z in
      let l = accepted_lent vs ss s.next s.access (state_0 vs ss s _ _ z) in record {
        accepted = state_0 vs ss s _ _ z;
        means = define_means i v (inside ss i (or_no_first _ _ e)) (number (identifiers ss) v l.most (or_no_second (outside ss i) _ e));
        answer = tt;
        values = vs;
        sets = _;
        session = s;
        runs = define_lists pure false (rest_of false s) vs ss i v;
      })

  pub assign_plain : (into from : ℕ) → MeansPlain false (State.assign into from) vs ss s (Calls.assign vs ss s into from)
  unfolding Calls.assign refusal2
  assign_plain into from = call_plain _ false tt (State.assign into from) (State.assign into from) vs ss s (refusal2 vs ss s into from) (λ z.
      let e = in_range vs ss s _ _ z in record {
        accepted = state_0 vs ss s _ _ z;
        means = assign_means into from (inside ss into (or_no_first _ _ e)) (inside ss from (or_no_second (outside ss into) _ e));
        answer = tt;
        values = _;
        sets = _;
        session = s;
        runs = assign_lists pure false (rest_of false s) vs ss into from;
      })

  pub append_alias_plain : (place value : ℕ) → MeansPlain false (State.append_alias place value) vs ss s (Calls.append_alias vs ss s place value)
  unfolding Calls.append_alias refusal2
  append_alias_plain place value = call_plain _ false tt (State.append_alias place value) (State.append_alias place value) vs ss s (refusal2 vs ss s place value) (λ z. record {
    accepted = state_0 vs ss s _ _ z;
    means = append_alias_means place value (inside ss place (or_no_first _ _ (in_range vs ss s _ _ z)));
    answer = tt;
    values = vs;
    sets = _;
    session = s;
    runs = append_lists pure false (rest_of false s) vs ss place value;
  })

  pub freeze_plain : (i reason : ℕ) → MeansPlain false (State.freeze i reason) vs ss s (Calls.freeze vs ss s i reason)
  unfolding Calls.freeze
  freeze_plain i reason = call_plain _ false false (State.freeze i reason) (State.freeze i reason) vs ss s _ (λ z. record {
    accepted = state_0 vs ss s _ _ z;
    means = freeze_means i reason;
    answer = _;
    values = _;
    sets = ss;
    session = s;
    runs = freeze_lists pure false (rest_of false s) vs ss i reason;
  })

  pub infer_phi_plain : (place : ℕ) (operands : List ℕ) → MeansPlain false (State.infer_phi place operands) vs ss s (Calls.infer_phi vs ss s place operands)
  unfolding Calls.infer_phi
  infer_phi_plain place operands = call_plain _ false tt (State.infer_phi place operands) (State.infer_phi place operands) vs ss s _ (λ z. record {
    accepted = state_0 vs ss s _ _ z;
    means = infer_phi_means place operands (inside ss place (or_no_first _ _ (in_range vs ss s _ _ z)));
    answer = tt;
    values = vs;
    sets = _;
    session = s;
    runs = phi_lists pure false (rest_of false s) vs ss place operands;
  })

  pub mutate_plain : (ref : Bool) (variant : MutateVariant) (i : ℕ) (span : Span) → MeansPlain ref (Step.mutate variant (used i span)) vs ss s (Calls.mutate vs ss s ref variant i span)
  unfolding Calls.mutate refusal1
  mutate_plain true variant i span = call_plain _ true Result.None (Step.mutate variant (used i span)) (Step.mutate variant (used i span)) vs ss s (refusal1 vs ss s i) (λ z. record {
    accepted = state_0 vs ss s _ _ z;
    means = mutate_means variant (used i span) (inside ss i (in_range vs ss s _ _ z));
    answer = _;
    values = vs;
    sets = ss;
    session = s;
    runs = mutate_ref vs ss s variant i span;
  })
  mutate_plain false variant i span = call_plain _ false Result.None (Step.mutate variant (used i span)) (Step.mutate variant (used i span)) vs ss s (refusal1 vs ss s i) (λ z. record {
    accepted = state_0 vs ss s _ _ z;
    means = mutate_means variant (used i span) (inside ss i (in_range vs ss s _ _ z));
    answer = _;
    values = vs;
    sets = ss;
    session = _;
    runs = mutate_kind vs ss s variant i span (inside1 vs ss s i z);
  })
