-- Accepted states stay accepted: a public call on an accepted state leaves one, whether it is refused or not. Assumes nothing.
use Rattle.std.specs.Prelude.{◌≡◌, Bool, ◌||◌, eqb, Option, None, Some}
use Rattle.std.proofs.Math.Path.{refl}
use Rattle.std.proofs.Common.{sym, ap, subst, mod-eq_of_lt, arith}
use Rattle.std.proofs.Math.Bool.{true, false, not}
use mathlib.Core.List.{List, [], ◌∷◌}
use Prim.Native.Nat.{ℕ, zero, suc, ◌^◌, ◌≤◌, ◌<◌}
use Rattle.std.proofs.Math.Pow.{pow-lt}
use borrow.Author.Tests.{ltb-true, lt-ltb, not-false}
use Rattle.base_tests.specs.Tests.{ite, All, any_of, is_some}
use Rattle.base_sets.specs.Members.{members, digits_from, singleton, union, values_of, bits_of}
use Rattle.base_sets.proofs.Laws.Member.{all_map, all_singleton, all_union}
use Rattle.def_kinds.specs.declared.ValueKind.TheVariants.{Frozen}
use Rattle.def_kinds.specs.declared.AbstractValue.{AbstractValue}
use Rattle.def_kinds.specs.Reasons.{are_reasons, is_reason, single}
use Rattle.def_kinds.specs.Values.{mk, default}
use Rattle.def_effects.specs.declared.Span.{Span}
use Rattle.def_effects.specs.declared.Session.{Session}
use Rattle.def_effects.specs.declared.MutateVariant.{MutateVariant}
use Rattle.def_effects.specs.Places.{no_span}
use Rattle.def_transfer.specs.Accepted.{not_anumber, not_yet_handed_out}
use Rattle.def_transfer.specs.Monad.{Res, ok, M, and_then, ◌>>=◌, return, when◌then◌else◌}
use Rattle.def_transfer.specs.Tables.{World}
use Rattle.def_transfer.specs.Pure as Pure
use Rattle.def_transfer.specs.State as State
use Rattle.def_transfer.specs.State.{from_identifier}
use Rattle.def_transfer.specs.Step as Step
use Rattle.def_effects.specs.declared.MutationResult.TheVariants as Result
use Rattle.def_effects.specs.Mutation.{is_strict, result_of}
use Rattle.lent_values.specs.Cells.{value_at, put_value}
use Rattle.lent_sets.specs.Rows.{set_at, put_set, appended, append_set}
use Rattle.state_ops.specs.Lists.{freeze_all, freezes, frozen_values, inserted, own_inserted, own_value, assigned_values, own_sets, set_or_own, assigned_sets, unions, phi_sets}
use Rattle.state_ops.proofs.Laws.Text.{initialize_lists, define_lists, assign_lists, append_lists, freeze_lists, phi_lists}
use Rattle.refuse_entries.specs.Words.{state_refusal, identifiers}
use Rattle.base_tests.proofs.Laws.Bool.{or_no_first, or_no_second}
use Rattle.base_tests.proofs.Laws.Below.{list_all_is}
use Rattle.state_calls.specs.Calls as Calls
use Rattle.state_calls.specs.Calls.{Lent, outcome_of, call_with, start, rest_of, outside, refusal1, refusal2, no_kind}
use Rattle.lent_work.specs.Access.{access_of}
use Rattle.state_ops.specs.Use.{after_use}
use Rattle.state_calls.proofs.Laws.Call.{in_range, fit, inside1, kind_runs, write_runs, defined_runs}
use Rattle.lent_work.proofs.Laws.Access.{access_in}
use Rattle.laws_state_stays.proofs.Laws.Fits.{Good, ValuesFit, SetsFit, SessionFit, values_of_is, sets_of, session_of_is, accepted_of, own_good, value_stays, set_stays}
use Rattle.laws_state_stays.specs.Stays.{Stays}

-- ---- a call: refused, or run

module _ {A : Type 0} (ref : Bool) (empty : A) (m : M (World Lent) A) (vs ss : List ℕ) (s : Session) (h : state_refusal vs ss s.next s.access ≡ 0) where
  -- refused it leaves all as it was; else the definition's run has to leave an accepted state
  pub call_stays : (k : ℕ) → (k ≡ 0 → Stays (outcome_of empty (m (start ref vs ss s)))) → Stays (call_with ref k empty m vs ss s)
  unfolding call_with
  call_stays zero f = f refl
  call_stays (suc k) f = h

-- the outcome of a run that answers
run_stays : {A : Type 0} (empty a : A) (r : Res (World Lent) A) (w : World Lent) → r ≡ ok a w → state_refusal w.state.values w.state.sets w.rest.session.next w.rest.session.access ≡ 0 → Stays (outcome_of empty r)
unfolding outcome_of
run_stays empty a r w e g = subst (λ x. Stays (outcome_of empty x)) (sym e) g

-- ---- what a refusal would have caught

inside_of : (ss : List ℕ) (i : ℕ) → outside ss i ≡ false → i < identifiers ss
unfolding outside
inside_of ss i e = ltb-true i (identifiers ss) (not-false _ e)

inside_1 : (vs ss : List ℕ) (s : Session) (i : ℕ) → refusal1 vs ss s i ≡ 0 → i < identifiers ss
unfolding refusal1
inside_1 vs ss s i z = inside_of ss i (in_range vs ss s (outside ss i) false z)

inside_2 : (vs ss : List ℕ) (s : Session) (i j : ℕ) → refusal2 vs ss s i j ≡ 0 → (i < identifiers ss) × (j < identifiers ss)
unfolding refusal2
inside_2 vs ss s i j z =
    let e = in_range vs ss s (outside ss i || outside ss j) false z in
    (inside_of ss i (or_no_first (outside ss i) _ e), inside_of ss j (or_no_second (outside ss i) _ e))

-- ---- the session after a use

use_stays : (n : ℕ) (ss : List ℕ) (s : Session) (i : ℕ) (span : Span) → i < n → SessionFit n s.next s.access → SessionFit n (after_use ss s i span).next (after_use ss s i span).access
unfolding after_use
use_stays n ss s i span l x = go (is_some (set_at ss i)) (eqb s.access 0)
  where
    go : (b c : Bool) → SessionFit n (ite b s (ite c (record { next = s.next; access = access_of i; span = span; entries = s.entries }) s)).next (ite b s (ite c (record { next = s.next; access = access_of i; span = span; entries = s.entries }) s)).access
    go true c = x
    go false false = x
    go false true = record { most = x.most; low = x.low; high = x.high; access_most = let m = x.most in subst (λ (a : ℕ). a ≤ n) (access_in i (omega arith)) (omega arith) }

next_kept : (ss : List ℕ) (s : Session) (i : ℕ) (span : Span) → s.next ≡ (after_use ss s i span).next
unfolding after_use
next_kept ss s i span = go (is_some (set_at ss i)) (eqb s.access 0)
  where
    go : (b c : Bool) → s.next ≡ (ite b s (ite c (record { next = s.next; access = access_of i; span = span; entries = s.entries }) s)).next
    go true c = refl
    go false false = refl
    go false true = refl

-- ---- reasons

-- the set of one reason that there is
single_reasons : (r : ℕ) → r < 12 → are_reasons (single r) ≡ true
unfolding are_reasons
single_reasons r h =
    let l : 2 ^ r < 2 ^ 12 = pow-lt h in
    lt-ltb (single r) (2 ^ 12) (subst (λ (x : ℕ). x < 2 ^ 12) (sym (mod-eq_of_lt (omega arith))) l)

-- ---- freezing some values

freeze_all_is : (n next reason : ℕ) (ms vs : List ℕ) → are_reasons (single reason) ≡ true → All (Good n next) ms → ValuesFit n next vs → ValuesFit n next (freeze_all reason ms vs)
unfolding freeze_all
freeze_all_is n next reason [] vs r a x = x
freeze_all_is n next reason (m ∷ ms) vs r a x = freeze_all_is n next reason ms (put_value vs m (mk Frozen (single reason))) r a.1 (value_stays n next m (mk Frozen (single reason)) a.0 r vs x)

-- ---- sets

no_members : (P : ℕ → Type 0) → All P (members 0)
unfolding members digits_from
no_members P = tt

module _ (n next : ℕ) (ss : List ℕ) (y : SetsFit n next ss) where
  -- the members of a row that is not defined are none
  bits_good : (i : ℕ) → i < n → All (Good n next) (members (bits_of (set_at ss i)))
  bits_good i l = go (set_at ss i) (y.row i l).good
    where
      go : (o : Option ℕ) → All (Good n next) (values_of o) → All (Good n next) (members (bits_of o))
      go None a = no_members (Good n next)
      go (Some s) a = a

  append_stays : (place value : ℕ) → place < n → value < n → SetsFit n next (append_set ss place value)
  unfolding append_set
  append_stays place value l k = go (set_at ss place) (set_at ss value) (y.row place l).good (y.row value k).good
    where
      go : (o p : Option ℕ) → All (Good n next) (values_of o) → All (Good n next) (values_of p) → SetsFit n next (appended ss place o p)
      go None p a b = y
      go (Some s) None a b = y
      go (Some s) (Some t) a b = set_stays n next ss place (union s t) (all_union (Good n next) s t a b) y

  assign_sets : (into from : ℕ) → from < n → SetsFit n next (assigned_sets ss into from)
  unfolding assigned_sets own_sets
  assign_sets into from l = go (set_at ss from) (y.row from l).good
    where
      go : (o : Option ℕ) → All (Good n next) (values_of o) → SetsFit n next (set_or_own ss into from o)
      go None a = set_stays n next ss into (singleton (from_identifier from)) (all_singleton (Good n next) (from_identifier from) (own_good n next from l)) y
      go (Some s) a = set_stays n next ss into s a y

  unions_good : (is : List ℕ) (s : ℕ) → All (λ (i : ℕ). i < n) is → All (Good n next) (members s) → All (Good n next) (members (unions ss is s))
  unfolding unions
  unions_good [] s l a = a
  unions_good (i ∷ is) s l a = unions_good is (union s (bits_of (set_at ss i))) l.1 (all_union (Good n next) s (bits_of (set_at ss i)) a (bits_good i l.0))

  phi_sets_is : (place : ℕ) (is : List ℕ) → All (λ (i : ℕ). i < n) is → SetsFit n next (phi_sets ss place is)
  unfolding phi_sets
  phi_sets_is place is l = go (eqb (unions ss is 0) 0)
    where
      go : (b : Bool) → SetsFit n next (elim b as (λ x. List ℕ) [ true ↦ ss | false ↦ put_set ss place (unions ss is 0) ])
      go true = y
      go false = set_stays n next ss place (unions ss is 0) (unions_good is 0 l (no_members (Good n next))) y

module _ (n next : ℕ) (vs ss : List ℕ) (x : ValuesFit n next vs) where
  assign_values : (from : ℕ) → from < n → ValuesFit n next (assigned_values vs ss from)
  unfolding assigned_values own_inserted
  assign_values from l = go (set_at ss from)
    where
      own : (o : Option AbstractValue) → ValuesFit n next (inserted vs (from_identifier from) o)
      own None = value_stays n next (from_identifier from) default (own_good n next from l) (single_reasons 11 (omega arith)) vs x
      own (Some a) = x

      go : (o : Option ℕ) → ValuesFit n next (own_value vs from o)
      go None = own (value_at vs (from_identifier from))
      go (Some s) = x

  freeze_values : (i reason : ℕ) → i < n → SetsFit n next ss → are_reasons (single reason) ≡ true → ValuesFit n next (frozen_values vs ss i reason)
  unfolding frozen_values
  freeze_values i reason l y r = go (freezes vs ss i)
    where
      go : (b : Bool) → ValuesFit n next (elim b as (λ x. List ℕ) [ true ↦ freeze_all reason (values_of (set_at ss i)) vs | false ↦ vs ])
      go true = freeze_all_is n next reason (values_of (set_at ss i)) vs r (y.row i l).good x
      go false = x

-- ---- a mutation

mutate_ref : (vs ss : List ℕ) (s : Session) (variant : MutateVariant) (i : ℕ) (span : Span)
    → Step.mutate variant (record { identifier = i; effect = 0; reactive = 0; span = span }) (start true vs ss s) ≡ ok Result.MutateRef (start true vs ss s)
unfolding Step.mutate State.ask when◌then◌else◌ return ◌>>=◌ and_then
mutate_ref vs ss s variant i span = refl

mutate_kind : (vs ss : List ℕ) (s : Session) (variant : MutateVariant) (i : ℕ) (span : Span) → i < 512
    → Step.mutate variant (record { identifier = i; effect = 0; reactive = 0; span = span }) (start false vs ss s)
    ≡ ok (result_of (is_strict variant) (State.kind_of (value_at vs) (set_at ss i)).kind) (start false vs ss (after_use ss s i span))
unfolding Step.mutate State.ask when◌then◌else◌ return ◌>>=◌ and_then
mutate_kind vs ss s variant i span l = ap (λ (x : Res (World Lent) AbstractValue). and_then x (λ a. return (result_of (is_strict variant) a.kind))) (kind_runs false vs ss s i span l)

-- ---- each call

module _ (vs ss : List ℕ) (s : Session) (h : state_refusal vs ss s.next s.access ≡ 0) where
  -- the parts of the state that is lent
  values : ValuesFit (identifiers ss) s.next vs
  values = values_of_is vs ss s.next s.access h

  sets : SetsFit (identifiers ss) s.next ss
  sets = sets_of vs ss s.next s.access h

  session : SessionFit (identifiers ss) s.next s.access
  session = session_of_is vs ss s.next s.access h

  -- lists that are fit, with the session as it was
  both : (us ts : List ℕ) → ValuesFit (identifiers ss) s.next us → SetsFit (identifiers ss) s.next ts → state_refusal us ts s.next s.access ≡ 0
  both us ts x y = accepted_of (identifiers ss) us ts s.next s.access x y session

  -- the lists as they were, with the session after a use
  used : (i : ℕ) (span : Span) → i < identifiers ss → state_refusal vs ss (after_use ss s i span).next (after_use ss s i span).access ≡ 0
  used i span l = accepted_of (identifiers ss) vs ss (after_use ss s i span).next (after_use ss s i span).access (subst (λ (k : ℕ). ValuesFit (identifiers ss) k vs) same values) (subst (λ (k : ℕ). SetsFit (identifiers ss) k ss) same sets) (use_stays (identifiers ss) ss s i span l session)
    where
      same : s.next ≡ (after_use ss s i span).next
      same = next_kept ss s i span

  -- asking for the kind of a place with its span leaves an accepted state
  pub kind_with_span_stays : (i : ℕ) (span : Span) → Stays (Calls.kind_with_span vs ss s i span)
  unfolding Calls.kind_with_span
  kind_with_span_stays i span = call_stays false no_kind (State.kind_with_span i span) vs ss s h (refusal1 vs ss s i) (λ z. run_stays no_kind _ _ _ (kind_runs false vs ss s i span (inside1 vs ss s i z)) (used i span (inside_1 vs ss s i z)))

  -- and so does asking without a span
  pub kind_stays : (i : ℕ) → Stays (Calls.kind vs ss s i)
  unfolding Calls.kind Calls.kind_with_span State.kind
  kind_stays i = kind_with_span_stays i no_span

  -- the write test leaves an accepted state
  pub may_write_stays : (i : ℕ) → Stays (Calls.may_write vs ss s i)
  unfolding Calls.may_write
  may_write_stays i = call_stays false false (State.may_write i) vs ss s h (refusal1 vs ss s i) (λ z. run_stays false _ _ _ (write_runs vs ss s i) h)

  -- asking whether a place is defined leaves an accepted state
  pub is_defined_stays : (i : ℕ) → Stays (Calls.is_defined vs ss s i)
  unfolding Calls.is_defined
  is_defined_stays i = call_stays false false (State.is_defined i) vs ss s h (refusal1 vs ss s i) (λ z. run_stays false _ _ _ (defined_runs vs ss s i) h)

  -- an entry for a value leaves an accepted state
  pub initialize_stays : (v : ℕ) (a : AbstractValue) → Stays (Calls.initialize vs ss s v a)
  unfolding Calls.initialize
  initialize_stays v a = call_stays false tt (State.initialize v a) vs ss s h _ (λ z.
      let e = in_range vs ss s (not_anumber (identifiers ss) v || not (are_reasons a.reason)) (not_yet_handed_out s.next v) z in
      let g : Good (identifiers ss) s.next v = (or_no_first (not_anumber (identifiers ss) v) _ e, fit vs ss s (not_anumber (identifiers ss) v || not (are_reasons a.reason)) (not_yet_handed_out s.next v) z) in
      let r = not-false _ (or_no_second (not_anumber (identifiers ss) v) _ e) in
      run_stays tt _ _ _ (initialize_lists Pure.pure false (rest_of false s) vs ss v a) (both (put_value vs v a) ss (value_stays (identifiers ss) s.next v a g r vs values) sets))

  -- one value for a place leaves an accepted state
  pub define_stays : (i v : ℕ) → Stays (Calls.define vs ss s i v)
  unfolding Calls.define
  define_stays i v = call_stays false tt (State.define i v) vs ss s h _ (λ z.
      let e = in_range vs ss s (outside ss i || not_anumber (identifiers ss) v) (not_yet_handed_out s.next v) z in
      let g : Good (identifiers ss) s.next v = (or_no_second (outside ss i) _ e, fit vs ss s (outside ss i || not_anumber (identifiers ss) v) (not_yet_handed_out s.next v) z) in
      run_stays tt _ _ _ (define_lists Pure.pure false (rest_of false s) vs ss i v) (both vs (put_set ss i (2 ^ v)) values (set_stays (identifiers ss) s.next ss i (2 ^ v) (all_singleton (Good (identifiers ss) s.next) v g) sets)))

  -- an assignment leaves an accepted state
  pub assign_stays : (into from : ℕ) → Stays (Calls.assign vs ss s into from)
  unfolding Calls.assign
  assign_stays into from = call_stays false tt (State.assign into from) vs ss s h _ (λ z.
      let l = (inside_2 vs ss s into from z).1 in
      run_stays tt _ _ _ (assign_lists Pure.pure false (rest_of false s) vs ss into from) (both (assigned_values vs ss from) (assigned_sets ss into from) (assign_values (identifiers ss) s.next vs ss values from l) (assign_sets (identifiers ss) s.next ss sets into from l)))

  -- the values of one place added to another's leave an accepted state
  pub append_alias_stays : (place value : ℕ) → Stays (Calls.append_alias vs ss s place value)
  unfolding Calls.append_alias
  append_alias_stays place value = call_stays false tt (State.append_alias place value) vs ss s h _ (λ z.
      let l = inside_2 vs ss s place value z in
      run_stays tt _ _ _ (append_lists Pure.pure false (rest_of false s) vs ss place value) (both vs (append_set ss place value) values (append_stays (identifiers ss) s.next ss sets place value l.0 l.1)))

  -- a freeze leaves an accepted state
  pub freeze_stays : (i reason : ℕ) → Stays (Calls.freeze vs ss s i reason)
  unfolding Calls.freeze is_reason
  freeze_stays i reason = call_stays false false (State.freeze i reason) vs ss s h _ (λ z.
      let e = in_range vs ss s (outside ss i || not (is_reason reason)) false z in
      let r = ltb-true reason 12 (not-false _ (or_no_second (outside ss i) _ e)) in
      run_stays false _ _ _ (freeze_lists Pure.pure false (rest_of false s) vs ss i reason) (both (frozen_values vs ss i reason) ss (freeze_values (identifiers ss) s.next vs ss values i reason (inside_of ss i (or_no_first (outside ss i) _ e)) sets (single_reasons reason r)) sets))

  -- a phi leaves an accepted state
  pub infer_phi_stays : (place : ℕ) (operands : List ℕ) → Stays (Calls.infer_phi vs ss s place operands)
  unfolding Calls.infer_phi
  infer_phi_stays place operands = call_stays false tt (State.infer_phi place operands) vs ss s h _ (λ z.
      let e = in_range vs ss s (outside ss place || any_of (outside ss) operands) false z in
      let l = all_map operands (λ i q. inside_of ss i q) (list_all_is (outside ss) operands (or_no_second (outside ss place) _ e)) in
      run_stays tt _ _ _ (phi_lists Pure.pure false (rest_of false s) vs ss place operands) (both vs (phi_sets ss place operands) values (phi_sets_is (identifiers ss) s.next ss sets place operands l)))

  -- a mutation of a place leaves an accepted state
  pub mutate_stays : (ref : Bool) (variant : MutateVariant) (i : ℕ) (span : Span) → Stays (Calls.mutate vs ss s ref variant i span)
  unfolding Calls.mutate
  mutate_stays ref variant i span = call_stays ref Result.None _ vs ss s h (refusal1 vs ss s i) (λ z. go ref (inside1 vs ss s i z) (inside_1 vs ss s i z))
    where
      go : (b : Bool) → i < 512 → i < identifiers ss → Stays (outcome_of Result.None (Step.mutate variant (record { identifier = i; effect = 0; reactive = 0; span = span }) (start b vs ss s)))
      go true k l = run_stays Result.None _ _ _ (mutate_ref vs ss s variant i span) h
      go false k l = run_stays Result.None _ _ _ (mutate_kind vs ss s variant i span k) (used i span l)
