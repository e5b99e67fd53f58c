-- How a call comes to its outcome: the ways through the code, a law each. Assumes nothing.
use Prim.Native.Nat.{ℕ, zero, suc, ◌^◌, ◌<◌}
use native.Mathlib.Omega.{arith}
use Rattle.std.proofs.Math.Path.{◌≡◌, ap, ap₂}
use Rattle.std.specs.Prelude.{refl, Bool, true, not, ◌||◌, List, eqb, ltb, ◌⊎◌, Option, None, Some}
use Rattle.std.proofs.Common.{sym, ◌∙◌, inl, inr}
use Rattle.std.proofs.Math.Bool.{false}
use borrow.Author.Tests.{lt-ltb, ltb-true, not-false, eq-eqb}
use Rattle.base_tests.specs.Tests.{ite, is_some}
use Rattle.base_tests.proofs.Laws.Bool.{never}
use Rattle.refuse_entries.proofs.Laws.Accepted.{refusal_one, accepted_lent}
use Rattle.refuse_entries.specs.Words.{state_refusal, identifiers}
use Rattle.def_kinds.specs.declared.AbstractValue.{AbstractValue}
use Rattle.def_kinds.specs.Kinds.{writable}
use Rattle.def_effects.specs.declared.Span.{Span}
use Rattle.def_effects.specs.declared.Session.{Session}
use Rattle.lent_values.specs.Cells.{value_at, put_value}
use Rattle.def_kinds.specs.Reasons.{are_reasons, is_reason}
use Rattle.def_effects.specs.Places.{no_span}
use Rattle.lent_sets.specs.Rows.{set_at, put_set, append_set}
use Rattle.def_transfer.specs.Accepted.{not_anumber, not_yet_handed_out}
use Rattle.def_transfer.specs.Pure as Pure
use Rattle.def_transfer.specs.Monad.{Res, ok, M, Done, and_then, ◌>>=◌, ◌>>◌, return, done, when◌then◌else◌}
use Rattle.def_transfer.specs.Tables.{World}
use Rattle.def_transfer.specs.State as State
use Rattle.state_ops.specs.Lists.{assigned_values, assigned_sets, freezes, frozen_values}
use Rattle.state_ops.proofs.Laws.Text.{initialize_lists, define_lists, assign_lists, append_lists, freeze_lists}
use Rattle.state_calls.specs.Calls as Calls
use Rattle.state_calls.specs.Calls.{Lent, Outcome, outcome_of, call_with, start, rest_of, worst, refusal_of, outside, refusal1, refusal2, no_kind}
use Rattle.state_calls.specs.Plain.{leaving}
use Rattle.def_refusals.specs.declared.Refusal.{Refusal}
use Rattle.def_refusals.specs.Verdicts.{number_of}
use Rattle.def_refusals.proofs.Laws.Verdicts.{number_some}
use Rattle.lent_work.specs.Access.{access_of}
use Rattle.state_ops.specs.Use.{after_use}

-- ---- the lower class

module _ (r : ℕ) (out unfit : Bool) where
  -- no class at all: neither the state's nor the arguments'
  pub worst_0 : worst r out unfit ≡ 0 → (r ≡ 1 → ⊥) × (r ≡ 3 → ⊥) × (r ≡ 4 → ⊥) × (out ≡ false) × (unfit ≡ false)
  unfolding worst
  worst_0 = go (eqb r 1) (eqb r 3) (eqb r 4) out unfit (eq-eqb r 1) (eq-eqb r 3) (eq-eqb r 4)
    where
      zero_one : {A : Type 0} → ◌≡◌ {A = ℕ} 1 0 → A
      zero_one e = absurd (omega arith)

      zero_three : {A : Type 0} → ◌≡◌ {A = ℕ} 3 0 → A
      zero_three e = absurd (omega arith)

      zero_four : {A : Type 0} → ◌≡◌ {A = ℕ} 4 0 → A
      zero_four e = absurd (omega arith)

      go : (a b d o u : Bool) → (r ≡ 1 → a ≡ true) → (r ≡ 3 → b ≡ true) → (r ≡ 4 → d ≡ true) → ◌≡◌ {A = ℕ} (ite a 1 (ite (b || o) 3 (ite (d || u) 4 0))) 0 → (r ≡ 1 → ⊥) × (r ≡ 3 → ⊥) × (r ≡ 4 → ⊥) × (o ≡ false) × (u ≡ false)
      go true b d o u f g h e = zero_one e
      go false true d o u f g h e = zero_three e
      go false false d true u f g h e = zero_three e
      go false false true false u f g h e = zero_four e
      go false false false false true f g h e = zero_four e
      go false false false false false f g h e = ((λ x. never false (f x) refl), (λ x. never false (g x) refl), (λ x. never false (h x) refl), refl, refl)

-- a call that is not refused: its state is accepted, and nothing is wrong with its arguments
module _ (vs ss : List ℕ) (s : Session) (out unfit : Bool) (z : refusal_of vs ss s out unfit ≡ 0) where
  pub state_0 : state_refusal vs ss s.next s.access ≡ 0
  unfolding refusal_of
  state_0 = go (refusal_one vs ss s.next s.access) (worst_0 _ out unfit z)
    where
      go : (state_refusal vs ss s.next s.access ≡ 0) ⊎ ((state_refusal vs ss s.next s.access ≡ 1) ⊎ ((state_refusal vs ss s.next s.access ≡ 3) ⊎ (state_refusal vs ss s.next s.access ≡ 4)))
          → (state_refusal vs ss s.next s.access ≡ 1 → ⊥) × (state_refusal vs ss s.next s.access ≡ 3 → ⊥) × (state_refusal vs ss s.next s.access ≡ 4 → ⊥) × (out ≡ false) × (unfit ≡ false)
          → state_refusal vs ss s.next s.access ≡ 0
      go (inl e) h = e
      go (inr (inl e)) h = absurd (h.0 e)
      go (inr (inr (inl e))) h = absurd (h.1 e)
      go (inr (inr (inr e))) h = absurd (h.2 e)

  pub in_range : out ≡ false
  unfolding refusal_of
  in_range = (worst_0 _ out unfit z).3

  pub fit : unfit ≡ false
  unfolding refusal_of
  fit = (worst_0 _ out unfit z).4

  -- an identifier of the list is one of the 512
  pub inside_most : (i : ℕ) → outside ss i ≡ false → i < 512
  unfolding outside
  inside_most i e = let h : i < identifiers ss = ltb-true _ _ (not-false _ e) in let g = (accepted_lent vs ss s.next s.access state_0).most in omega arith

-- ---- refused before anything is done, or the definition

module _ {A : Type 0} (ref : Bool) (empty : A) (m : M (World Lent) A) (vs ss : List ℕ) (s : Session) where
  -- whatever the number but 0: the empty answer, and all as it was
  pub number_refused : (n k : ℕ) → n ≡ k → (n ≡ 0 → ⊥) → leaving n empty vs ss s ≡ call_with ref k empty m vs ss s
  unfolding call_with
  number_refused zero k e h = absurd (h refl)
  number_refused (suc n) k e h = ap (λ x. call_with ref x empty m vs ss s) e

  -- the same of a refusal of the code's
  pub call_refused : (r : Refusal) (k : ℕ) → number_of r ≡ k → leaving (number_of r) empty vs ss s ≡ call_with ref k empty m vs ss s
  call_refused r k e = number_refused (number_of r) k e (number_some r)

  pub call_runs : (k : ℕ) (a : A) (w : World Lent) → 0 ≡ k → m (start ref vs ss s) ≡ ok a w
      → leaving 0 a w.state.values w.state.sets w.rest.session ≡ call_with ref k empty m vs ss s
  unfolding call_with outcome_of
  call_runs k a w e r = ap (outcome_of empty) (sym r) ∙ ap (λ x. call_with ref x empty m vs ss s) e

-- ---- a use of a place

-- the definition records just that
pub kind_runs : (ref : Bool) (vs ss : List ℕ) (s : Session) (i : ℕ) (span : Span) → i < 512
    → State.kind_with_span i span (start ref vs ss s) ≡ ok (State.kind_of (value_at vs) (set_at ss i)) (start ref vs ss (after_use ss s i span))
unfolding State.kind_with_span State.set_of State.peek State.record_access State.change after_use access_of done when◌then◌else◌ return ◌>>◌ ◌>>=◌ and_then
kind_runs ref vs ss s i span h = go (set_at ss i) (eqb s.access 0) (ltb i 512) (lt-ltb i 512 h)
  where
    go : (o : Option ℕ) (b c : Bool) → c ≡ true
        → and_then {W = World Lent} {A = Done} {B = AbstractValue} (elim (is_some o) as (λ x. Res (World Lent) Done) [ true ↦ ok tt (start ref vs ss s) | false ↦ ok tt (start ref vs ss (elim b as (λ x. Session) [ true ↦ record { next = s.next; access = suc i; span = span; entries = s.entries } | false ↦ s ])) ]) (λ _. State.peek i)
        ≡ ok (State.kind_of (value_at vs) (set_at ss i)) (start ref vs ss (ite (is_some o) s (ite b (record { next = s.next; access = ite c (suc i) 0; span = span; entries = s.entries }) s)))
    go (Some x) b c e = refl
    go None true true e = refl
    go None true false e = never false e refl
    go None false c e = refl

pub write_runs : (vs ss : List ℕ) (s : Session) (i : ℕ) → State.may_write i (start false vs ss s) ≡ ok (writable (State.kind_of (value_at vs) (set_at ss i)).kind) (start false vs ss s)
unfolding State.may_write State.peek return ◌>>=◌ and_then
write_runs vs ss s i = refl

pub defined_runs : (vs ss : List ℕ) (s : Session) (i : ℕ) → State.is_defined i (start false vs ss s) ≡ ok (is_some (set_at ss i)) (start false vs ss s)
unfolding State.is_defined State.set_of return ◌>>=◌ and_then
defined_runs vs ss s i = go (set_at ss i)
  where
    go : (o : Option ℕ) → ok (is_some o) (start false vs ss s) ≡ ok (is_some o) (start false vs ss s)
    go None = refl
    go (Some x) = refl

-- ---- how each call ends

module _ (vs ss : List ℕ) (s : Session) (i : ℕ) where
  pub inside1 : refusal1 vs ss s i ≡ 0 → i < 512
  unfolding refusal1
  inside1 z = inside_most vs ss s (outside ss i) false z i (in_range vs ss s (outside ss i) false z)

  pub kind_ends : (span : Span) (a : AbstractValue) (t : Session) → 0 ≡ refusal1 vs ss s i → a ≡ State.kind_of (value_at vs) (set_at ss i) → t ≡ after_use ss s i span
      → leaving 0 a vs ss t ≡ Calls.kind_with_span vs ss s i span
  unfolding Calls.kind_with_span
  kind_ends span a t e f g =
      ap₂ (λ (x : AbstractValue) (y : Session). leaving 0 x vs ss y) f g
      ∙ call_runs false no_kind (State.kind_with_span i span) vs ss s (refusal1 vs ss s i) _ _ e (kind_runs false vs ss s i span (inside1 (sym e)))

  pub kind_refused : (span : Span) (r : Refusal) → number_of r ≡ refusal1 vs ss s i → leaving (number_of r) no_kind vs ss s ≡ Calls.kind_with_span vs ss s i span
  unfolding Calls.kind_with_span
  kind_refused span r e = call_refused false no_kind (State.kind_with_span i span) vs ss s r (refusal1 vs ss s i) e

  pub write_ends : (a : AbstractValue) (b : Bool) → 0 ≡ refusal1 vs ss s i → a ≡ State.kind_of (value_at vs) (set_at ss i) → b ≡ writable a.kind
      → leaving 0 b vs ss s ≡ Calls.may_write vs ss s i
  unfolding Calls.may_write
  write_ends a b e f g =
      ap (λ (x : Bool). leaving 0 x vs ss s) (g ∙ ap (λ (x : AbstractValue). writable x.kind) f)
      ∙ call_runs false false (State.may_write i) vs ss s (refusal1 vs ss s i) _ _ e (write_runs vs ss s i)

  pub write_refused : (r : Refusal) → number_of r ≡ refusal1 vs ss s i → leaving (number_of r) false vs ss s ≡ Calls.may_write vs ss s i
  unfolding Calls.may_write
  write_refused r e = call_refused false false (State.may_write i) vs ss s r (refusal1 vs ss s i) e

  pub defined_ends : (b : Bool) → 0 ≡ refusal1 vs ss s i → b ≡ is_some (set_at ss i) → leaving 0 b vs ss s ≡ Calls.is_defined vs ss s i
  unfolding Calls.is_defined
  defined_ends b e g =
      ap (λ (x : Bool). leaving 0 x vs ss s) g
      ∙ call_runs false false (State.is_defined i) vs ss s (refusal1 vs ss s i) _ _ e (defined_runs vs ss s i)

  pub defined_refused : (r : Refusal) → number_of r ≡ refusal1 vs ss s i → leaving (number_of r) false vs ss s ≡ Calls.is_defined vs ss s i
  unfolding Calls.is_defined
  defined_refused r e = call_refused false false (State.is_defined i) vs ss s r (refusal1 vs ss s i) e

  pub kind_plain : (o : Outcome AbstractValue) → o ≡ Calls.kind_with_span vs ss s i no_span → o ≡ Calls.kind vs ss s i
  unfolding Calls.kind Calls.kind_with_span State.kind
  kind_plain o e = e

-- a call that changes the tables: the number, and what it leaves
module _ (vs ss : List ℕ) (s : Session) (v : ℕ) (a : AbstractValue) where
  pub initialize_refused : (r : Refusal) → number_of r ≡ refusal_of vs ss s (not_anumber (identifiers ss) v || not (are_reasons a.reason)) (not_yet_handed_out s.next v)
      → leaving (number_of r) tt vs ss s ≡ Calls.initialize vs ss s v a
  unfolding Calls.initialize
  initialize_refused r e = call_refused false tt (State.initialize v a) vs ss s r _ e

  pub initialize_ends : (vs' : List ℕ) → 0 ≡ refusal_of vs ss s (not_anumber (identifiers ss) v || not (are_reasons a.reason)) (not_yet_handed_out s.next v)
      → vs' ≡ put_value vs v a → leaving 0 tt vs' ss s ≡ Calls.initialize vs ss s v a
  unfolding Calls.initialize
  initialize_ends vs' e g =
      ap (λ (x : List ℕ). leaving 0 tt x ss s) g
      ∙ call_runs false tt (State.initialize v a) vs ss s _ tt _ e (initialize_lists Pure.pure false (rest_of false s) vs ss v a)

module _ (vs ss : List ℕ) (s : Session) (i v : ℕ) where
  pub define_refused : (r : Refusal) → number_of r ≡ refusal_of vs ss s (outside ss i || not_anumber (identifiers ss) v) (not_yet_handed_out s.next v)
      → leaving (number_of r) tt vs ss s ≡ Calls.define vs ss s i v
  unfolding Calls.define
  define_refused r e = call_refused false tt (State.define i v) vs ss s r _ e

  pub define_ends : (ss' : List ℕ) → 0 ≡ refusal_of vs ss s (outside ss i || not_anumber (identifiers ss) v) (not_yet_handed_out s.next v)
      → ss' ≡ put_set ss i (2 ^ v) → leaving 0 tt vs ss' s ≡ Calls.define vs ss s i v
  unfolding Calls.define
  define_ends ss' e g =
      ap (λ (x : List ℕ). leaving 0 tt vs x s) g
      ∙ call_runs false tt (State.define i v) vs ss s _ tt _ e (define_lists Pure.pure false (rest_of false s) vs ss i v)

module _ (vs ss : List ℕ) (s : Session) (into from : ℕ) where
  pub assign_refused : (r : Refusal) → number_of r ≡ refusal2 vs ss s into from → leaving (number_of r) tt vs ss s ≡ Calls.assign vs ss s into from
  unfolding Calls.assign
  assign_refused r e = call_refused false tt (State.assign into from) vs ss s r _ e

  pub assign_ends : (vs' ss' : List ℕ) → 0 ≡ refusal2 vs ss s into from → vs' ≡ assigned_values vs ss from → ss' ≡ assigned_sets ss into from
      → leaving 0 tt vs' ss' s ≡ Calls.assign vs ss s into from
  unfolding Calls.assign
  assign_ends vs' ss' e f g =
      ap₂ (λ (x y : List ℕ). leaving 0 tt x y s) f g
      ∙ call_runs false tt (State.assign into from) vs ss s _ tt _ e (assign_lists Pure.pure false (rest_of false s) vs ss into from)

  pub append_refused : (r : Refusal) → number_of r ≡ refusal2 vs ss s into from → leaving (number_of r) tt vs ss s ≡ Calls.append_alias vs ss s into from
  unfolding Calls.append_alias
  append_refused r e = call_refused false tt (State.append_alias into from) vs ss s r _ e

  pub append_ends : (ss' : List ℕ) → 0 ≡ refusal2 vs ss s into from → ss' ≡ append_set ss into from → leaving 0 tt vs ss' s ≡ Calls.append_alias vs ss s into from
  unfolding Calls.append_alias
  append_ends ss' e g =
      ap (λ (x : List ℕ). leaving 0 tt vs x s) g
      ∙ call_runs false tt (State.append_alias into from) vs ss s _ tt _ e (append_lists Pure.pure false (rest_of false s) vs ss into from)

module _ (vs ss : List ℕ) (s : Session) (i reason : ℕ) where
  pub freeze_refused : (r : Refusal) → number_of r ≡ refusal_of vs ss s (outside ss i || not (is_reason reason)) false → leaving (number_of r) false vs ss s ≡ Calls.freeze vs ss s i reason
  unfolding Calls.freeze
  freeze_refused r e = call_refused false false (State.freeze i reason) vs ss s r _ e

  pub freeze_ends : (b : Bool) (vs' : List ℕ) → 0 ≡ refusal_of vs ss s (outside ss i || not (is_reason reason)) false → b ≡ freezes vs ss i → vs' ≡ frozen_values vs ss i reason
      → leaving 0 b vs' ss s ≡ Calls.freeze vs ss s i reason
  unfolding Calls.freeze
  freeze_ends b vs' e f g =
      ap₂ (λ (x : Bool) (y : List ℕ). leaving 0 x y ss s) f g
      ∙ call_runs false false (State.freeze i reason) vs ss s _ _ _ e (freeze_lists Pure.pure false (rest_of false s) vs ss i reason)
