-- How phi, the mutation and the list of values come to their outcomes. Assumes nothing.
use Rattle.std.specs.Prelude.{ℕ, ◌+◌, ◌<◌, ◌≡◌, refl, Bool, ◌||◌, length, set, replicate}
use Rattle.std.proofs.Common.{add-one, ◌∙◌}
use Rattle.std.proofs.Math.Path.{sym, ap, ap₂}
use Rattle.std.proofs.Math.Bool.{true, false}
use mathlib.Core.List.{List, [], ◌∷◌}
use Rattle.std.proofs.Math.Dec.{eqb}
use borrow.Author.Tests.{ne_eqb}
use Rattle.base_tests.specs.Tests.{ite, any_of}
use Rattle.base_tests.proofs.Laws.Choice.{ite_eq, ite_ne}
use Rattle.def_kinds.specs.declared.AbstractValue.{AbstractValue}
use Rattle.def_effects.specs.declared.Span.{Span}
use Rattle.def_effects.specs.declared.Session.{Session}
use Rattle.def_effects.specs.declared.MutateVariant.{MutateVariant}
use Rattle.def_effects.specs.declared.MutationResult.{MutationResult}
use Rattle.def_effects.specs.declared.MutationResult.TheVariants as Result
use Rattle.def_effects.specs.Mutation.{is_strict, result_of}
use Rattle.lent_values.specs.Cells.{value_at}
use Rattle.lent_sets.specs.Rows.{set_at}
use Rattle.base_sets.specs.Members.{values_of}
use Rattle.def_transfer.specs.Monad.{Res, ok, and_then, ◌>>=◌, return, when◌then◌else◌}
use Rattle.def_transfer.specs.Tables.{World}
use Rattle.def_transfer.specs.Pure as Pure
use Rattle.def_transfer.specs.State as State
use Rattle.def_transfer.specs.Step as Step
use Rattle.state_ops.specs.Lists.{phi_sets}
use Rattle.state_ops.proofs.Laws.Text.{phi_lists}
use Rattle.state_calls.specs.Calls as Calls
use Rattle.state_calls.specs.Calls.{Lent, start, rest_of, refusal_of, outside, refusal1, used, written, values_refusal, values_answer, values_listed}
use Rattle.state_ops.specs.Use.{after_use}
use Rattle.state_calls.specs.Plain.{leaving}
use Rattle.def_refusals.specs.declared.Refusal.{Refusal}
use Rattle.def_refusals.specs.Verdicts.{number_of}
use Rattle.def_refusals.proofs.Laws.Verdicts.{number_some}
use Rattle.state_calls.proofs.Laws.Call.{call_refused, call_runs, kind_runs, inside1}

-- ---- phi

module _ (vs ss : List ℕ) (s : Session) (place : ℕ) (operands : List ℕ) where
  pub phi_refused : (r : Refusal) → number_of r ≡ refusal_of vs ss s (outside ss place || any_of (outside ss) operands) false → leaving (number_of r) tt vs ss s ≡ Calls.infer_phi vs ss s place operands
  unfolding Calls.infer_phi
  phi_refused r e = call_refused false tt (State.infer_phi place operands) vs ss s r _ e

  pub phi_ends : (ss' : List ℕ) → 0 ≡ refusal_of vs ss s (outside ss place || any_of (outside ss) operands) false → ss' ≡ phi_sets ss place operands
      → leaving 0 tt vs ss' s ≡ Calls.infer_phi vs ss s place operands
  unfolding Calls.infer_phi
  phi_ends ss' e g =
      ap (λ (x : List ℕ). leaving 0 tt vs x s) g
      ∙ call_runs false tt (State.infer_phi place operands) vs ss s _ tt _ e (phi_lists Pure.pure false (rest_of false s) vs ss place operands)

-- ---- mutation

pub mutate_ref : (vs ss : List ℕ) (s : Session) (variant : MutateVariant) (i : ℕ) (span : Span) → Step.mutate variant (used i span) (start true vs ss s) ≡ ok Result.MutateRef (start true vs ss s)
unfolding Step.mutate State.ask when◌then◌else◌ return ◌>>=◌ and_then
mutate_ref vs ss s variant i span = refl

pub mutate_kind : (vs ss : List ℕ) (s : Session) (variant : MutateVariant) (i : ℕ) (span : Span) → i < 512
    → Step.mutate variant (used i span) (start false vs ss s) ≡ ok (result_of (is_strict variant) (State.kind_of (value_at vs) (set_at ss i)).kind) (start false vs ss (after_use ss s i span))
unfolding Step.mutate State.ask when◌then◌else◌ return ◌>>=◌ and_then
mutate_kind vs ss s variant i span h = ap (λ (x : Res (World Lent) AbstractValue). and_then x (λ a. return (result_of (is_strict variant) a.kind))) (kind_runs false vs ss s i span h)

module _ (vs ss : List ℕ) (s : Session) (variant : MutateVariant) (i : ℕ) (span : Span) where
  pub mutate_refused : (ref : Bool) (r : Refusal) → number_of r ≡ refusal1 vs ss s i → leaving (number_of r) Result.None vs ss s ≡ Calls.mutate vs ss s ref variant i span
  unfolding Calls.mutate
  mutate_refused ref r e = call_refused ref Result.None (Step.mutate variant (used i span)) vs ss s r (refusal1 vs ss s i) e

  pub mutate_of_ref : (ref : Bool) → 0 ≡ refusal1 vs ss s i → ref ≡ true → leaving 0 Result.MutateRef vs ss s ≡ Calls.mutate vs ss s ref variant i span
  unfolding Calls.mutate
  mutate_of_ref ref e t =
      call_runs true Result.None (Step.mutate variant (used i span)) vs ss s (refusal1 vs ss s i) _ _ e (mutate_ref vs ss s variant i span)
      ∙ ap (λ (x : Bool). Calls.mutate vs ss s x variant i span) (sym t)

  pub mutate_ends : (ref : Bool) (a : AbstractValue) (t : Session) (strict : Bool) (r : MutationResult) → 0 ≡ refusal1 vs ss s i → ref ≡ false → t ≡ after_use ss s i span → a ≡ State.kind_of (value_at vs) (set_at ss i) → strict ≡ is_strict variant → r ≡ result_of strict a.kind
      → leaving 0 r vs ss t ≡ Calls.mutate vs ss s ref variant i span
  unfolding Calls.mutate
  mutate_ends ref a t strict r e f g k st q =
      ap₂ (λ (x : MutationResult) (y : Session). leaving 0 x vs ss y) (q ∙ ap (λ (x : Bool). result_of x a.kind) st ∙ ap (λ (x : AbstractValue). result_of (is_strict variant) x.kind) k) g
      ∙ call_runs false Result.None (Step.mutate variant (used i span)) vs ss s (refusal1 vs ss s i) _ _ e (mutate_kind vs ss s variant i span (inside1 vs ss s i (sym e)))
      ∙ ap (λ (x : Bool). Calls.mutate vs ss s x variant i span) (sym f)

-- ---- the values of a place in a list

-- a loop over values writes the first of those that are left
pub write_turn : (out us z l t : List ℕ) (k x j v : ℕ) → l ≡ v ∷ t → x ≡ k → j ≡ k + 1 → us ≡ set out x v → written l k out ≡ z → written t j us ≡ z
unfolding written
write_turn out us z l t k x j v e p q g h =
    ap₂ (λ (n : ℕ) (m : List ℕ). written t n m) (q ∙ add-one k) (g ∙ ap (λ (n : ℕ). set out n v) p)
    ∙ sym (ap (λ (m : List ℕ). written m k out) e) ∙ h

pub write_done : (out z l : List ℕ) (k : ℕ) → l ≡ [] → written l k out ≡ z → out ≡ z
unfolding written
write_done out z l k e h = sym (ap (λ (m : List ℕ). written m k out) e) ∙ h

module _ (vs ss : List ℕ) (s : Session) (i room : ℕ) where
  pub room_wrong : (room ≡ 1024 → ⊥) → 1 ≡ values_refusal vs ss s i room
  unfolding values_refusal
  room_wrong h = sym (ite_ne room 1024 (refusal1 vs ss s i) 1 h)

  pub room_right : (n : ℕ) → room ≡ 1024 → n ≡ refusal1 vs ss s i → n ≡ values_refusal vs ss s i room
  unfolding values_refusal
  room_right n h e = e ∙ sym (ite_eq room 1024 (refusal1 vs ss s i) 1 h)

module _ (vs ss : List ℕ) (s : Session) (i : ℕ) (out : List ℕ) where
  refused_test : (r : Refusal) → number_of r ≡ values_refusal vs ss s i (length out) → false ≡ eqb (values_refusal vs ss s i (length out)) 0
  refused_test r e = sym (ap (λ (x : ℕ). eqb x 0) (sym e) ∙ ne_eqb (number_of r) 0 (number_some r))

  pub list_refused : (r : Refusal) → number_of r ≡ values_refusal vs ss s i (length out) → leaving (number_of r) 0 vs ss s ≡ values_answer vs ss s i out
  unfolding values_answer
  list_refused r e = ap₂ (λ (x y : ℕ). leaving x y vs ss s) e (ap (λ (x : Bool). ite x (length (values_of (set_at ss i))) 0) (refused_test r e))

  pub list_cleared : (r : Refusal) (us : List ℕ) → number_of r ≡ values_refusal vs ss s i (length out) → us ≡ replicate (length out) 0 → us ≡ values_listed vs ss s i out
  unfolding values_listed
  list_cleared r us e g = g ∙ ap (λ (x : Bool). ite x (written (values_of (set_at ss i)) 0 (replicate (length out) 0)) (replicate (length out) 0)) (refused_test r e)

  pub list_counted : (c : ℕ) → 0 ≡ values_refusal vs ss s i (length out) → c ≡ length (values_of (set_at ss i)) → leaving 0 c vs ss s ≡ values_answer vs ss s i out
  unfolding values_answer
  list_counted c e q = ap₂ (λ (x y : ℕ). leaving x y vs ss s) e (q ∙ ap (λ (x : ℕ). ite (eqb x 0) (length (values_of (set_at ss i))) 0) e)

  pub list_ends : (us ws : List ℕ) → 0 ≡ values_refusal vs ss s i (length out) → us ≡ replicate (length out) 0 → ws ≡ written (values_of (set_at ss i)) 0 us → ws ≡ values_listed vs ss s i out
  unfolding values_listed
  list_ends us ws e g w =
      w ∙ ap (written (values_of (set_at ss i)) 0) g ∙ ap (λ (x : ℕ). ite (eqb x 0) (written (values_of (set_at ss i)) 0 (replicate (length out) 0)) (replicate (length out) 0)) e
