-- What each public call on a lent state answers and leaves is what the definition does on plain tables. Assumes nothing.
use Prim.Native.Nat.{ℕ, suc, ◌+◌, ◌≤◌}
use Rattle.std.proofs.Common.{arith, sym, ◌∙◌, subst}
use Rattle.std.specs.Prelude.{◌≡◌, Bool, set, drop, Option, None, Some, Result, Ok, Err}
use Rattle.std.proofs.Math.Path.{refl, ap, ap₂}
use Rattle.std.proofs.Math.Bool.{true, false}
use mathlib.Core.List.{List, [], ◌∷◌}
use lib.Dec.{eqb, eqb→eq}
use Rattle.std.proofs.lemmas.Nat.{ones-le}
use Rattle.std.proofs.Math.ListN.{length, take, replicate, length-replicate}
use Rattle.std.proofs.Math.Seq.{take-append_seam, sets-eq}
use Rattle.std.proofs.lemmas.List.Edits.{sets}
use borrow.Author.Tests.{eq-eqb}
use Rattle.base_tests.specs.Tests.{ite}
use Rattle.base_sets.specs.Members.{values_of}
use Rattle.lent_sets.specs.Rows.{set_at}
use Rattle.lent_sets.proofs.Laws.Set.{members_count}
use Rattle.def_faithful.specs.Ranges.{Pointing}
use Rattle.lent_world.proofs.Laws.StateFaithful.{set_is}
use Rattle.def_kinds.specs.declared.AbstractValue.{AbstractValue}
use Rattle.def_effects.specs.declared.Span.{Span}
use Rattle.def_effects.specs.declared.Session.{Session}
use Rattle.def_effects.specs.declared.MutateVariant.{MutateVariant}
use Rattle.def_effects.specs.declared.MutationResult.{MutationResult}
use Rattle.def_effects.specs.Places.{no_span}
use Rattle.def_transfer.specs.Monad.{ok, M, Done, and_then, ◌>>=◌, return}
use Rattle.def_transfer.specs.Tables.{World}
use Rattle.def_transfer.specs.Pure.{pure}
use Rattle.def_transfer.specs.State as State
use Rattle.def_transfer.specs.Step as Step
use Rattle.state_calls.specs.Calls as Calls
use Rattle.state_calls.specs.Calls.{Outcome, refusal1, used, written, values_refusal, values_answer, values_listed}
use Rattle.state_calls.specs.Answers.{count_outcome, listed_outcome}
use Rattle.def_refusals.specs.declared.Refusal.{Refusal}
use Rattle.def_refusals.proofs.Laws.Verdicts.{number_some}
use Rattle.state_calls.specs.Plain.{plainly, MeansPlain, values_for}
use Rattle.state_means.proofs.Laws.Plain.{kind_with_span_plain, may_write_plain, is_defined_plain, initialize_plain, define_plain, assign_plain, append_alias_plain, freeze_plain, infer_phi_plain, mutate_plain}

-- ---- the promises

-- a call that comes to what the definition does means the same on plain tables
as_said : {A : Type 0} (ref : Bool) (m : M (World pure) A) (vs ss : List ℕ) (s : Session) (o p : Outcome A) → o ≡ p → MeansPlain ref m vs ss s p → (o ≡ p) × MeansPlain ref m vs ss s o
as_said ref m vs ss s o p e h = (e, subst (MeansPlain ref m vs ss s) (sym e) h)

module _ (vs ss : List ℕ) (s : Session) where
  pub kind_with_span_promise : (i : ℕ) (span : Span) (o : Outcome AbstractValue) → o ≡ Calls.kind_with_span vs ss s i span
      → (o ≡ Calls.kind_with_span vs ss s i span) × MeansPlain false (State.kind_with_span i span) vs ss s o
  kind_with_span_promise i span o e = as_said false (State.kind_with_span i span) vs ss s o _ e (kind_with_span_plain vs ss s i span)

  pub kind_promise : (i : ℕ) (o : Outcome AbstractValue) → o ≡ Calls.kind vs ss s i → (o ≡ Calls.kind vs ss s i) × MeansPlain false (State.kind i) vs ss s o
  unfolding Calls.kind Calls.kind_with_span State.kind
  kind_promise i o e = kind_with_span_promise i no_span o e

  pub may_write_promise : (i : ℕ) (o : Outcome Bool) → o ≡ Calls.may_write vs ss s i → (o ≡ Calls.may_write vs ss s i) × MeansPlain false (State.may_write i) vs ss s o
  may_write_promise i o e = as_said false (State.may_write i) vs ss s o _ e (may_write_plain vs ss s i)

  pub is_defined_promise : (i : ℕ) (o : Outcome Bool) → o ≡ Calls.is_defined vs ss s i → (o ≡ Calls.is_defined vs ss s i) × MeansPlain false (State.is_defined i) vs ss s o
  is_defined_promise i o e = as_said false (State.is_defined i) vs ss s o _ e (is_defined_plain vs ss s i)

  pub mutate_promise : (ref : Bool) (variant : MutateVariant) (i : ℕ) (span : Span) (o : Outcome MutationResult) → o ≡ Calls.mutate vs ss s ref variant i span
      → (o ≡ Calls.mutate vs ss s ref variant i span) × MeansPlain ref (Step.mutate variant (used i span)) vs ss s o
  mutate_promise ref variant i span o e = as_said ref (Step.mutate variant (used i span)) vs ss s o _ e (mutate_plain vs ss s ref variant i span)

  pub initialize_promise : (v : ℕ) (a : AbstractValue) (o : Outcome Done) → o ≡ Calls.initialize vs ss s v a → (o ≡ Calls.initialize vs ss s v a) × MeansPlain false (State.initialize v a) vs ss s o
  initialize_promise v a o e = as_said false (State.initialize v a) vs ss s o _ e (initialize_plain vs ss s v a)

  pub define_promise : (i v : ℕ) (o : Outcome Done) → o ≡ Calls.define vs ss s i v → (o ≡ Calls.define vs ss s i v) × MeansPlain false (State.define i v) vs ss s o
  define_promise i v o e = as_said false (State.define i v) vs ss s o _ e (define_plain vs ss s i v)

  pub assign_promise : (into from : ℕ) (o : Outcome Done) → o ≡ Calls.assign vs ss s into from → (o ≡ Calls.assign vs ss s into from) × MeansPlain false (State.assign into from) vs ss s o
  assign_promise into from o e = as_said false (State.assign into from) vs ss s o _ e (assign_plain vs ss s into from)

  pub append_alias_promise : (place value : ℕ) (o : Outcome Done) → o ≡ Calls.append_alias vs ss s place value → (o ≡ Calls.append_alias vs ss s place value) × MeansPlain false (State.append_alias place value) vs ss s o
  append_alias_promise place value o e = as_said false (State.append_alias place value) vs ss s o _ e (append_alias_plain vs ss s place value)

  pub freeze_promise : (i reason : ℕ) (o : Outcome Bool) → o ≡ Calls.freeze vs ss s i reason → (o ≡ Calls.freeze vs ss s i reason) × MeansPlain false (State.freeze i reason) vs ss s o
  freeze_promise i reason o e = as_said false (State.freeze i reason) vs ss s o _ e (freeze_plain vs ss s i reason)

  pub infer_phi_promise : (place : ℕ) (operands : List ℕ) (o : Outcome Done) → o ≡ Calls.infer_phi vs ss s place operands → (o ≡ Calls.infer_phi vs ss s place operands) × MeansPlain false (State.infer_phi place operands) vs ss s o
  infer_phi_promise place operands o e = as_said false (State.infer_phi place operands) vs ss s o _ e (infer_phi_plain vs ss s place operands)

-- ---- the values of a place in a list

pub values_most : (ss : List ℕ) (i : ℕ) → length (values_of (set_at ss i)) ≤ 1024
values_most ss i = go (set_at ss i) (set_is ss i)
  where
    go : (o : Option ℕ) → Pointing o → length (values_of o) ≤ 1024
    go None p = omega arith
    go (Some x) p = subst (λ (n : ℕ). n ≤ 1024) (members_count x) (ones-le 1024 x p.small)

written_sets : (xs : List ℕ) (k : ℕ) (out : List ℕ) → written xs k out ≡ sets out k xs
unfolding written
written_sets [] k out = refl
written_sets (x ∷ xs) k out = written_sets xs (suc k) (set out k x)

module _ (vs ss : List ℕ) (s : Session) (i : ℕ) (out : List ℕ) where
  room : values_refusal vs ss s i (length out) ≡ 0 → length out ≡ 1024
  unfolding values_refusal
  room z = go (eqb (length out) 1024) (eqb→eq (length out) 1024) z
    where
      go : (b : Bool) → (lib.Dec.T b → length out ≡ 1024) → ite b (refusal1 vs ss s i) 1 ≡ 0 → length out ≡ 1024
      go true h e = h tt
      go false h e = absurd (omega arith)

  listed : values_refusal vs ss s i (length out) ≡ 0 → take (values_answer vs ss s i out).answer (values_listed vs ss s i out) ≡ values_of (set_at ss i)
  unfolding values_answer values_listed
  listed z =
      let vals : List ℕ = values_of (set_at ss i) in
      let zeros : List ℕ = replicate (length out) 0 in
      let t : eqb (values_refusal vs ss s i (length out)) 0 ≡ true = eq-eqb _ 0 z in
      ap (λ (b : Bool). take (ite b (length vals) 0) (ite b (written vals 0 zeros) zeros)) t
      ∙ ap (take (length vals)) (written_sets vals 0 zeros ∙ sets-eq vals zeros 0 (let a = values_most ss i in let b = room z in let c : length zeros ≡ length out = length-replicate (length out) 0 in omega arith))
      ∙ take-append_seam vals (drop (0 + length vals) zeros)

  -- refused or not, the call says how many there are, and the words up to that many
  pub values_for_promise : (r : Result ℕ Refusal) (us : List ℕ) → count_outcome vs ss s r ≡ values_answer vs ss s i out → us ≡ values_listed vs ss s i out
      → (count_outcome vs ss s r ≡ values_answer vs ss s i out) × (us ≡ values_listed vs ss s i out) × MeansPlain false (values_for i) vs ss s (listed_outcome us vs ss s r)
  unfolding MeansPlain values_for State.set_of return ◌>>=◌ and_then values_answer
  values_for_promise (Err n) us p q = (p, q, λ z. absurd (number_some n z))
  values_for_promise (Ok n) us p q = (
    p,
    q,
    λ z. ap (λ (x : List ℕ). ok x (plainly false vs ss s))
        (sym (listed (sym (ap (λ (x : Outcome ℕ). x.refusal) p))) ∙ ap₂ (λ (n : ℕ) (x : List ℕ). take n x) (sym (ap (λ (x : Outcome ℕ). x.answer) p)) (sym q)),
  )
