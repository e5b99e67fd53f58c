-- A law for each variant: the step of an effect that derives no other. Assumes nothing.
use Rattle.std.specs.Prelude.{ℕ, ◌≡◌, ◌⊎◌, Bool, true, false, List}
use Rattle.std.proofs.Common.{arith, inl, inr, ◌∙◌}
use Rattle.std.proofs.Math.Path.{refl, sym, ap}
use Rattle.def_kinds.specs.declared.ValueKind.{ValueKind}
use Rattle.def_effects.specs.declared.Place.{Place}
use Rattle.def_effects.specs.declared.AliasingDiagnostic.{AliasingDiagnostic}
use Rattle.def_effects.specs.Effects.{AliasingEffect}
use Rattle.def_transfer.specs.Monad.{M, Done}
use Rattle.def_transfer.specs.Tables.{World}
use Rattle.def_transfer.specs.Context.{emit}
use Rattle.def_transfer.specs.Step.{act, freezing, creating, capturing_immutably}
use Rattle.lent_effects.specs.declared.AliasingEffect.{AliasingEffect as Head}
use Rattle.lent_effects.specs.Records.{effect_with}
use Rattle.lent_world.specs.World.{lent}
use Rattle.effect_acts.specs.declared.Act.{Act}
use Rattle.effect_acts.specs.declared.Act.TheVariants.{Plain, Mutating, Flowing, Assigning, CreatingFrom, CreatingFunction}
use Rattle.effect_acts.specs.Acts.{act_of}

is_plain : Act → Bool
is_plain Plain = true
is_plain (Mutating v p) = false
is_plain (Flowing kind from into) = false
is_plain (Assigning from into) = false
is_plain (CreatingFrom from into) = false
is_plain (CreatingFunction f into) = false

-- what is not plain does not come here
other : {A : Type 0} (a : Act) → Plain ≡ a → is_plain a ≡ false → A
unfolding is_plain
other a e h = let z : true ≡ false = ap is_plain e ∙ h in let y : ◌≡◌ {A = ℕ} 0 1 = cc in absurd (omega arith)

module _ (e : Head) (cs : List Place) (w : World lent) where
  pub plain_freeze : (p : Place) (r : ℕ) → e ≡ Head.Freeze p r → (again : AliasingEffect → M (World lent) Done) → act again (effect_with e cs) w ≡ freezing again p r w
  unfolding act effect_with
  plain_freeze p r h again = ap (λ (x : Head). act again (effect_with x cs) w) h

  pub plain_create : (a : Place) (k : ValueKind) (r : ℕ) → e ≡ Head.Create a k r → (again : AliasingEffect → M (World lent) Done) → act again (effect_with e cs) w ≡ creating again a k r w
  unfolding act effect_with
  plain_create a k r h again = ap (λ (x : Head). act again (effect_with x cs) w) h

  pub plain_immutable_capture : (a b : Place) → e ≡ Head.ImmutableCapture a b → (again : AliasingEffect → M (World lent) Done) → act again (effect_with e cs) w ≡ capturing_immutably again a b w
  unfolding act effect_with
  plain_immutable_capture a b h again = ap (λ (x : Head). act again (effect_with x cs) w) h

module _ (e : Head) (cs ds : List Place) (w : World lent) where
  plain_mutate_frozen : (p : Place) (d : AliasingDiagnostic) → e ≡ Head.MutateFrozen p d → (again : AliasingEffect → M (World lent) Done) → act again (effect_with e cs) w ≡ emit (effect_with e ds) w
  unfolding act effect_with
  plain_mutate_frozen p d h again = ap (λ (x : Head). act again (effect_with x cs) w) h ∙ sym (ap (λ (x : Head). emit (effect_with x ds) w) h)

  plain_mutate_global : (p : Place) (d : AliasingDiagnostic) → e ≡ Head.MutateGlobal p d → (again : AliasingEffect → M (World lent) Done) → act again (effect_with e cs) w ≡ emit (effect_with e ds) w
  unfolding act effect_with
  plain_mutate_global p d h again = ap (λ (x : Head). act again (effect_with x cs) w) h ∙ sym (ap (λ (x : Head). emit (effect_with x ds) w) h)

  plain_impure : (p : Place) (d : AliasingDiagnostic) → e ≡ Head.Impure p d → (again : AliasingEffect → M (World lent) Done) → act again (effect_with e cs) w ≡ emit (effect_with e ds) w
  unfolding act effect_with
  plain_impure p d h again = ap (λ (x : Head). act again (effect_with x cs) w) h ∙ sym (ap (λ (x : Head). emit (effect_with x ds) w) h)

  plain_render : (p : Place) → e ≡ Head.Render p → (again : AliasingEffect → M (World lent) Done) → act again (effect_with e cs) w ≡ emit (effect_with e ds) w
  unfolding act effect_with
  plain_render p h again = ap (λ (x : Head). act again (effect_with x cs) w) h ∙ sym (ap (λ (x : Head). emit (effect_with x ds) w) h)

  -- the four that are only listed
  pub plain_listed : ((p : Place) × (d : AliasingDiagnostic) × (e ≡ Head.MutateFrozen p d)) ⊎ (((p : Place) × (d : AliasingDiagnostic) × (e ≡ Head.MutateGlobal p d)) ⊎ (((p : Place) × (d : AliasingDiagnostic) × (e ≡ Head.Impure p d)) ⊎ ((p : Place) × (e ≡ Head.Render p))))
      → (again : AliasingEffect → M (World lent) Done) → act again (effect_with e cs) w ≡ emit (effect_with e ds) w
  plain_listed (inl h) = plain_mutate_frozen h.0 h.1 h.2
  plain_listed (inr (inl h)) = plain_mutate_global h.0 h.1 h.2
  plain_listed (inr (inr (inl h))) = plain_impure h.0 h.1 h.2
  plain_listed (inr (inr (inr h))) = plain_render h.0 h.1

-- no other effect is plain
pub plain_only : (e : Head) → ((p : Place) (r : ℕ) → e ≡ Head.Freeze p r → ⊥) → ((a : Place) (k : ValueKind) (r : ℕ) → e ≡ Head.Create a k r → ⊥) → ((a b : Place) → e ≡ Head.ImmutableCapture a b → ⊥) → ((p : Place) (d : AliasingDiagnostic) → e ≡ Head.MutateFrozen p d → ⊥) → ((p : Place) (d : AliasingDiagnostic) → e ≡ Head.MutateGlobal p d → ⊥) → ((p : Place) (d : AliasingDiagnostic) → e ≡ Head.Impure p d → ⊥) → ((p : Place) → e ≡ Head.Render p → ⊥) → Plain ≡ act_of e → ⊥
unfolding act_of is_plain
plain_only (Head.Freeze p r) n1 n2 n3 n4 n5 n6 n7 z = n1 p r refl
plain_only (Head.Mutate p r) n1 n2 n3 n4 n5 n6 n7 z = other (act_of (Head.Mutate p r)) z refl
plain_only (Head.MutateConditionally p) n1 n2 n3 n4 n5 n6 n7 z = other (act_of (Head.MutateConditionally p)) z refl
plain_only (Head.MutateTransitive p) n1 n2 n3 n4 n5 n6 n7 z = other (act_of (Head.MutateTransitive p)) z refl
plain_only (Head.MutateTransitiveConditionally p) n1 n2 n3 n4 n5 n6 n7 z = other (act_of (Head.MutateTransitiveConditionally p)) z refl
plain_only (Head.Capture a b) n1 n2 n3 n4 n5 n6 n7 z = other (act_of (Head.Capture a b)) z refl
plain_only (Head.Alias a b) n1 n2 n3 n4 n5 n6 n7 z = other (act_of (Head.Alias a b)) z refl
plain_only (Head.MaybeAlias a b) n1 n2 n3 n4 n5 n6 n7 z = other (act_of (Head.MaybeAlias a b)) z refl
plain_only (Head.Assign a b) n1 n2 n3 n4 n5 n6 n7 z = other (act_of (Head.Assign a b)) z refl
plain_only (Head.Create a k r) n1 n2 n3 n4 n5 n6 n7 z = n2 a k r refl
plain_only (Head.CreateFrom a b) n1 n2 n3 n4 n5 n6 n7 z = other (act_of (Head.CreateFrom a b)) z refl
plain_only (Head.ImmutableCapture a b) n1 n2 n3 n4 n5 n6 n7 z = n3 a b refl
plain_only (Head.CreateFunction f a) n1 n2 n3 n4 n5 n6 n7 z = other (act_of (Head.CreateFunction f a)) z refl
plain_only (Head.MutateFrozen p d) n1 n2 n3 n4 n5 n6 n7 z = n4 p d refl
plain_only (Head.MutateGlobal p d) n1 n2 n3 n4 n5 n6 n7 z = n5 p d refl
plain_only (Head.Impure p d) n1 n2 n3 n4 n5 n6 n7 z = n6 p d refl
plain_only (Head.Render p) n1 n2 n3 n4 n5 n6 n7 z = n7 p refl
