-- A law for each variant: what an effect does. Assumes nothing.
use Rattle.std.specs.Prelude.{ℕ, ◌≡◌}
use Rattle.std.proofs.Math.Path.{refl, sym}
use Rattle.std.proofs.Common.{ap, arith}
use Rattle.def_effects.specs.declared.Place.{Place}
use Rattle.def_effects.specs.declared.MutateVariant.TheVariants as Variant
use Rattle.lent_effects.specs.declared.AliasingEffect.{AliasingEffect as Head}
use Rattle.effect_acts.specs.declared.FlowKind.{FlowKind}
use Rattle.effect_acts.specs.declared.FlowKind.TheVariants as Kind
use Rattle.effect_acts.specs.declared.Act.TheVariants.{Plain, Mutating, Flowing, Assigning, CreatingFrom, CreatingFunction}
use Rattle.effect_acts.specs.Acts.{act_of}

module _ (e : Head) where
  pub act_mutate : (p : Place) (r : ℕ) → e ≡ Head.Mutate p r → Mutating Variant.Mutate p ≡ act_of e
  unfolding act_of
  act_mutate p r h = sym (ap act_of h)

  pub act_mutate_conditionally : (p : Place) → e ≡ Head.MutateConditionally p → Mutating Variant.MutateConditionally p ≡ act_of e
  unfolding act_of
  act_mutate_conditionally p h = sym (ap act_of h)

  pub act_mutate_transitive : (p : Place) → e ≡ Head.MutateTransitive p → Mutating Variant.MutateTransitive p ≡ act_of e
  unfolding act_of
  act_mutate_transitive p h = sym (ap act_of h)

  pub act_mutate_transitive_conditionally : (p : Place) → e ≡ Head.MutateTransitiveConditionally p → Mutating Variant.MutateTransitiveConditionally p ≡ act_of e
  unfolding act_of
  act_mutate_transitive_conditionally p h = sym (ap act_of h)

  pub act_capture : (f i : Place) → e ≡ Head.Capture f i → Flowing Kind.Capture f i ≡ act_of e
  unfolding act_of
  act_capture f i h = sym (ap act_of h)

  pub act_alias : (f i : Place) → e ≡ Head.Alias f i → Flowing Kind.Alias f i ≡ act_of e
  unfolding act_of
  act_alias f i h = sym (ap act_of h)

  pub act_maybe_alias : (f i : Place) → e ≡ Head.MaybeAlias f i → Flowing Kind.MaybeAlias f i ≡ act_of e
  unfolding act_of
  act_maybe_alias f i h = sym (ap act_of h)

  pub act_assign : (f i : Place) → e ≡ Head.Assign f i → Assigning f i ≡ act_of e
  unfolding act_of
  act_assign f i h = sym (ap act_of h)

  pub act_create_from : (f i : Place) → e ≡ Head.CreateFrom f i → CreatingFrom f i ≡ act_of e
  unfolding act_of
  act_create_from f i h = sym (ap act_of h)

  pub act_create_function : (f : ℕ) (i : Place) → e ≡ Head.CreateFunction f i → CreatingFunction f i ≡ act_of e
  unfolding act_of
  act_create_function f i h = sym (ap act_of h)

-- any other effect
pub act_other : (e : Head) → ((p : Place) (r : ℕ) → e ≡ Head.Mutate p r → ⊥) → ((p : Place) → e ≡ Head.MutateConditionally p → ⊥) → ((p : Place) → e ≡ Head.MutateTransitive p → ⊥) → ((p : Place) → e ≡ Head.MutateTransitiveConditionally p → ⊥) → ((a b : Place) → e ≡ Head.Capture a b → ⊥) → ((a b : Place) → e ≡ Head.Alias a b → ⊥) → ((a b : Place) → e ≡ Head.MaybeAlias a b → ⊥) → ((a b : Place) → e ≡ Head.Assign a b → ⊥) → ((a b : Place) → e ≡ Head.CreateFrom a b → ⊥) → ((f : ℕ) (a : Place) → e ≡ Head.CreateFunction f a → ⊥) → Plain ≡ act_of e
unfolding act_of
act_other (Head.Freeze p r) n1 n2 n3 n4 n5 n6 n7 n8 n9 n10 = refl
act_other (Head.Mutate p r) n1 n2 n3 n4 n5 n6 n7 n8 n9 n10 = absurd (n1 p r refl)
act_other (Head.MutateConditionally p) n1 n2 n3 n4 n5 n6 n7 n8 n9 n10 = absurd (n2 p refl)
act_other (Head.MutateTransitive p) n1 n2 n3 n4 n5 n6 n7 n8 n9 n10 = absurd (n3 p refl)
act_other (Head.MutateTransitiveConditionally p) n1 n2 n3 n4 n5 n6 n7 n8 n9 n10 = absurd (n4 p refl)
act_other (Head.Capture a b) n1 n2 n3 n4 n5 n6 n7 n8 n9 n10 = absurd (n5 a b refl)
act_other (Head.Alias a b) n1 n2 n3 n4 n5 n6 n7 n8 n9 n10 = absurd (n6 a b refl)
act_other (Head.MaybeAlias a b) n1 n2 n3 n4 n5 n6 n7 n8 n9 n10 = absurd (n7 a b refl)
act_other (Head.Assign a b) n1 n2 n3 n4 n5 n6 n7 n8 n9 n10 = absurd (n8 a b refl)
act_other (Head.Create a k r) n1 n2 n3 n4 n5 n6 n7 n8 n9 n10 = refl
act_other (Head.CreateFrom a b) n1 n2 n3 n4 n5 n6 n7 n8 n9 n10 = absurd (n9 a b refl)
act_other (Head.ImmutableCapture a b) n1 n2 n3 n4 n5 n6 n7 n8 n9 n10 = refl
act_other (Head.CreateFunction f a) n1 n2 n3 n4 n5 n6 n7 n8 n9 n10 = absurd (n10 f a refl)
act_other (Head.MutateFrozen p d) n1 n2 n3 n4 n5 n6 n7 n8 n9 n10 = refl
act_other (Head.MutateGlobal p d) n1 n2 n3 n4 n5 n6 n7 n8 n9 n10 = refl
act_other (Head.Impure p d) n1 n2 n3 n4 n5 n6 n7 n8 n9 n10 = refl
act_other (Head.Render p) n1 n2 n3 n4 n5 n6 n7 n8 n9 n10 = refl

-- no effect is an Alias that flows like a MaybeAlias
module _ (e : Head) (k : FlowKind) (f i : Place) where
  pub never_as_maybe : Flowing k f i ≡ act_of e → k ≡ Kind.AliasAsMaybe → ⊥
  unfolding act_of
  never_as_maybe h q = go e h
    where
      go : (e : Head) → Flowing k f i ≡ act_of e → ⊥
      go (Head.Capture a b) h = absurd (let z : ◌≡◌ {A = ℕ} 0 1 = cc in omega arith)
      go e h = absurd (let z : ◌≡◌ {A = ℕ} 0 1 = cc in omega arith)
