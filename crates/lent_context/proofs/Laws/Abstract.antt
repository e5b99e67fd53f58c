-- Every read of a lent context is the one of the plain tables that its slices mean: a wrong word or flag is refused here.
-- (The searches along an order: `proofs/Laws/Ordered.antt`, `proofs/Laws/Numbered.antt`.) Assumes nothing.
use Rattle.std.specs.Prelude.{ℕ, ◌≡◌}
use Rattle.std.proofs.Math.Path.{refl}
use Rattle.def_transfer.specs.Diagnostics.{Diagnostic}
use Rattle.def_transfer.specs.Pure.{pure}
use Rattle.lent_layout.specs.Context.{ContextWords}
use Rattle.lent_context.specs.Lent as Lent
use Rattle.lent_context.specs.Abstract.{abstract}

module _ (c : ContextWords) where
  pub key_is : (v : ℕ) → Lent.key_at c v ≡ pure.key_at (abstract c) v
  unfolding Lent.key_at
  key_is v = refl

  pub link_is : (v : ℕ) → Lent.link_of c v ≡ pure.link_of (abstract c) v
  unfolding Lent.link_of
  link_is v = refl

  pub places_is : (f : ℕ) → Lent.context_of c f ≡ pure.context_of (abstract c) f
  unfolding Lent.context_of
  places_is f = refl

  pub inside_is : (f : ℕ) → Lent.mutated_inside c f ≡ pure.mutated_inside (abstract c) f
  unfolding Lent.mutated_inside
  inside_is f = refl

  pub tracked_is : (f : ℕ) → Lent.has_tracked_side_effect c f ≡ pure.has_tracked_side_effect (abstract c) f
  unfolding Lent.has_tracked_side_effect
  tracked_is f = refl

  pub ref_is : (i : ℕ) → Lent.is_ref c i ≡ pure.is_ref (abstract c) i
  unfolding Lent.is_ref
  ref_is i = refl

  pub hoisted_is : (i : ℕ) → Lent.is_hoisted c i ≡ pure.is_hoisted (abstract c) i
  unfolding Lent.is_hoisted
  hoisted_is i = refl

  pub access_is : (i : ℕ) → Lent.access_span c i ≡ pure.access_span (abstract c) i
  unfolding Lent.access_span
  access_is i = refl

  pub name_is : (i : ℕ) → Lent.name_of c i ≡ pure.name_of (abstract c) i
  unfolding Lent.name_of
  name_is i = refl

  pub transitive_is : Lent.is_transitive c ≡ pure.is_transitive (abstract c)
  unfolding Lent.is_transitive
  transitive_is = refl

  pub identities_is : Lent.identity_count c ≡ pure.identity_count (abstract c)
  unfolding Lent.identity_count
  identities_is = refl

  pub identity_is : (d : Diagnostic) → Lent.find_identity c d ≡ pure.find_identity (abstract c) d
  unfolding Lent.find_identity
  identity_is d = refl

  pub instance_is : (m : ℕ) (d : Diagnostic) → Lent.find_instance c m d ≡ pure.find_instance (abstract c) m d
  unfolding Lent.find_instance
  instance_is m d = refl
