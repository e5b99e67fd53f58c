-- The key of an effect, one law for each effect. Assumes nothing.
use Rattle.std.specs.Prelude.{ℕ, ◌≡◌, refl, true, List, None, Some}
use Rattle.std.proofs.Math.Path.{sym, ap}
use Rattle.std.proofs.Common.{◌∙◌}
use Rattle.std.proofs.Math.Bool.{false}
use Rattle.def_kinds.specs.declared.ValueKind.{ValueKind}
use Rattle.def_kinds.specs.Kinds.{code_of as kind_code}
use Rattle.def_effects.specs.declared.Place.{Place}
use Rattle.def_effects.specs.declared.AliasingDiagnostic.{AliasingDiagnostic}
use Rattle.def_effects.specs.Places.{identifiers}
use Rattle.def_effects.specs.Keys.{one, two, effect_key}
use Rattle.lent_effects.specs.declared.AliasingEffect.{AliasingEffect as Head}
use Rattle.lent_effects.specs.Records.{effect_with}
use Rattle.lent_keys.specs.declared.Key.{Key}
use Rattle.lent_keys.specs.KeyRecords.{key_with}

-- ---- the key of an effect

-- the key of one place
pub one_is : (n : ℕ) (p : Place) (r d : ℕ) (is : List ℕ)
    → key_with (record { code = n; from = Some p.identifier; into = None; kind = 0; reason = r; function = None; identity = d; captured = false }) is ≡ one n p r d
unfolding key_with
one_is n p r d is = refl

-- the key of two places
pub two_is : (n : ℕ) (p q : Place) (is : List ℕ)
    → key_with (record { code = n; from = Some p.identifier; into = Some q.identifier; kind = 0; reason = 0; function = None; identity = 0; captured = false }) is ≡ two n p q
unfolding key_with
two_is n p q is = refl

module _ (e : Head) where
  -- Freeze: its key
  pub key_freeze : (p : Place) (r : ℕ) (k : Key) → e ≡ Head.Freeze p r → ((is : List ℕ) → key_with k is ≡ one 0 p r 0) → (cs : List Place) → key_with k (identifiers cs) ≡ effect_key (effect_with e cs)
  unfolding effect_with
  key_freeze p r k g h cs = h (identifiers cs) ∙ sym (ap (λ (x : Head). effect_key (effect_with x cs)) g)

  -- Mutate: its key
  pub key_mutate : (p : Place) (r : ℕ) (k : Key) → e ≡ Head.Mutate p r → ((is : List ℕ) → key_with k is ≡ one 1 p 0 0) → (cs : List Place) → key_with k (identifiers cs) ≡ effect_key (effect_with e cs)
  unfolding effect_with
  key_mutate p r k g h cs = h (identifiers cs) ∙ sym (ap (λ (x : Head). effect_key (effect_with x cs)) g)

  -- MutateConditionally: its key
  pub key_mutate_conditionally : (p : Place) (k : Key) → e ≡ Head.MutateConditionally p → ((is : List ℕ) → key_with k is ≡ one 2 p 0 0) → (cs : List Place) → key_with k (identifiers cs) ≡ effect_key (effect_with e cs)
  unfolding effect_with
  key_mutate_conditionally p k g h cs = h (identifiers cs) ∙ sym (ap (λ (x : Head). effect_key (effect_with x cs)) g)

  -- MutateTransitive: its key
  pub key_mutate_transitive : (p : Place) (k : Key) → e ≡ Head.MutateTransitive p → ((is : List ℕ) → key_with k is ≡ one 3 p 0 0) → (cs : List Place) → key_with k (identifiers cs) ≡ effect_key (effect_with e cs)
  unfolding effect_with
  key_mutate_transitive p k g h cs = h (identifiers cs) ∙ sym (ap (λ (x : Head). effect_key (effect_with x cs)) g)

  -- MutateTransitiveConditionally: its key
  pub key_mutate_transitive_conditionally : (p : Place) (k : Key) → e ≡ Head.MutateTransitiveConditionally p → ((is : List ℕ) → key_with k is ≡ one 4 p 0 0) → (cs : List Place) → key_with k (identifiers cs) ≡ effect_key (effect_with e cs)
  unfolding effect_with
  key_mutate_transitive_conditionally p k g h cs = h (identifiers cs) ∙ sym (ap (λ (x : Head). effect_key (effect_with x cs)) g)

  -- Capture: its key
  pub key_capture : (p : Place) (q : Place) (k : Key) → e ≡ Head.Capture p q → ((is : List ℕ) → key_with k is ≡ two 5 p q) → (cs : List Place) → key_with k (identifiers cs) ≡ effect_key (effect_with e cs)
  unfolding effect_with
  key_capture p q k g h cs = h (identifiers cs) ∙ sym (ap (λ (x : Head). effect_key (effect_with x cs)) g)

  -- Alias: its key
  pub key_alias : (p : Place) (q : Place) (k : Key) → e ≡ Head.Alias p q → ((is : List ℕ) → key_with k is ≡ two 6 p q) → (cs : List Place) → key_with k (identifiers cs) ≡ effect_key (effect_with e cs)
  unfolding effect_with
  key_alias p q k g h cs = h (identifiers cs) ∙ sym (ap (λ (x : Head). effect_key (effect_with x cs)) g)

  -- MaybeAlias: its key
  pub key_maybe_alias : (p : Place) (q : Place) (k : Key) → e ≡ Head.MaybeAlias p q → ((is : List ℕ) → key_with k is ≡ two 7 p q) → (cs : List Place) → key_with k (identifiers cs) ≡ effect_key (effect_with e cs)
  unfolding effect_with
  key_maybe_alias p q k g h cs = h (identifiers cs) ∙ sym (ap (λ (x : Head). effect_key (effect_with x cs)) g)

  -- Assign: its key
  pub key_assign : (p : Place) (q : Place) (k : Key) → e ≡ Head.Assign p q → ((is : List ℕ) → key_with k is ≡ two 8 p q) → (cs : List Place) → key_with k (identifiers cs) ≡ effect_key (effect_with e cs)
  unfolding effect_with
  key_assign p q k g h cs = h (identifiers cs) ∙ sym (ap (λ (x : Head). effect_key (effect_with x cs)) g)

  -- Create: its key
  pub key_create : (q : Place) (k : ValueKind) (r m : ℕ) → e ≡ Head.Create q k r → m ≡ kind_code k → (cs : List Place)
      → key_with (record { code = 9; from = None; into = Some q.identifier; kind = m; reason = r; function = None; identity = 0; captured = false }) (identifiers cs) ≡ effect_key (effect_with e cs)
  unfolding effect_with key_with
  key_create q k r m g h cs =
      ap (λ (x : ℕ). key_with (record { code = 9; from = None; into = Some q.identifier; kind = x; reason = r; function = None; identity = 0; captured = false }) (identifiers cs)) h
      ∙ sym (ap (λ (x : Head). effect_key (effect_with x cs)) g)

  -- CreateFrom: its key
  pub key_create_from : (p : Place) (q : Place) (k : Key) → e ≡ Head.CreateFrom p q → ((is : List ℕ) → key_with k is ≡ two 10 p q) → (cs : List Place) → key_with k (identifiers cs) ≡ effect_key (effect_with e cs)
  unfolding effect_with
  key_create_from p q k g h cs = h (identifiers cs) ∙ sym (ap (λ (x : Head). effect_key (effect_with x cs)) g)

  -- ImmutableCapture: its key
  pub key_immutable_capture : (p : Place) (q : Place) (k : Key) → e ≡ Head.ImmutableCapture p q → ((is : List ℕ) → key_with k is ≡ two 11 p q) → (cs : List Place) → key_with k (identifiers cs) ≡ effect_key (effect_with e cs)
  unfolding effect_with
  key_immutable_capture p q k g h cs = h (identifiers cs) ∙ sym (ap (λ (x : Head). effect_key (effect_with x cs)) g)

  -- CreateFunction: its key
  pub key_create_function : (f : ℕ) (q : Place) → e ≡ Head.CreateFunction f q → (cs : List Place)
      → key_with (record { code = 13; from = None; into = Some q.identifier; kind = 0; reason = 0; function = Some f; identity = 0; captured = true }) (identifiers cs) ≡ effect_key (effect_with e cs)
  unfolding effect_with key_with
  key_create_function f q g cs = sym (ap (λ (x : Head). effect_key (effect_with x cs)) g)

  -- MutateFrozen: its key
  pub key_mutate_frozen : (p : Place) (d : AliasingDiagnostic) (k : Key) → e ≡ Head.MutateFrozen p d → ((is : List ℕ) → key_with k is ≡ one 14 p 0 d.identity) → (cs : List Place) → key_with k (identifiers cs) ≡ effect_key (effect_with e cs)
  unfolding effect_with
  key_mutate_frozen p d k g h cs = h (identifiers cs) ∙ sym (ap (λ (x : Head). effect_key (effect_with x cs)) g)

  -- MutateGlobal: its key
  pub key_mutate_global : (p : Place) (d : AliasingDiagnostic) (k : Key) → e ≡ Head.MutateGlobal p d → ((is : List ℕ) → key_with k is ≡ one 15 p 0 d.identity) → (cs : List Place) → key_with k (identifiers cs) ≡ effect_key (effect_with e cs)
  unfolding effect_with
  key_mutate_global p d k g h cs = h (identifiers cs) ∙ sym (ap (λ (x : Head). effect_key (effect_with x cs)) g)

  -- Impure: its key
  pub key_impure : (p : Place) (d : AliasingDiagnostic) (k : Key) → e ≡ Head.Impure p d → ((is : List ℕ) → key_with k is ≡ one 16 p 0 0) → (cs : List Place) → key_with k (identifiers cs) ≡ effect_key (effect_with e cs)
  unfolding effect_with
  key_impure p d k g h cs = h (identifiers cs) ∙ sym (ap (λ (x : Head). effect_key (effect_with x cs)) g)

  -- Render: its key
  pub key_render : (p : Place) (k : Key) → e ≡ Head.Render p → ((is : List ℕ) → key_with k is ≡ one 17 p 0 0) → (cs : List Place) → key_with k (identifiers cs) ≡ effect_key (effect_with e cs)
  unfolding effect_with
  key_render p k g h cs = h (identifiers cs) ∙ sym (ap (λ (x : Head). effect_key (effect_with x cs)) g)
