-- An effect written as a record: one law for each variant. Assumes nothing.
use Rattle.std.specs.Prelude.{ℕ, zero, suc, ◌≡◌, refl, length}
use Rattle.std.proofs.Math.Path.{sym, ap}
use Rattle.std.proofs.Common.{ap₂, ◌∙◌}
use mathlib.Core.List.{List}
use Rattle.def_kinds.specs.declared.ValueKind.{ValueKind}
use Rattle.def_kinds.specs.Kinds.{code_of as kind_code}
use Rattle.def_effects.specs.declared.Place.{Place}
use Rattle.def_effects.specs.declared.AliasingDiagnostic.{AliasingDiagnostic}
use Rattle.def_effects.specs.Effects.{Create, CreateFunction}
use Rattle.lent_tables.specs.declared.Table.{Table}
use Rattle.lent_tables.specs.Words.{field, put_field, put_place, places_in, put_places}
use Rattle.lent_effects.specs.declared.AliasingEffect.{AliasingEffect as Head}
use Rattle.lent_effects.specs.Records.{counted_places, captures_of, effect_with, one_place, two_places, reported, put_effect}
use Rattle.lent_layout.specs.Layout.{one_run}

-- ---- an effect written: one law for each variant

module _ (t : Table) (c : List ℕ) (i : ℕ) (e : Head) (cs : List Place) where
  -- Freeze is written
  pub put_freeze : (p : Place) (r : ℕ) (d1 d2 : List ℕ) → e ≡ Head.Freeze p r → d1 ≡ one_place t c i 0 p → d2 ≡ put_field t d1 i 12 r → d2 ≡ put_effect t c i (effect_with e cs)
  unfolding effect_with put_effect
  put_freeze p r d1 d2 g h1 h2 = h2 ∙ ap (λ (d : List ℕ). put_field t d i 12 r) h1 ∙ sym (ap (λ (x : Head). put_effect t c i (effect_with x cs)) g)

  -- Mutate is written
  pub put_mutate : (p : Place) (r : ℕ) (d1 d2 : List ℕ) → e ≡ Head.Mutate p r → d1 ≡ one_place t c i 1 p → d2 ≡ put_field t d1 i 13 r → d2 ≡ put_effect t c i (effect_with e cs)
  unfolding effect_with put_effect
  put_mutate p r d1 d2 g h1 h2 = h2 ∙ ap (λ (d : List ℕ). put_field t d i 13 r) h1 ∙ sym (ap (λ (x : Head). put_effect t c i (effect_with x cs)) g)

  -- MutateConditionally is written
  pub put_mutate_conditionally : (p : Place) (d : List ℕ) → e ≡ Head.MutateConditionally p → d ≡ one_place t c i 2 p → d ≡ put_effect t c i (effect_with e cs)
  unfolding effect_with put_effect
  put_mutate_conditionally p d g h1 = h1 ∙ sym (ap (λ (x : Head). put_effect t c i (effect_with x cs)) g)

  -- MutateTransitive is written
  pub put_mutate_transitive : (p : Place) (d : List ℕ) → e ≡ Head.MutateTransitive p → d ≡ one_place t c i 3 p → d ≡ put_effect t c i (effect_with e cs)
  unfolding effect_with put_effect
  put_mutate_transitive p d g h1 = h1 ∙ sym (ap (λ (x : Head). put_effect t c i (effect_with x cs)) g)

  -- MutateTransitiveConditionally is written
  pub put_mutate_transitive_conditionally : (p : Place) (d : List ℕ) → e ≡ Head.MutateTransitiveConditionally p → d ≡ one_place t c i 4 p → d ≡ put_effect t c i (effect_with e cs)
  unfolding effect_with put_effect
  put_mutate_transitive_conditionally p d g h1 = h1 ∙ sym (ap (λ (x : Head). put_effect t c i (effect_with x cs)) g)

  -- Capture is written
  pub put_capture : (p : Place) (q : Place) (d : List ℕ) → e ≡ Head.Capture p q → d ≡ two_places t c i 5 p q → d ≡ put_effect t c i (effect_with e cs)
  unfolding effect_with put_effect
  put_capture p q d g h1 = h1 ∙ sym (ap (λ (x : Head). put_effect t c i (effect_with x cs)) g)

  -- Alias is written
  pub put_alias : (p : Place) (q : Place) (d : List ℕ) → e ≡ Head.Alias p q → d ≡ two_places t c i 6 p q → d ≡ put_effect t c i (effect_with e cs)
  unfolding effect_with put_effect
  put_alias p q d g h1 = h1 ∙ sym (ap (λ (x : Head). put_effect t c i (effect_with x cs)) g)

  -- MaybeAlias is written
  pub put_maybe_alias : (p : Place) (q : Place) (d : List ℕ) → e ≡ Head.MaybeAlias p q → d ≡ two_places t c i 7 p q → d ≡ put_effect t c i (effect_with e cs)
  unfolding effect_with put_effect
  put_maybe_alias p q d g h1 = h1 ∙ sym (ap (λ (x : Head). put_effect t c i (effect_with x cs)) g)

  -- Assign is written
  pub put_assign : (p : Place) (q : Place) (d : List ℕ) → e ≡ Head.Assign p q → d ≡ two_places t c i 8 p q → d ≡ put_effect t c i (effect_with e cs)
  unfolding effect_with put_effect
  put_assign p q d g h1 = h1 ∙ sym (ap (λ (x : Head). put_effect t c i (effect_with x cs)) g)

  -- Create is written
  pub put_create : (q : Place) (k : ValueKind) (r : ℕ) (d : List ℕ) → e ≡ Head.Create q k r → d ≡ put_effect t c i (Create q k r) → d ≡ put_effect t c i (effect_with e cs)
  unfolding effect_with put_effect
  put_create q k r d g h1 = h1 ∙ sym (ap (λ (x : Head). put_effect t c i (effect_with x cs)) g)

  -- CreateFrom is written
  pub put_create_from : (p : Place) (q : Place) (d : List ℕ) → e ≡ Head.CreateFrom p q → d ≡ two_places t c i 10 p q → d ≡ put_effect t c i (effect_with e cs)
  unfolding effect_with put_effect
  put_create_from p q d g h1 = h1 ∙ sym (ap (λ (x : Head). put_effect t c i (effect_with x cs)) g)

  -- ImmutableCapture is written
  pub put_immutable_capture : (p : Place) (q : Place) (d : List ℕ) → e ≡ Head.ImmutableCapture p q → d ≡ two_places t c i 11 p q → d ≡ put_effect t c i (effect_with e cs)
  unfolding effect_with put_effect
  put_immutable_capture p q d g h1 = h1 ∙ sym (ap (λ (x : Head). put_effect t c i (effect_with x cs)) g)

  -- CreateFunction is written
  pub put_create_function : (f : ℕ) (q : Place) (d : List ℕ) → e ≡ Head.CreateFunction f q → d ≡ put_effect t c i (CreateFunction cs f q) → d ≡ put_effect t c i (effect_with e cs)
  unfolding effect_with put_effect
  put_create_function f q d g h1 = h1 ∙ sym (ap (λ (x : Head). put_effect t c i (effect_with x cs)) g)

  -- MutateFrozen is written
  pub put_mutate_frozen : (p : Place) (x : AliasingDiagnostic) (d : List ℕ) → e ≡ Head.MutateFrozen p x → d ≡ reported t c i 14 p x → d ≡ put_effect t c i (effect_with e cs)
  unfolding effect_with put_effect
  put_mutate_frozen p x d g h1 = h1 ∙ sym (ap (λ (x : Head). put_effect t c i (effect_with x cs)) g)

  -- MutateGlobal is written
  pub put_mutate_global : (p : Place) (x : AliasingDiagnostic) (d : List ℕ) → e ≡ Head.MutateGlobal p x → d ≡ reported t c i 15 p x → d ≡ put_effect t c i (effect_with e cs)
  unfolding effect_with put_effect
  put_mutate_global p x d g h1 = h1 ∙ sym (ap (λ (x : Head). put_effect t c i (effect_with x cs)) g)

  -- Impure is written
  pub put_impure : (p : Place) (x : AliasingDiagnostic) (d : List ℕ) → e ≡ Head.Impure p x → d ≡ reported t c i 16 p x → d ≡ put_effect t c i (effect_with e cs)
  unfolding effect_with put_effect
  put_impure p x d g h1 = h1 ∙ sym (ap (λ (x : Head). put_effect t c i (effect_with x cs)) g)

  -- Render is written
  pub put_render : (p : Place) (d : List ℕ) → e ≡ Head.Render p → d ≡ one_place t c i 17 p → d ≡ put_effect t c i (effect_with e cs)
  unfolding effect_with put_effect
  put_render p d g h1 = h1 ∙ sym (ap (λ (x : Head). put_effect t c i (effect_with x cs)) g)

-- the writes of a Create
pub writes_create : (t : Table) (c c1 c2 c3 c4 : List ℕ) (i : ℕ) (q : Place) (k : ValueKind) (r m : ℕ)
    → c1 ≡ put_field t c i 0 9 → c2 ≡ put_place t c1 i 6 q → m ≡ kind_code k → c3 ≡ put_field t c2 i 11 m → c4 ≡ put_field t c3 i 12 r
    → c4 ≡ put_effect t c i (Create q k r)
unfolding put_effect
writes_create t c c1 c2 c3 c4 i q k r m h1 h2 h3 h4 h5 = cc

-- a run of places is as long as was asked for
places_count : (t : Table) (c : List ℕ) (i w k n : ℕ) → length (places_in t c i w k n) ≡ n
unfolding places_in
places_count t c i w k zero = refl
places_count t c i w k (suc n) = ap suc (places_count t c i w (suc k) n)

-- and so are the captures beside an effect
pub captures_count_is : (ws : List ℕ) → field one_run ws 0 0 ≡ length (captures_of ws)
unfolding counted_places
captures_count_is ws = sym (places_count one_run ws 0 1 0 (field one_run ws 0 0))

-- the writes of a CreateFunction
-- the count and the captures are those of the slice beside it
pub writes_function : (t : Table) (c c1 c2 c3 c4 c5 : List ℕ) (i f : ℕ) (q : Place) (ws : List ℕ) (m : ℕ)
    → c1 ≡ put_field t c i 0 13 → c2 ≡ put_place t c1 i 6 q → c3 ≡ put_field t c2 i 14 f → m ≡ field one_run ws 0 0 → c4 ≡ put_field t c3 i 17 m → c5 ≡ put_places t c4 i 18 0 (captures_of ws)
    → c5 ≡ put_effect t c i (CreateFunction (captures_of ws) f q)
unfolding put_effect
writes_function t c c1 c2 c3 c4 c5 i f q ws m h1 h2 h3 h4 h5 h6 =
    let e : m ≡ length (captures_of ws) = h4 ∙ captures_count_is ws in
    h6 ∙ ap (λ (d : List ℕ). put_places t d i 18 0 (captures_of ws)) (h5 ∙ ap₂ (λ (d : List ℕ) (y : ℕ). put_field t d i 17 y) (h3 ∙ ap (λ (d : List ℕ). put_field t d i 14 f) (h2 ∙ ap (λ (d : List ℕ). put_place t d i 6 q) h1)) e)
