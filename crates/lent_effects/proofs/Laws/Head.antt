-- The head of a record, read by its code: one law for each arm, and the code of a record's effect. Assumes nothing.
use Prim.Native.Nat.{ℕ, zero, suc, ◌≤◌, ◌<◌, zero-le}
use Rattle.std.specs.Prelude.{◌≡◌, refl, Bool, true, false, ◌&&◌, ◌||◌, ◌⊎◌, List, T, eqb, ltb}
use Rattle.std.proofs.Math.Path.{sym, ap}
use Rattle.std.proofs.Common.{◌∙◌, inl, inr, not-suc-le-zero, eqb→eq, ltb-true, ltb-false, ne_eqb}
use Rattle.std.proofs.Math.Logic.{⊎_elim}
use native.Mathlib.Omega.{arith}
use Rattle.std.proofs.Math.ListN.{get_or, get_or-eq_default}
use Rattle.base_tests.proofs.Laws.Bool.{both_left, both_right}
use Rattle.def_kinds.specs.declared.ValueKind.{ValueKind}
use Rattle.def_kinds.specs.Kinds.{kind_at}
use Rattle.def_effects.specs.declared.Place.{Place}
use Rattle.def_effects.specs.declared.AliasingDiagnostic.{AliasingDiagnostic}
use Rattle.def_effects.specs.Effects.{code_of}
use Rattle.lent_tables.specs.declared.Table.{Table}
use Rattle.lent_tables.specs.Words.{field, place_in}
use Rattle.lent_effects.specs.declared.AliasingEffect.{AliasingEffect as Head}
use Rattle.lent_effects.specs.Records.{counted_places, effect_with, diagnostic, heads, head_in, effect_in}

-- ---- numbers

-- a number is below another, or it is not
-- a law of a word goes by whether the record has it
pub lower_or_not : (a b : ℕ) → (a < b) ⊎ (b ≤ a)
lower_or_not a b = told (ltb a b) (λ e. ltb-true a b e) (λ e. ltb-false a b e)
  where
    -- what the test says, either way
    told : (d : Bool) → (d ≡ true → a < b) → (d ≡ false → b ≤ a) → (a < b) ⊎ (b ≤ a)
    told true p q = inl (p refl)
    told false p q = inr (q refl)

-- a test of each number below n
abbrev all_below : (ℕ → Bool) → ℕ → Bool
all_below f zero = true
all_below f (suc n) = f n && all_below f n

-- where they all passed, each did
below_all : (f : ℕ → Bool) (n : ℕ) → T (all_below f n) → (k : ℕ) → k < n → T (f k)
below_all f zero t k h = absurd (not-suc-le-zero h)
below_all f (suc n) t k h =
    ⊎_elim
    (λ l. below_all f n (both_right (f n) (all_below f n) t) k l)
    (λ l. let e : n ≡ k = omega arith in rw (← e) (both_left (f n) (all_below f n) t))
    (lower_or_not k n)

-- a number that is not the least of those left is above it
next : (a n : ℕ) → a ≤ n → (n ≡ a → ⊥) → suc a ≤ n
next a n l d = omega arith

-- of the numbers 12 to 16 the one that no arm names
twelve : (n : ℕ) → 12 ≤ n → n < 17 → (n ≡ 13 → ⊥) → (n ≡ 14 → ⊥) → (n ≡ 15 → ⊥) → (n ≡ 16 → ⊥) → n ≡ 12
twelve n l u a b c d = omega arith

-- ---- the head of a record, read: one law for each arm

module _ (t : Table) (c : List ℕ) (i n : ℕ) (h : n ≡ field t c i 0) where
  -- the head at the place that the code says
  at_code : (k : ℕ) → n ≡ k → get_or (heads t c i) k (Head.Render (place_in t c i 1)) ≡ head_in t c i
  unfolding head_in
  at_code k e = ap (λ (m : ℕ). get_or (heads t c i) m (Head.Render (place_in t c i 1))) (sym e ∙ h)

  -- code 0: Freeze
  pub head_0 : (p : Place) (r : ℕ) → n ≡ 0 → p ≡ place_in t c i 1 → r ≡ field t c i 12 → Head.Freeze p r ≡ head_in t c i
  unfolding heads
  head_0 p r e h1 h2 = (λ j. Head.Freeze (h1 j) (h2 j)) ∙ at_code 0 e

  -- code 1: Mutate
  pub head_1 : (p : Place) (r : ℕ) → n ≡ 1 → p ≡ place_in t c i 1 → r ≡ field t c i 13 → Head.Mutate p r ≡ head_in t c i
  unfolding heads
  head_1 p r e h1 h2 = (λ j. Head.Mutate (h1 j) (h2 j)) ∙ at_code 1 e

  -- code 2: MutateConditionally
  pub head_2 : (p : Place) → n ≡ 2 → p ≡ place_in t c i 1 → Head.MutateConditionally p ≡ head_in t c i
  unfolding heads
  head_2 p e h1 = (λ j. Head.MutateConditionally (h1 j)) ∙ at_code 2 e

  -- code 3: MutateTransitive
  pub head_3 : (p : Place) → n ≡ 3 → p ≡ place_in t c i 1 → Head.MutateTransitive p ≡ head_in t c i
  unfolding heads
  head_3 p e h1 = (λ j. Head.MutateTransitive (h1 j)) ∙ at_code 3 e

  -- code 4: MutateTransitiveConditionally
  pub head_4 : (p : Place) → n ≡ 4 → p ≡ place_in t c i 1 → Head.MutateTransitiveConditionally p ≡ head_in t c i
  unfolding heads
  head_4 p e h1 = (λ j. Head.MutateTransitiveConditionally (h1 j)) ∙ at_code 4 e

  -- code 5: Capture
  pub head_5 : (p : Place) (q : Place) → n ≡ 5 → p ≡ place_in t c i 1 → q ≡ place_in t c i 6 → Head.Capture p q ≡ head_in t c i
  unfolding heads
  head_5 p q e h1 h2 = (λ j. Head.Capture (h1 j) (h2 j)) ∙ at_code 5 e

  -- code 6: Alias
  pub head_6 : (p : Place) (q : Place) → n ≡ 6 → p ≡ place_in t c i 1 → q ≡ place_in t c i 6 → Head.Alias p q ≡ head_in t c i
  unfolding heads
  head_6 p q e h1 h2 = (λ j. Head.Alias (h1 j) (h2 j)) ∙ at_code 6 e

  -- code 7: MaybeAlias
  pub head_7 : (p : Place) (q : Place) → n ≡ 7 → p ≡ place_in t c i 1 → q ≡ place_in t c i 6 → Head.MaybeAlias p q ≡ head_in t c i
  unfolding heads
  head_7 p q e h1 h2 = (λ j. Head.MaybeAlias (h1 j) (h2 j)) ∙ at_code 7 e

  -- code 8: Assign
  pub head_8 : (p : Place) (q : Place) → n ≡ 8 → p ≡ place_in t c i 1 → q ≡ place_in t c i 6 → Head.Assign p q ≡ head_in t c i
  unfolding heads
  head_8 p q e h1 h2 = (λ j. Head.Assign (h1 j) (h2 j)) ∙ at_code 8 e

  -- code 9: Create
  pub head_9 : (q : Place) (k : ValueKind) (r : ℕ) → n ≡ 9 → q ≡ place_in t c i 6 → k ≡ kind_at (field t c i 11) → r ≡ field t c i 12 → Head.Create q k r ≡ head_in t c i
  unfolding heads
  head_9 q k r e h1 h2 h3 = (λ j. Head.Create (h1 j) (h2 j) (h3 j)) ∙ at_code 9 e

  -- code 10: CreateFrom
  pub head_10 : (p : Place) (q : Place) → n ≡ 10 → p ≡ place_in t c i 1 → q ≡ place_in t c i 6 → Head.CreateFrom p q ≡ head_in t c i
  unfolding heads
  head_10 p q e h1 h2 = (λ j. Head.CreateFrom (h1 j) (h2 j)) ∙ at_code 10 e

  -- code 11: ImmutableCapture
  pub head_11 : (p : Place) (q : Place) → n ≡ 11 → p ≡ place_in t c i 1 → q ≡ place_in t c i 6 → Head.ImmutableCapture p q ≡ head_in t c i
  unfolding heads
  head_11 p q e h1 h2 = (λ j. Head.ImmutableCapture (h1 j) (h2 j)) ∙ at_code 11 e

  -- code 13: CreateFunction
  pub head_13 : (f : ℕ) (q : Place) → n ≡ 13 → f ≡ field t c i 14 → q ≡ place_in t c i 6 → Head.CreateFunction f q ≡ head_in t c i
  unfolding heads
  head_13 f q e h1 h2 = (λ j. Head.CreateFunction (h1 j) (h2 j)) ∙ at_code 13 e

  -- code 14: MutateFrozen
  pub head_14 : (p : Place) (d : AliasingDiagnostic) → n ≡ 14 → p ≡ place_in t c i 1 → d ≡ diagnostic t c i → Head.MutateFrozen p d ≡ head_in t c i
  unfolding heads
  head_14 p d e h1 h2 = (λ j. Head.MutateFrozen (h1 j) (h2 j)) ∙ at_code 14 e

  -- code 15: MutateGlobal
  pub head_15 : (p : Place) (d : AliasingDiagnostic) → n ≡ 15 → p ≡ place_in t c i 1 → d ≡ diagnostic t c i → Head.MutateGlobal p d ≡ head_in t c i
  unfolding heads
  head_15 p d e h1 h2 = (λ j. Head.MutateGlobal (h1 j) (h2 j)) ∙ at_code 15 e

  -- code 16: Impure
  pub head_16 : (p : Place) (d : AliasingDiagnostic) → n ≡ 16 → p ≡ place_in t c i 1 → d ≡ diagnostic t c i → Head.Impure p d ≡ head_in t c i
  unfolding heads
  head_16 p d e h1 h2 = (λ j. Head.Impure (h1 j) (h2 j)) ∙ at_code 16 e

  -- any other code: Render
  -- it is 12, where a Render stands, or past the last code
  pub head_rest : (p : Place) → (n ≡ 0 → ⊥) → (n ≡ 1 → ⊥) → (n ≡ 2 → ⊥) → (n ≡ 3 → ⊥) → (n ≡ 4 → ⊥) → (n ≡ 5 → ⊥) → (n ≡ 6 → ⊥) → (n ≡ 7 → ⊥) → (n ≡ 8 → ⊥) → (n ≡ 9 → ⊥) → (n ≡ 10 → ⊥) → (n ≡ 11 → ⊥) → (n ≡ 13 → ⊥) → (n ≡ 14 → ⊥) → (n ≡ 15 → ⊥) → (n ≡ 16 → ⊥) → p ≡ place_in t c i 1 → Head.Render p ≡ head_in t c i
  unfolding head_in heads
  head_rest p n0 n1 n2 n3 n4 n5 n6 n7 n8 n9 n10 n11 n13 n14 n15 n16 e =
      ap Head.Render e
      ∙ ⊎_elim
      (λ l. at_code 12 (twelve n
      (next 11 n (next 10 n (next 9 n (next 8 n (next 7 n (next 6 n (next 5 n (next 4 n (next 3 n (next 2 n (next 1 n (next 0 n zero-le n0) n1) n2) n3) n4) n5) n6) n7) n8) n9) n10) n11)
      l n13 n14 n15 n16))
      (λ l. sym (get_or-eq_default (heads t c i) (Head.Render (place_in t c i 1)) {n = n} l)
      ∙ ap (λ (m : ℕ). get_or (heads t c i) m (Head.Render (place_in t c i 1))) h)
      (lower_or_not n 17)

-- ---- the code of a record's effect

module _ (t : Table) (c : List ℕ) (i n : ℕ) (h : n ≡ field t c i 0) where
  -- the code of the effect whose head stands at a place
  -- the place is the code's word
  abbrev code_at : ℕ → ℕ
  code_at m = code_of (effect_with (get_or (heads t c i) m (Head.Render (place_in t c i 1))) (counted_places t c i 17))

  -- the record's effect is that of its code's word
  code_at_is : code_at n ≡ code_of (effect_in t c i)
  unfolding effect_in head_in
  code_at_is = ap code_at h

  -- up to 17 each code but 12 is that of its effect
  code_test : T (all_below (λ m. eqb m 12 || eqb m (code_at m)) 18)
  unfolding effect_with heads
  code_test = tt

  -- the code is a word past the last
  pub code_past : 17 < n → 17 ≡ code_of (effect_in t c i)
  unfolding effect_with heads
  code_past l =
      sym (ap (λ (e : Head). code_of (effect_with e (counted_places t c i 17))) (get_or-eq_default (heads t c i) (Head.Render (place_in t c i 1)) {n = n} (let z : 17 ≤ n = omega arith in z)))
      ∙ code_at_is

  -- the code is that of an Apply
  pub code_apply : n ≡ 12 → 17 ≡ code_of (effect_in t c i)
  unfolding effect_with heads
  code_apply e = sym (ap code_at e) ∙ code_at_is

  -- any other code is that of its effect
  pub code_known : n ≤ 17 → (n ≡ 12 → ⊥) → n ≡ code_of (effect_in t c i)
  code_known l d = eqb→eq n (code_at n) (passed _ _ (ne_eqb n 12 d) (below_all (λ m. eqb m 12 || eqb m (code_at m)) 18 code_test n (let z : n < 18 = omega arith in z))) ∙ code_at_is
    where
      -- one of two tests passed, and not the first
      -- the code is not 12
      passed : (a b : Bool) → a ≡ false → T (a || b) → T b
      passed true b e p = absurd (let z : ◌≡◌ {A = ℕ} 0 1 = cc in omega arith)
      passed false b e p = p
