-- Laws of classes: the ways through the code of a word, a limit and stray words, and how a loop comes to the lowest class. Assumes nothing.
use Prim.Native.Nat.{ℕ, zero, suc, ◌+◌, ◌/◌, ◌%◌, ◌≤◌, ◌<◌}
use Rattle.std.specs.Prelude.{◌≡◌, refl, Bool, true, false, Option, None, Some}
use Rattle.std.proofs.Math.Path.{sym, ap, ap₂}
use Rattle.std.proofs.Common.{◌∙◌, eq-or-lt_of_le, add-one}
use Rattle.std.proofs.Math.Logic.{⊎_elim}
use native.Mathlib.Omega.{arith}
use Rattle.base_tests.proofs.Laws.Choice.{ite_lt, ite_ge}
use Rattle.refuse_class.specs.Class.{lower}
use Rattle.refuse_class.proofs.Laws.Class.{lower_0}
use Rattle.refuse_words.specs.Classes.{lowest_below, earns, word_class, place_limit, run_limit}

-- ---- a word and its limit

module _ (x : ℕ) where
  -- an unused word that is zero
  pub word_zero : x ≡ 0 → 0 ≡ word_class None x
  unfolding word_class
  word_zero z = sym (ap (word_class None) z)

-- ---- places

module _ (n w : ℕ) where
  -- the identifier
  pub place_identifier_is : w ≡ 0 → Some n ≡ place_limit n w
  unfolding place_limit
  place_identifier_is e = sym (ap (place_limit n) e)

  -- the effect
  pub place_effect_is : w ≡ 1 → Some 8 ≡ place_limit n w
  unfolding place_limit
  place_effect_is e = sym (ap (place_limit n) e)

  -- reactive
  -- 0 or 1
  pub place_reactive_is : w ≡ 2 → Some 2 ≡ place_limit n w
  unfolding place_limit
  place_reactive_is e = sym (ap (place_limit n) e)

-- a word of a place that is used
pub run_used : (i n w m : ℕ) (o : Option ℕ) → m ≡ n → w / 5 < m → o ≡ place_limit i (w % 5) → o ≡ run_limit i n w
unfolding run_limit
run_used i n w m o e h q =
    let k : w / 5 < n = omega arith in
    q ∙ sym (ite_lt (w / 5) n (place_limit i (w % 5)) None k)

-- a word of a place that is not
pub run_past : (i n w m : ℕ) → m ≡ n → m ≤ w / 5 → None ≡ run_limit i n w
unfolding run_limit
run_past i n w m e h =
    let k : n ≤ w / 5 = omega arith in
    sym (ite_ge (w / 5) n (place_limit i (w % 5)) None k)

-- ---- the lowest class

-- no test, no class
pub lowest_none : (f : ℕ → ℕ) → 0 ≡ lowest_below 0 f
unfolding lowest_below
lowest_none f = refl

-- a test more
pub lowest_more : (f : ℕ → ℕ) (k w x r : ℕ) → w ≡ lowest_below k f → x ≡ f k → r ≡ lower w x → r ≡ lowest_below (k + 1) f
unfolding lowest_below
lowest_more f k w x r p q h = h ∙ ap₂ lower p q ∙ sym (ap (λ (n : ℕ). lowest_below n f) (add-one k))

-- all tests
pub lowest_end : (f : ℕ → ℕ) (n k w : ℕ) → k ≤ n → n ≤ k → w ≡ lowest_below k f → w ≡ lowest_below n f
lowest_end f n k w a b h =
    let e : k ≡ n = omega arith in
    h ∙ ap (λ (m : ℕ). lowest_below m f) e

-- ---- no class at all

-- a test that earns no class did not hold
-- 0 is no class
pub earns_none : (n : ℕ) (b : Bool) → earns (suc n) b ≡ 0 → b ≡ false
earns_none n true e = absurd (let z : ⊥ = omega arith in z)
earns_none n false e = refl

-- the lowest of some classes is none only if each is
pub lowest_0 : (n : ℕ) (f : ℕ → ℕ) → lowest_below n f ≡ 0 → (k : ℕ) → k < n → f k ≡ 0
unfolding lowest_below
lowest_0 zero f e k l = absurd (let z : ⊥ = omega arith in z)
lowest_0 (suc n) f e k l =
    let a = lower_0 (lowest_below n f) (f n) e in
    ⊎_elim (λ z. ap f z ∙ a.1) (λ z. lowest_0 n f a.0 k z) (eq-or-lt_of_le (let y : k ≤ n = omega arith in y))
