-- Runs of numbers in a record. Assumes nothing.
use Prim.Native.Nat.{ℕ, zero, suc, ◌+◌, ◌-◌, ◌*◌, ◌≤◌, ◌<◌}
use Rattle.std.specs.Prelude.{◌≡◌, List, [], ◌∷◌, length}
use Rattle.std.proofs.Math.Path.{refl, ap}
use Rattle.std.proofs.Common.{ap₂, ◌∙◌, mul-le-mul}
use native.Mathlib.Omega.{arith}
use Rattle.def_effects.specs.Places.{identifiers}
use Rattle.lent_tables.specs.declared.Table.{Table}
use Rattle.lent_tables.specs.Words.{field, place_in, places_in}
use Rattle.lent_keys.specs.declared.Numbers.{Numbers}
use Rattle.lent_keys.specs.KeyRecords.{numbers_in}

-- ---- runs of numbers

-- where a number of a run stands fits 64 bits
pub number_fits : (w k s : ℕ) → w < 4294967296 → k < 4294967296 → s < 4294967296 → w + k * s < 18446744073709551616
number_fits w k s h m n =
    let x : k ≤ 4294967295 = omega arith in
    let y : s ≤ 4294967295 = omega arith in
    let q : k * s ≤ 4294967295 * 4294967295 = mul-le-mul x y in
    omega arith

module _ (t : Table) (c : List ℕ) (i w s : ℕ) where
  -- a run that is not done begins with its number k
  pub numbers_more : (k n : ℕ) → k < n → numbers_in t c i w s k (n - k) ≡ field t c i (w + k * s) ∷ numbers_in t c i w s (k + 1) (n - (k + 1))
  unfolding numbers_in
  numbers_more k n h =
      let p : n - k ≡ suc (n - (k + 1)) = omega arith in
      let q : suc k ≡ k + 1 = omega arith in
      ap (λ (m : ℕ). numbers_in t c i w s k m) p
      ∙ ap (λ (m : ℕ). field t c i (w + k * s) ∷ numbers_in t c i w s m (n - (k + 1))) q

  -- a run that is done has no number left
  pub numbers_none : (k n : ℕ) → n ≤ k → numbers_in t c i w s k (n - k) ≡ []
  unfolding numbers_in
  numbers_none k n h =
      let p : n - k ≡ 0 = omega arith in
      ap (λ (m : ℕ). numbers_in t c i w s k m) p

  -- a run begins with all its numbers
  pub numbers_all : (n : ℕ) → numbers_in t c i w s 0 (n - 0) ≡ numbers_in t c i w s 0 n
  numbers_all n =
      let p : n - 0 ≡ n = omega arith in
      ap (λ (m : ℕ). numbers_in t c i w s 0 m) p

  -- a run is as long as was asked for
  pub numbers_count : (k n : ℕ) → length (numbers_in t c i w s k n) ≡ n
  unfolding numbers_in
  numbers_count k zero = refl
  numbers_count k (suc n) = ap suc (numbers_count (suc k) n)

-- what a run has from its number k on
abbrev pub listed_from : Numbers → ℕ → List ℕ
listed_from r k = numbers_in r.table r.words.now r.row r.first r.step k (r.count - k)

-- a run of none
pub none_listed : (t : Table) (c : List ℕ) (i w s : ℕ) → numbers_in t c i w s 0 0 ≡ []
unfolding numbers_in
none_listed t c i w s = refl

-- the identifiers of a run of places are a run of numbers
pub places_numbers : (t : Table) (c : List ℕ) (i w k n : ℕ) → identifiers (places_in t c i w k n) ≡ numbers_in t c i w 5 k n
unfolding places_in place_in numbers_in
places_numbers t c i w k zero = refl
places_numbers t c i w k (suc n) = ap (λ (l : List ℕ). field t c i (w + k * 5) ∷ l) (places_numbers t c i w (suc k) n)

-- runs with the same words are the same
pub numbers_cong : (t : Table) (c d : List ℕ) (i w s k n : ℕ) → ((v : ℕ) → field t d i v ≡ field t c i v) → numbers_in t d i w s k n ≡ numbers_in t c i w s k n
unfolding numbers_in
numbers_cong t c d i w s k zero h = refl
numbers_cong t c d i w s k (suc n) h = ap₂ (λ (x : ℕ) (l : List ℕ). x ∷ l) (h (w + k * s)) (numbers_cong t c d i w s (suc k) n h)
