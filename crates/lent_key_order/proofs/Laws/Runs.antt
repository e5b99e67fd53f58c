-- Laws by which a loop over two runs of numbers meets their comparison. Assumes nothing.
use Prim.Native.Nat.{ℕ, zero, suc, ◌+◌, ◌*◌, ◌-◌, ◌≤◌, ◌<◌}
use Rattle.std.proofs.Common.{arith, ◌∙◌, mul-le-mul_left, ⊎_elim}
use Rattle.std.specs.Prelude.{◌≡◌, refl, true, false, [], ◌∷◌}
use Rattle.std.proofs.Math.Path.{sym, ap, ap₂}
use Rattle.std.proofs.lemmas.Bool.{false≢true}
use Rattle.std.specs.Ordering.{is_ne}
use Rattle.std.specs.declared.cmp.Ordering.{Ordering}
use Rattle.std.specs.declared.cmp.Ordering.TheVariants.{Less, Equal, Greater}
use Rattle.base_search.specs.Comparings.{compare_numbers, first, compare_lists}
use Rattle.lent_tables.specs.Words.{field}
use Rattle.lent_tables.proofs.Laws.Word.{field_out, within_no_word}
use Rattle.base_tests.proofs.Laws.Order.{lt_or_ge}
use Rattle.base_search.proofs.Laws.Comparings.{less_is, more_is, same_is}
use Rattle.lent_key_order.specs.Runs.{Past}
use Rattle.lent_key_order.proofs.Laws.Heads.{both_suc}
use Rattle.lent_keys.specs.declared.Numbers.{Numbers}
use Rattle.lent_keys.specs.KeyRecords.{numbers_in, listed}
use Rattle.lent_keys.proofs.Laws.Number.{listed_from, numbers_more, numbers_none, numbers_all}

-- ---- numbers

-- what stands s words apart stands no nearer than one
spread : (k s : ℕ) → 1 ≤ s → k ≤ k * s
spread k s h = let z : k * 1 ≤ k * s = mul-le-mul_left k h in omega arith

-- two numbers less the same
shifted : (n m k : ℕ) → k ≤ n → k ≤ m → compare_numbers n m ≡ compare_numbers (n - k) (m - k)
shifted n m k a b = ⊎_elim
    (λ h. less_is n m h ∙ sym (less_is (n - k) (m - k) (omega arith)))
    (λ h. ⊎_elim
    (λ g. more_is n m g ∙ sym (more_is (n - k) (m - k) (omega arith)))
    (λ g. let e : n ≡ m = omega arith in ap (λ (x : ℕ). compare_numbers x m) e ∙ same_is m ∙ sym (ap (λ (x : ℕ). compare_numbers (x - k) (m - k)) e ∙ same_is (m - k)))
    (lt_or_ge m n))
    (lt_or_ge n m)

-- ---- two runs

-- number k of a run
abbrev pub number_of : Numbers → ℕ → ℕ
number_of r k = field r.table r.words.now r.row (r.first + k * r.step)

-- past its record every number of a run is 0
zero_number : (r : Numbers) (k : ℕ) → Past r.table r.step k → number_of r k ≡ 0
zero_number r k p =
    field_out r.table r.words.now r.row (r.first + k * r.step)
    (within_no_word r.table r.row (r.first + k * r.step) (let x = p.1 in let y = spread k r.step p.0 in omega arith))

module _ (a b : Numbers) where
  -- what is left to compare, from number k on
  abbrev pub left : ℕ → Ordering
  left k = compare_lists (listed_from a k) (listed_from b k)

  pub left_all : compare_lists (listed a) (listed b) ≡ left 0
  left_all = sym (ap₂ compare_lists (numbers_all a.table a.words.now a.row a.first a.step a.count) (numbers_all b.table b.words.now b.row b.first b.step b.count))

  -- a run that is not done, one that is
  more : (r : Numbers) (k : ℕ) → k < r.count → listed_from r k ≡ number_of r k ∷ listed_from r (k + 1)
  more r k l = numbers_more r.table r.words.now r.row r.first r.step k r.count l

  none : (r : Numbers) (k : ℕ) → r.count ≤ k → listed_from r k ≡ []
  none r k l = numbers_none r.table r.words.now r.row r.first r.step k r.count l

  module _ (k : ℕ) (l : k < a.count) where
    -- the second run is done
    pub second_done : b.count ≤ k → Greater ≡ left k
    unfolding compare_lists
    second_done h = sym (ap₂ compare_lists (more a k l) (none b k h))

    module _ (h : k < b.count) (x y : ℕ) (ex : x ≡ number_of a k) (ey : y ≡ number_of b k) (o : Ordering) (eo : o ≡ compare_numbers x y) where
      one : left k ≡ first o (left (k + 1))
      unfolding compare_lists
      one = ap₂ compare_lists (more a k l) (more b k h) ∙ ap (λ (z : Ordering). first z (left (k + 1))) (ap₂ compare_numbers (sym ex) (sym ey) ∙ sym eo)

      pub one_differs : is_ne o ≡ true → o ≡ left k
      one_differs p = sym (one ∙ decides o p)
        where
          decides : (q : Ordering) → is_ne q ≡ true → first q (left (k + 1)) ≡ q
          decides Less e = refl
          decides Equal e = absurd (false≢true e)
          decides Greater e = refl

      pub one_same : is_ne o ≡ false → left k ≡ left (k + 1)
      one_same p = one ∙ goes_on o p
        where
          goes_on : (q : Ordering) → is_ne q ≡ false → first q (left (k + 1)) ≡ left (k + 1)
          goes_on Less e = absurd (false≢true (sym e))
          goes_on Equal e = refl
          goes_on Greater e = absurd (false≢true (sym e))

  -- past both records the counts of what is left decide
  zeros_left : (n m k : ℕ) → Past a.table a.step k → Past b.table b.step k
      → compare_lists (numbers_in a.table a.words.now a.row a.first a.step k n) (numbers_in b.table b.words.now b.row b.first b.step k m) ≡ compare_numbers n m
  unfolding compare_lists numbers_in
  zeros_left zero zero k p q = sym (same_is 0)
  zeros_left zero (suc m) k p q = sym (less_is 0 (suc m) (omega arith))
  zeros_left (suc n) zero k p q = sym (more_is (suc n) 0 (omega arith))
  zeros_left (suc n) (suc m) k p q =
      ap (λ (o : Ordering). first o (compare_lists (numbers_in a.table a.words.now a.row a.first a.step (suc k) n) (numbers_in b.table b.words.now b.row b.first b.step (suc k) m)))
      (ap₂ compare_numbers (zero_number a k p) (zero_number b k q) ∙ same_is 0)
      ∙ zeros_left n m (suc k) (p.0, (let x = p.1 in omega arith)) (q.0, (let x = q.1 in omega arith)) ∙ sym (both_suc n m)

  -- the counts themselves, where both have come as far
  pub past_both : (k : ℕ) (o : Ordering) → k < a.count → k < b.count → Past a.table a.step k → Past b.table b.step k → o ≡ compare_numbers a.count b.count → o ≡ left k
  past_both k o l h p q e = e ∙ shifted a.count b.count k (omega arith) (omega arith) ∙ sym (zeros_left (a.count - k) (b.count - k) k p q)

  -- the first run is done, and the second was not before
  -- the counts say whether it is now
  pub first_ends : (k : ℕ) (o : Ordering) → a.count ≤ k → k ≤ a.count → k ≤ b.count → o ≡ compare_numbers a.count b.count → o ≡ left k
  unfolding compare_lists
  first_ends k o h m l e = e ∙ ⊎_elim
      (λ g. less_is a.count b.count g ∙ sym (ap₂ compare_lists (none a k h) (more b k (omega arith))))
      (λ g. let q : b.count ≡ a.count = omega arith in ap (compare_numbers a.count) q ∙ same_is a.count ∙ sym (ap₂ compare_lists (none a k h) (none b k (omega arith))))
      (lt_or_ge a.count b.count)
