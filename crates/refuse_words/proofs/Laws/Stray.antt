-- Laws by which the loop over words without use meets its definition: they are gathered bit by bit. Assumes nothing.
use Rattle.std.specs.Prelude.{ℕ, zero, suc, ◌+◌, ◌-◌, ◌*◌, ◌≤◌, ◌<◌, ◌≡◌, Bool, not, List, eqb, ltb, get_or, length, None}
use Rattle.std.proofs.Math.Path.{refl, sym, ap}
use Rattle.std.proofs.Common.{ap₂, ◌∙◌, ⊎_elim, le_refl, zero-mul, mul-le-mul, eq-eqb, ne_eqb}
use native.Mathlib.Omega.{arith}
use Rattle.std.specs.Int.Bits.{bit_or, bit_and, or_add_and, or_zero_l}
use Rattle.std.proofs.lemmas.Nat.{and_le_l, and_le_r}
use Rattle.std.proofs.Math.ListN.{get_or-eq_default}
use Rattle.base_tests.proofs.Laws.Order.{lt_or_ge, same_or_not}
use Rattle.base_tests.specs.Tests.{ite}
use Rattle.base_tests.proofs.Laws.Choice.{ite_lt, ite_ge}
use Rattle.lent_tables.specs.declared.Table.{Table}
use Rattle.lent_tables.specs.Words.{index}
use Rattle.refuse_class.specs.Class.{lower}
use Rattle.refuse_class.proofs.Laws.Class.{lower_none, lower_alone}
use Rattle.refuse_words.specs.Classes.{lowest_below, earns, word_class, stray_from, lent_from, stray_after}
use Rattle.refuse_words.proofs.Laws.Class.{word_zero, lowest_none, lowest_more}

-- ---- the lowest class

-- tests that earn nothing may be left out at the end
pub lowest_rest : (f : ℕ → ℕ) (m n : ℕ) → m ≤ n → ((k : ℕ) → m ≤ k → k < n → f k ≡ 0) → lowest_below m f ≡ lowest_below n f
unfolding lowest_below
lowest_rest f m zero l h = let e : m ≡ 0 = omega arith in ap (λ (x : ℕ). lowest_below x f) e
lowest_rest f m (suc n) l h =
    ⊎_elim
    (λ p. lowest_rest f m n (omega arith) (λ k a b. h k a (omega arith)) ∙ kept (lowest_below n f) (f n) (h n (omega arith) (le_refl (suc n))))
    (λ p. let e : m ≡ suc n = omega arith in ap (λ (x : ℕ). lowest_below x f) e)
    (lt_or_ge m (suc n))
  where
    -- the lower of a class and none
    kept : (a b : ℕ) → b ≡ 0 → a ≡ lower a b
    kept a b z = ⊎_elim (λ e. e ∙ sym z ∙ lower_none a b e) (λ n. lower_alone a b n z) (same_or_not a 0)

-- ---- bits

-- numbers of which one and the other have no bit
zeros : (x y a b : ℕ) → x + y ≡ a + b → y ≤ a → y ≤ b → x ≡ 0 → a ≡ 0
zeros x y a b e p q z = omega arith

-- a number with a bit keeps it
or_some : (a b : ℕ) → (a ≡ 0 → ⊥) → bit_or a b ≡ 0 → ⊥
or_some a b n e = n (zeros (bit_or a b) (bit_and a b) a b (or_add_and a b) (and_le_l a b) (and_le_r a b) e)

-- 4 where a number has a bit
abbrev pub bit_class : ℕ → ℕ
bit_class x = earns 4 (not (eqb x 0))

-- it is 0 of 0
pub bit_none : (x : ℕ) → x ≡ 0 → 0 ≡ bit_class x
bit_none x e = sym (ap (λ (b : Bool). earns 4 (not b)) (eq-eqb x 0 e))

-- and 4 of any other
pub bit_some : (x : ℕ) → (x ≡ 0 → ⊥) → 4 ≡ bit_class x
bit_some x n = sym (ap (λ (b : Bool). earns 4 (not b)) (ne_eqb x 0 n))

-- the lower of 4 and none
four_none : lower 4 0 ≡ 4
unfolding lower
four_none = refl

-- the lower of 4 and 4
four_both : lower 4 4 ≡ 4
unfolding lower
four_both = refl

-- the class of two words is that of their bits together
gathered : (a x : ℕ) → lower (bit_class a) (bit_class x) ≡ bit_class (bit_or a x)
gathered a x =
    ⊎_elim
    (λ e. sym (lower_none (bit_class a) (bit_class x) (sym (bit_none a e))) ∙ ap bit_class (sym (or_zero_l x)) ∙ ap (λ (y : ℕ). bit_class (bit_or y x)) (sym e))
    (λ n.
    ap (λ (y : ℕ). lower y (bit_class x)) (sym (bit_some a n))
    ∙ ⊎_elim (λ e. ap (lower 4) (sym (bit_none x e)) ∙ four_none) (λ k. ap (lower 4) (sym (bit_some x k)) ∙ four_both) (same_or_not x 0)
    ∙ bit_some (bit_or a x) (or_some a x n))
    (same_or_not a 0)

-- ---- stray words

module _ (c : List ℕ) (from n : ℕ) where
  -- nothing stands past the end
  -- the first way of `lent_from`
  pub lent_none : length c ≤ from → 0 ≡ lent_from c from n
  unfolding lent_from
  lent_none h = sym (ite_ge from (length c) (ite (ltb n (length c - from)) n (length c - from)) 0 h)

  -- all n stand in the list
  pub lent_all : from < length c → n < length c - from → n ≡ lent_from c from n
  unfolding lent_from
  lent_all h k = sym (ite_lt from (length c) (ite (ltb n (length c - from)) n (length c - from)) 0 h ∙ ite_lt n (length c - from) n (length c - from) k)

  -- the list ends before
  pub lent_some : from < length c → length c - from ≤ n → length c - from ≡ lent_from c from n
  unfolding lent_from
  lent_some h k = sym (ite_lt from (length c) (ite (ltb n (length c - from)) n (length c - from)) 0 h ∙ ite_ge n (length c - from) n (length c - from) k)

  -- what is counted stands in the list, and is one of n
  pub lent_in : (m k : ℕ) → m ≡ lent_from c from n → k < m → (from + k < length c) × (k < n)
  lent_in m k e l =
      ⊎_elim
      (λ h.
      ⊎_elim
      (λ p. let q : n ≡ lent_from c from n = lent_all h p in (omega arith, omega arith))
      (λ p. let q : length c - from ≡ lent_from c from n = lent_some h p in (omega arith, omega arith))
      (lt_or_ge n (length c - from)))
      (λ h. let q : 0 ≡ lent_from c from n = lent_none h in absurd (omega arith))
      (lt_or_ge from (length c))

  -- one of n that is not counted stands past the end
  pub lent_past : (k : ℕ) → k < n → lent_from c from n ≤ k → length c ≤ from + k
  lent_past k l g =
      ⊎_elim
      (λ h.
      ⊎_elim
      (λ p. let q : n ≡ lent_from c from n = lent_all h p in absurd (omega arith))
      (λ p. let q : length c - from ≡ lent_from c from n = lent_some h p in omega arith)
      (lt_or_ge n (length c - from)))
      (λ h. omega arith)
      (lt_or_ge from (length c))

  -- no more are counted than there are to count
  lent_le : lent_from c from n ≤ n
  lent_le = ⊎_elim (λ l. let h = lent_in (lent_from c from n) n refl l in absurd (omega (arith, h.1))) (λ l. l) (lt_or_ge n (lent_from c from n))

  -- no word is gathered yet
  pub stray_start : bit_class 0 ≡ stray_from c from 0
  unfolding stray_from
  stray_start = lowest_none (λ j. word_class None (get_or c (from + j) 0))

  -- a word more
  pub stray_more : (k a x : ℕ) → bit_class a ≡ stray_from c from k → x ≡ get_or c (from + k) 0 → bit_class (bit_or a x) ≡ stray_from c from (k + 1)
  unfolding stray_from word_class
  stray_more k a x h e =
      lowest_more (λ j. word_class None (get_or c (from + j) 0)) k (bit_class a) (bit_class x) (bit_class (bit_or a x)) h (ap bit_class e) (sym (gathered a x))

  -- all that stand in the list
  -- where the loop ends: the others are zero
  pub stray_end : (m k a : ℕ) → m ≡ lent_from c from n → k ≤ m → m ≤ k → bit_class a ≡ stray_from c from k → bit_class a ≡ stray_from c from n
  unfolding stray_from
  stray_end m k a e p q h =
      let g : k ≡ lent_from c from n = omega arith in
      h ∙ ap (λ (x : ℕ). lowest_below x (λ j. word_class None (get_or c (from + j) 0))) g
      ∙ lowest_rest (λ j. word_class None (get_or c (from + j) 0)) (lent_from c from n) n lent_le
      (λ j r l. sym (word_zero (get_or c (from + j) 0) (get_or-eq_default c 0 (lent_past j l r))))

-- the number of words that are left fits 64 bits
pub left_fits : (n m v : ℕ) → m < 4294967296 → v < 4294967296 → (m - n) * v ≤ 18446744065119617025
left_fits n m v h k =
    let x : m - n ≤ 4294967295 = omega arith in
    let y : v ≤ 4294967295 = omega arith in
    let q : (m - n) * v ≤ 4294967295 * 4294967295 = mul-le-mul x y in
    omega arith

-- a table has no more records
-- the first way of `stray_after`
pub after_none : (t : Table) (c : List ℕ) (n m : ℕ) → m ≡ t.count → m ≤ n → 0 ≡ stray_after t c n
unfolding stray_after stray_from
after_none t c n m e h =
    let z : t.count - n ≡ 0 = omega arith in
    let y : 0 ≡ (t.count - n) * t.width = sym (ap (λ (x : ℕ). x * t.width) z ∙ zero-mul t.width) in
    lowest_none (λ k. word_class None (get_or c (index t n 0 + k) 0)) ∙ ap (λ (x : ℕ). lowest_below x (λ k. word_class None (get_or c (index t n 0 + k) 0))) y

-- the words of the records that are left
pub after_some : (t : Table) (c : List ℕ) (n b w v m r : ℕ) → b ≡ t.base → w ≡ t.width → m ≡ t.count → v ≡ t.width → r ≡ stray_from c (b + n * w) ((m - n) * v) → r ≡ stray_after t c n
unfolding stray_after index
after_some t c n b w v m r p q s u h =
    let z : t.base + n * t.width ≡ t.base + n * t.width + 0 = omega arith in
    h ∙ ap₂ (λ (x y : ℕ). stray_from c (x + n * y) ((m - n) * v)) p q ∙ ap₂ (λ (x y : ℕ). stray_from c (t.base + n * t.width) ((x - n) * y)) s u
    ∙ ap (λ (x : ℕ). stray_from c x ((t.count - n) * t.width)) z
