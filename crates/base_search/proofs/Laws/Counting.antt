-- As many places as there are numbers that pass a test, no two alike, each with one of them: then each of them has a place. Assumes nothing.
use Rattle.std.specs.Prelude.{ℕ, zero, suc, ◌+◌, ◌≤◌, ◌<◌, ◌≡◌, refl, Bool, true, false, not, ◌&&◌, ◌⊎◌, eqb}
use Rattle.std.proofs.Common.{arith, sym, ap, ap₂, ◌∙◌, inl, inr, ⊎_elim, eq-eqb, ne_eqb}
use Rattle.base_tests.specs.Tests.{ite}
use Rattle.base_tests.proofs.Laws.Order.{lt_or_ge, same_or_not}
use Rattle.base_search.specs.Counting.{how_many}
use Rattle.base_search.proofs.Laws.Ascending.{Place, Distinct}

-- of no numbers none passes
pub none_none : (p : ℕ → Bool) → how_many p 0 ≡ 0
unfolding how_many
none_none p = refl

-- tests that agree below m count the same
pub count_same : (p q : ℕ → Bool) (m : ℕ) → ((x : ℕ) → x < m → q x ≡ p x) → how_many q m ≡ how_many p m
unfolding how_many
count_same p q zero h = refl
count_same p q (suc m) h = ap₂ (λ (a : ℕ) (b : Bool). a + ite b 1 0) (count_same p q m (λ x l. h x (omega arith))) (h m (omega arith))

-- a number that passes is counted, one that does not is not
pub counts_one : (p : ℕ → Bool) (m : ℕ) → p m ≡ true → how_many p (suc m) ≡ suc (how_many p m)
unfolding how_many
counts_one p m e = ap (λ (b : Bool). how_many p m + ite b 1 0) e ∙ (let z : how_many p m + 1 ≡ suc (how_many p m) = omega arith in z)

pub counts_none : (p : ℕ → Bool) (m : ℕ) → p m ≡ false → how_many p (suc m) ≡ how_many p m
unfolding how_many
counts_none p m e = ap (λ (b : Bool). how_many p m + ite b 1 0) e ∙ (let z : how_many p m + 0 ≡ how_many p m = omega arith in z)

-- one more number, whatever it is
module _ (p : ℕ → Bool) (m : ℕ) where
  one_or_none : (how_many p (suc m) ≡ suc (how_many p m)) ⊎ (how_many p (suc m) ≡ how_many p m)
  one_or_none = go (p m) refl
    where
      go : (b : Bool) → p m ≡ b → (how_many p (suc m) ≡ suc (how_many p m)) ⊎ (how_many p (suc m) ≡ how_many p m)
      go true e = inl (counts_one p m e)
      go false e = inr (counts_none p m e)

-- where none from m on passes, those below m are all
pub count_all_is : (p : ℕ → Bool) (m n : ℕ) → m ≤ n → ((x : ℕ) → m ≤ x → x < n → p x ≡ false) → how_many p n ≡ how_many p m
count_all_is p m zero l h = ap (how_many p) (let z : 0 ≡ m = omega arith in z)
count_all_is p m (suc n) l h = ⊎_elim (below (count_all_is p m n)) (λ g. ap (how_many p) (let z : suc n ≡ m = omega arith in z)) (lt_or_ge m (suc n))
  where
    below : (m ≤ n → ((x : ℕ) → m ≤ x → x < n → p x ≡ false) → how_many p n ≡ how_many p m) → m < suc n → how_many p (suc n) ≡ how_many p m
    below again g = counts_none p n (h n (omega arith) (omega arith)) ∙ again (omega arith) (λ x a b. h x a (omega arith))

-- no more than there are
pub count_most : (p : ℕ → Bool) (m : ℕ) → how_many p m ≤ m
unfolding how_many
count_most p zero = omega arith
count_most p (suc m) = let x = count_most p m in ⊎_elim (λ e. omega arith) (λ e. omega arith) (one_or_none p m)

-- and fewer where one does not pass
pub count_fewer : (p : ℕ → Bool) (m v : ℕ) → v < m → p v ≡ false → how_many p m < m
count_fewer p zero v l e = absurd (let z : ⊥ = omega arith in z)
count_fewer p (suc m) v l e = ⊎_elim here (there (count_fewer p m v)) (same_or_not v m)
  where
    here : v ≡ m → how_many p (suc m) < suc m
    here q = let x = count_most p m in let y : how_many p (suc m) ≡ how_many p m = counts_none p m (ap p (sym q) ∙ e) in omega arith

    there : (v < m → p v ≡ false → how_many p m < m) → (v ≡ m → ⊥) → how_many p (suc m) < suc m
    there again q = let x : how_many p m < m = again (⊎_elim (λ a. a) (λ a. absurd (q (omega arith))) (lt_or_ge v m)) e in ⊎_elim (λ y. omega arith) (λ y. omega arith) (one_or_none p m)

-- ---- one number less

-- a test that x does not pass, and all else as before
abbrev pub Without : (p q : ℕ → Bool) → ℕ → Type 0
Without p q x = (q x ≡ false) × ((y : ℕ) → (y ≡ x → ⊥) → q y ≡ p y)

-- there are as many, and x
pub count_without : (p q : ℕ → Bool) (m x : ℕ) → x < m → p x ≡ true → Without p q x → how_many p m ≡ suc (how_many q m)
count_without p q zero x l e w = absurd (let z : ⊥ = omega arith in z)
count_without p q (suc m) x l e w = ⊎_elim here (there (count_without p q m x)) (same_or_not x m)
  where
    here : x ≡ m → how_many p (suc m) ≡ suc (how_many q (suc m))
    here r = counts_one p m (ap p (sym r) ∙ e) ∙ ap suc (sym (counts_none q m (ap q (sym r) ∙ w.0) ∙ count_same p q m (λ y h. w.1 y (λ z. omega arith))))

    there : (x < m → p x ≡ true → Without p q x → how_many p m ≡ suc (how_many q m)) → (x ≡ m → ⊥) → how_many p (suc m) ≡ suc (how_many q (suc m))
    there again r = go (p m) refl
      where
        less : how_many p m ≡ suc (how_many q m)
        less = again (⊎_elim (λ a. a) (λ a. absurd (r (omega arith))) (lt_or_ge x m)) e w

        at_m : q m ≡ p m
        at_m = w.1 m (λ z. r (sym z))

        go : (b : Bool) → p m ≡ b → how_many p (suc m) ≡ suc (how_many q (suc m))
        go true s = counts_one p m s ∙ ap suc (less ∙ sym (counts_one q m (at_m ∙ s)))
        go false s = counts_none p m s ∙ less ∙ ap suc (sym (counts_none q m (at_m ∙ s)))

-- the test itself
abbrev without : (ℕ → Bool) → ℕ → ℕ → Bool
without p x y = p y && not (eqb y x)

without_is : (p : ℕ → Bool) (x : ℕ) → Without p (without p x) x
without_is p x = (ap (λ (b : Bool). p x && not b) (eq-eqb x x refl) ∙ no (p x), λ y d. ap (λ (b : Bool). p y && not b) (ne_eqb y x d) ∙ yes (p y))
  where
    no : (b : Bool) → (b && not true) ≡ false
    no true = refl
    no false = refl

    yes : (b : Bool) → (b && not false) ≡ b
    yes true = refl
    yes false = refl

-- ---- as many places as numbers

-- a number that passes is one of at least one
at_least : (p : ℕ → Bool) (m r : ℕ) → r < m → p r ≡ true → 1 ≤ how_many p m
at_least p m r l e = let x = count_without p (without p r) m r l e (without_is p r) in omega arith

pub all_counted : (n : ℕ) (f : ℕ → ℕ) (p : ℕ → Bool) (m : ℕ) → ((j : ℕ) → j < n → f j < m) → ((j : ℕ) → j < n → p (f j) ≡ true) → Distinct f n → how_many p m ≡ n → (r : ℕ) → r < m → p r ≡ true → Place f n r
all_counted zero f p m inside passes distinct e r l q = absurd (let x = at_least p m r l q in let z : ⊥ = omega arith in z)
all_counted (suc n) f p m inside passes distinct e r l q = ⊎_elim last (λ d. other d (all_counted n f (without p (f n)) m)) (same_or_not r (f n))
  where
    last : r ≡ f n → Place f (suc n) r
    last s = (n, omega arith, sym s)

    rest : Without p (without p (f n)) (f n)
    rest = without_is p (f n)

    fewer : how_many (without p (f n)) m ≡ n
    fewer = let x = count_without p (without p (f n)) m (f n) (inside n (omega arith)) (passes n (omega arith)) rest in omega arith

    apart : (j : ℕ) → j < n → f j ≡ f n → ⊥
    apart j a s = let x = distinct j n (omega arith) (omega arith) s in omega arith

    other : (r ≡ f n → ⊥)
        → (((j : ℕ) → j < n → f j < m) → ((j : ℕ) → j < n → without p (f n) (f j) ≡ true) → Distinct f n → how_many (without p (f n)) m ≡ n → (r : ℕ) → r < m → without p (f n) r ≡ true → Place f n r)
        → Place f (suc n) r
    other d again =
        let x : Place f n r = again (λ j a. inside j (omega arith)) (λ j a. rest.1 (f j) (apart j a) ∙ passes j (omega arith)) (λ i j a b s. distinct i j (omega arith) (omega arith) s) fewer r l (rest.1 r d ∙ q) in
        (x.0, (let y = x.1 in omega arith), x.2)
