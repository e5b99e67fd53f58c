-- Laws of tests of all numbers below one, and of the members of a list. Assumes nothing.
use Rattle.std.specs.Prelude.{◌≡◌, refl, Bool, true, false, not, ◌⊎◌, List, [], ◌∷◌, ℕ, zero, suc, ◌<◌, T}
use Rattle.std.proofs.Common.{sym, ap, ◌∙◌, subst, ⊎_elim, not-suc-le-zero, le_refl, le_trans, le_of_suc-le-suc, eq-or-lt_of_le, arith}
use Rattle.std.proofs.Math.Nat.{le-suc}
use Rattle.base_tests.specs.Tests.{all_below, any_below, any_of, All}
use Rattle.base_tests.proofs.Laws.Bool.{never, or_neither, or_no_first, or_no_second}
use Rattle.base_tests.proofs.Laws.Order.{lt_or_ge}

-- one that passes is found
pub any_yes : (n : ℕ) (f : ℕ → Bool) (k : ℕ) → k < n → f k ≡ true → any_below n f ≡ true
unfolding any_below
any_yes zero f k h e = absurd (not-suc-le-zero h)
any_yes (suc n) f k h e = go (any_yes n f k) (f n) refl
  where
    go : (k < n → f k ≡ true → any_below n f ≡ true) → (b : Bool) → f n ≡ b → (elim b as (λ x. Bool) [ true ↦ true | false ↦ any_below n f ]) ≡ true
    go ih true q = refl
    go ih false q = ⊎_elim (λ l. ih l e) (λ l. let p : k ≡ n = omega arith in never (f n) (ap f (sym p) ∙ e) q) (lt_or_ge k n)

-- none is found where none passes
pub any_no : (n : ℕ) (f : ℕ → Bool) → ((k : ℕ) → k < n → f k ≡ false) → any_below n f ≡ false
unfolding any_below
any_no zero f h = refl
any_no (suc n) f h = ap (λ (b : Bool). elim b as (λ x. Bool) [ true ↦ true | false ↦ any_below n f ]) (h n (le_refl (suc n))) ∙ any_no n f (λ k l. h k (omega arith))

-- where none is found none passes
pub any_at : (n : ℕ) (f : ℕ → Bool) → any_below n f ≡ false → (k : ℕ) → k < n → f k ≡ false
any_at n f h k l = go (f k) refl
  where
    go : (b : Bool) → f k ≡ b → b ≡ false
    go true q = never (any_below n f) (any_yes n f k l q) h
    go false q = refl

pub list_no : (f : ℕ → Bool) (l : List ℕ) → All (λ (v : ℕ). f v ≡ false) l → any_of f l ≡ false
unfolding any_of
list_no f [] a = refl
list_no f (v ∷ l) a = or_neither (f v) (any_of f l) a.0 (list_no f l a.1)

pub list_all_is : (f : ℕ → Bool) (l : List ℕ) → any_of f l ≡ false → All (λ (v : ℕ). f v ≡ false) l
unfolding any_of
list_all_is f [] e = tt
list_all_is f (v ∷ l) e = (or_no_first (f v) (any_of f l) e, list_all_is f l (or_no_second (f v) (any_of f l) e))

pub all_at : (n : ℕ) (f : ℕ → Bool) → T (all_below n f) → (k : ℕ) → k < n → T (f k)
unfolding all_below
all_at zero f t k h = absurd (not-suc-le-zero h)
all_at (suc n) f t k h = ⊎_elim (λ e. subst (λ (j : ℕ). T (f j)) (sym e) (now (f n) t)) (λ l. all_at n f (later (f n) t) k l) (eq-or-lt_of_le (le_of_suc-le-suc h))
  where
    now : (b : Bool) → T (elim b as (λ x. Bool) [ true ↦ all_below n f | false ↦ false ]) → T b
    now true t = tt
    now false t = t

    later : (b : Bool) → T (elim b as (λ x. Bool) [ true ↦ all_below n f | false ↦ false ]) → T (all_below n f)
    later true t = t
    later false t = absurd t

pub all_from : (n : ℕ) (f : ℕ → Bool) → ((k : ℕ) → k < n → T (f k)) → T (all_below n f)
unfolding all_below
all_from zero f h = tt
all_from (suc n) f h = go (f n) (h n (le_refl (suc n))) (all_from n f (λ k l. h k (le_trans l (le-suc n))))
  where
    go : (b : Bool) → T b → T (all_below n f) → T (elim b as (λ x. Bool) [ true ↦ all_below n f | false ↦ false ])
    go true t u = u
    go false t u = t

-- some number passes exactly if not all fail
pub any_not_all : (n : ℕ) (f g : ℕ → Bool) → ((k : ℕ) → f k ≡ not (g k)) → any_below n f ≡ not (all_below n g)
unfolding any_below all_below
any_not_all zero f g h = refl
any_not_all (suc n) f g h = subst (λ (c : Bool). (elim c as (λ x. Bool) [ true ↦ true | false ↦ any_below n f ]) ≡ not (elim (g n) as (λ x. Bool) [ true ↦ all_below n g | false ↦ false ])) (sym (h n)) (go (any_not_all n f g h) (g n))
  where
    go : any_below n f ≡ not (all_below n g) → (b : Bool) → (elim (not b) as (λ x. Bool) [ true ↦ true | false ↦ any_below n f ]) ≡ not (elim b as (λ x. Bool) [ true ↦ all_below n g | false ↦ false ])
    go e true = e
    go e false = refl
