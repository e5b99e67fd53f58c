-- Comparisons of numbers and of lists are orders. Assumes nothing.
use Rattle.std.specs.Prelude.{ℕ, ◌<◌, ◌≡◌, refl, List, [], ◌∷◌, ◌⊎◌}
use Rattle.std.proofs.Common.{arith, sym, ap, ap₂, ◌∙◌, subst, inl, inr, ⊎_elim}
use Rattle.base_tests.proofs.Laws.Choice.{ite_lt, ite_ge}
use Rattle.base_tests.proofs.Laws.Order.{lt_or_ge}
use Rattle.std.specs.Ordering.{nat_cmp}
use Rattle.std.specs.Cmp.{nat_cmp_is}
use Rattle.std.specs.declared.cmp.Ordering.{Ordering}
use Rattle.std.specs.declared.cmp.Ordering.TheVariants.{Less, Equal, Greater}
use Rattle.base_search.specs.Comparings.{compare_numbers, first, compare_lists}

-- ---- numbers

pub less_is : (a b : ℕ) → a < b → compare_numbers a b ≡ Less
unfolding compare_numbers
less_is a b h = ite_lt a b _ _ h

pub more_is : (a b : ℕ) → b < a → compare_numbers a b ≡ Greater
unfolding compare_numbers
more_is a b h = ite_ge a b _ _ (omega arith) ∙ ite_lt b a _ _ h

pub same_is : (a : ℕ) → compare_numbers a a ≡ Equal
unfolding compare_numbers
same_is a = ite_ge a a _ _ (omega arith) ∙ ite_ge a a _ _ (omega arith)

-- which of the three it is
pub data Which (a b : ℕ) : Ordering → Type 0 where
  lower : a < b → Which a b Less
  equal : a ≡ b → Which a b Equal
  higher : b < a → Which a b Greater

pub which : (a b : ℕ) → Which a b (compare_numbers a b)
which a b = ⊎_elim
    (λ h. subst (Which a b) (sym (less_is a b h)) (lower h))
    (λ h. ⊎_elim
    (λ k. subst (Which a b) (sym (more_is a b k)) (higher k))
    (λ k. let e : a ≡ b = omega arith in subst (Which a b) (sym (ap (λ (x : ℕ). compare_numbers x b) e ∙ same_is b)) (equal e))
    (lt_or_ge b a))
    (lt_or_ge a b)

-- what an answer says
-- `cmp` of the code
pub numbers_compared : (a b : ℕ) → nat_cmp a b ≡ compare_numbers a b
numbers_compared a b = sym (go (compare_numbers a b) (which a b))
  where
    go : (o : Ordering) → Which a b o → o ≡ nat_cmp a b
    go Less (lower h) = nat_cmp_is a b Less h
    go Equal (equal h) = nat_cmp_is a b Equal h
    go Greater (higher h) = nat_cmp_is a b Greater h

pub is_less_is : (a b : ℕ) → compare_numbers a b ≡ Less → a < b
is_less_is a b e = go (compare_numbers a b) (which a b) e
  where
    go : (o : Ordering) → Which a b o → o ≡ Less → a < b
    go Less (lower h) f = h
    go Equal (equal h) f = absurd (let z : ◌≡◌ {A = ℕ} 0 1 = cc in let u : ⊥ = omega arith in u)
    go Greater (higher h) f = absurd (let z : ◌≡◌ {A = ℕ} 0 1 = cc in let u : ⊥ = omega arith in u)

pub is_same : (a b : ℕ) → compare_numbers a b ≡ Equal → a ≡ b
is_same a b e = go (compare_numbers a b) (which a b) e
  where
    go : (o : Ordering) → Which a b o → o ≡ Equal → a ≡ b
    go Less (lower h) f = absurd (let z : ◌≡◌ {A = ℕ} 0 1 = cc in let u : ⊥ = omega arith in u)
    go Equal (equal h) f = h
    go Greater (higher h) f = absurd (let z : ◌≡◌ {A = ℕ} 0 1 = cc in let u : ⊥ = omega arith in u)

pub is_more : (a b : ℕ) → compare_numbers a b ≡ Greater → b < a
is_more a b e = go (compare_numbers a b) (which a b) e
  where
    go : (o : Ordering) → Which a b o → o ≡ Greater → b < a
    go Less (lower h) f = absurd (let z : ◌≡◌ {A = ℕ} 0 1 = cc in let u : ⊥ = omega arith in u)
    go Equal (equal h) f = absurd (let z : ◌≡◌ {A = ℕ} 0 1 = cc in let u : ⊥ = omega arith in u)
    go Greater (higher h) f = h

pub numbers_less_more : (a b : ℕ) → compare_numbers a b ≡ Less → compare_numbers b a ≡ Greater
numbers_less_more a b e = more_is b a (is_less_is a b e)

pub numbers_turned : (a b : ℕ) → compare_numbers a b ≡ Equal → compare_numbers b a ≡ Equal
numbers_turned a b e = ap (λ (x : ℕ). compare_numbers b x) (is_same a b e) ∙ same_is b

-- ---- one after the other

-- what a first and a second can come to
first_less : (p q : Ordering) → first p q ≡ Less → (p ≡ Less) ⊎ ((p ≡ Equal) × (q ≡ Less))
first_less Less q e = inl refl
first_less Equal q e = inr (refl, e)
first_less Greater q e = absurd (let z : ◌≡◌ {A = ℕ} 0 1 = cc in let u : ⊥ = omega arith in u)

first_more : (p q : Ordering) → first p q ≡ Greater → (p ≡ Greater) ⊎ ((p ≡ Equal) × (q ≡ Greater))
first_more Less q e = absurd (let z : ◌≡◌ {A = ℕ} 0 1 = cc in let u : ⊥ = omega arith in u)
first_more Equal q e = inr (refl, e)
first_more Greater q e = inl refl

first_same : (p q : Ordering) → first p q ≡ Equal → (p ≡ Equal) × (q ≡ Equal)
first_same Less q e = absurd (let z : ◌≡◌ {A = ℕ} 0 1 = cc in let u : ⊥ = omega arith in u)
first_same Equal q e = (refl, e)
first_same Greater q e = absurd (let z : ◌≡◌ {A = ℕ} 0 1 = cc in let u : ⊥ = omega arith in u)

-- the same, put together again
join_less : (p q : Ordering) → p ≡ Less → first p q ≡ Less
join_less p q e = ap (λ (o : Ordering). first o q) e

join_more : (p q : Ordering) → p ≡ Greater → first p q ≡ Greater
join_more p q e = ap (λ (o : Ordering). first o q) e

join_same : (p q o : Ordering) → p ≡ Equal → q ≡ o → first p q ≡ o
join_same p q o e f = ap (λ (x : Ordering). first x q) e ∙ f

-- three in a row
pub first_assoc : (p q r : Ordering) → first (first p q) r ≡ first p (first q r)
first_assoc Less q r = refl
first_assoc Equal q r = refl
first_assoc Greater q r = refl

-- ---- lists

pub lists_same : (xs : List ℕ) → compare_lists xs xs ≡ Equal
unfolding compare_lists
lists_same [] = refl
lists_same (x ∷ xs) = join_same (compare_numbers x x) (compare_lists xs xs) Equal (same_is x) (lists_same xs)

pub lists_equal : (xs ys : List ℕ) → compare_lists xs ys ≡ Equal → xs ≡ ys
unfolding compare_lists
lists_equal [] [] e = refl
lists_equal [] (y ∷ ys) e = absurd (let z : ◌≡◌ {A = ℕ} 0 1 = cc in let u : ⊥ = omega arith in u)
lists_equal (x ∷ xs) [] e = absurd (let z : ◌≡◌ {A = ℕ} 0 1 = cc in let u : ⊥ = omega arith in u)
lists_equal (x ∷ xs) (y ∷ ys) e = let h = first_same (compare_numbers x y) (compare_lists xs ys) e in ap₂ (λ (z : ℕ) (zs : List ℕ). z ∷ zs) (is_same x y h.0) (lists_equal xs ys h.1)

pub lists_less_more : (xs ys : List ℕ) → compare_lists xs ys ≡ Less → compare_lists ys xs ≡ Greater
unfolding compare_lists
lists_less_more [] [] e = absurd (let z : ◌≡◌ {A = ℕ} 0 1 = cc in let u : ⊥ = omega arith in u)
lists_less_more [] (y ∷ ys) e = refl
lists_less_more (x ∷ xs) [] e = absurd (let z : ◌≡◌ {A = ℕ} 0 1 = cc in let u : ⊥ = omega arith in u)
lists_less_more (x ∷ xs) (y ∷ ys) e = ⊎_elim
    (λ h. join_more (compare_numbers y x) (compare_lists ys xs) (numbers_less_more x y h))
    (λ h. join_same (compare_numbers y x) (compare_lists ys xs) Greater (numbers_turned x y h.0) (lists_less_more xs ys h.1))
    (first_less (compare_numbers x y) (compare_lists xs ys) e)

pub lists_more_less : (xs ys : List ℕ) → compare_lists xs ys ≡ Greater → compare_lists ys xs ≡ Less
unfolding compare_lists
lists_more_less [] [] e = absurd (let z : ◌≡◌ {A = ℕ} 0 1 = cc in let u : ⊥ = omega arith in u)
lists_more_less [] (y ∷ ys) e = absurd (let z : ◌≡◌ {A = ℕ} 0 1 = cc in let u : ⊥ = omega arith in u)
lists_more_less (x ∷ xs) [] e = refl
lists_more_less (x ∷ xs) (y ∷ ys) e = ⊎_elim
    (λ h. join_less (compare_numbers y x) (compare_lists ys xs) (less_is y x (is_more x y h)))
    (λ h. join_same (compare_numbers y x) (compare_lists ys xs) Less (numbers_turned x y h.0) (lists_more_less xs ys h.1))
    (first_more (compare_numbers x y) (compare_lists xs ys) e)

pub lists_less_trans : (xs ys zs : List ℕ) → compare_lists xs ys ≡ Less → compare_lists ys zs ≡ Less → compare_lists xs zs ≡ Less
unfolding compare_lists
lists_less_trans [] [] zs e f = f
lists_less_trans [] (y ∷ ys) [] e f = absurd (let z : ◌≡◌ {A = ℕ} 0 1 = cc in let u : ⊥ = omega arith in u)
lists_less_trans [] (y ∷ ys) (z ∷ zs) e f = refl
lists_less_trans (x ∷ xs) [] zs e f = absurd (let z : ◌≡◌ {A = ℕ} 0 1 = cc in let u : ⊥ = omega arith in u)
lists_less_trans (x ∷ xs) (y ∷ ys) [] e f = absurd (let z : ◌≡◌ {A = ℕ} 0 1 = cc in let u : ⊥ = omega arith in u)
lists_less_trans (x ∷ xs) (y ∷ ys) (z ∷ zs) e f = ⊎_elim
    (λ h. ⊎_elim
    (λ k. join_less (compare_numbers x z) (compare_lists xs zs) (less_is x z (let a = is_less_is x y h in let b = is_less_is y z k in omega arith)))
    (λ k. join_less (compare_numbers x z) (compare_lists xs zs) (less_is x z (let a = is_less_is x y h in let b = is_same y z k.0 in omega arith)))
    (first_less (compare_numbers y z) (compare_lists ys zs) f))
    (λ h. ⊎_elim
    (λ k. join_less (compare_numbers x z) (compare_lists xs zs) (less_is x z (let a = is_same x y h.0 in let b = is_less_is y z k in omega arith)))
    (λ k. join_same (compare_numbers x z) (compare_lists xs zs) Less (ap (λ (u : ℕ). compare_numbers u z) (is_same x y h.0) ∙ k.0) (lists_less_trans xs ys zs h.1 k.1))
    (first_less (compare_numbers y z) (compare_lists ys zs) f))
    (first_less (compare_numbers x y) (compare_lists xs ys) e)
