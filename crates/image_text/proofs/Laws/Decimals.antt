-- The digits of a number: one digit, or those of its tenth and one more. Assumes nothing.
use Rattle.std.specs.Prelude.{ℕ, zero, suc, ◌/◌, ◌%◌, ◌≤◌, ◌<◌, ◌≡◌, refl, List, [], ◌∷◌, ◌++◌}
use Rattle.std.proofs.Common.{arith, sym, ap, ◌∙◌, ⊎_elim, lt-ltb, le-ltb}
use Rattle.base_tests.proofs.Laws.Order.{lt_or_ge}
use Rattle.def_image.specs.Listing.{digit, decimal_before, decimal}

-- the digits of n in front of others, below ten
before_small : (f n : ℕ) (l : List ℕ) → n < 10 → decimal_before (suc f) n l ≡ digit n ∷ l
unfolding decimal_before
before_small f n l h = rw (decimal_before, lt-ltb n 10 h)

-- from ten on
before_large : (f n : ℕ) (l : List ℕ) → 10 ≤ n → decimal_before (suc f) n l ≡ decimal_before f (n / 10) (digit (n % 10) ∷ l)
unfolding decimal_before
before_large f n l h = rw (decimal_before, le-ltb n 10 h)

-- digits in front of others are the digits, then the others
before_append : (f n : ℕ) (l m : List ℕ) → decimal_before f n (l ++ m) ≡ decimal_before f n l ++ m
unfolding decimal_before
before_append zero n l m = refl
before_append (suc f) n l m =
    ⊎_elim (λ h. before_small f n (l ++ m) h ∙ sym (ap (λ (k : List ℕ). k ++ m) (before_small f n l h)))
    (λ h. before_large f n (l ++ m) h ∙ before_append f (n / 10) (digit (n % 10) ∷ l) m ∙ sym (ap (λ (k : List ℕ). k ++ m) (before_large f n l h)))
    (lt_or_ge n 10)

-- more fuel changes nothing
before_fuel : (f g n : ℕ) (l : List ℕ) → n < f → n < g → decimal_before f n l ≡ decimal_before g n l
before_fuel zero g n l p q = absurd (omega arith)
before_fuel (suc f) zero n l p q = absurd (omega arith)
before_fuel (suc f) (suc g) n l p q =
    ⊎_elim (λ h. before_small f n l h ∙ sym (before_small g n l h))
    (λ h. before_large f n l h ∙ before_fuel f g (n / 10) (digit (n % 10) ∷ l) (omega arith) (omega arith) ∙ sym (before_large g n l h))
    (lt_or_ge n 10)

-- one digit
-- one way through `put_decimal`
pub decimal_small : (n : ℕ) → n < 10 → decimal n ≡ digit n ∷ []
unfolding decimal
decimal_small n h = before_small n n [] h

-- the digits of the tenth, and the last one
pub decimal_large : (n : ℕ) → 10 ≤ n → decimal n ≡ decimal (n / 10) ++ (digit (n % 10) ∷ [])
unfolding decimal
decimal_large n h =
    before_large n n [] h
    ∙ before_append n (n / 10) [] (digit (n % 10) ∷ [])
    ∙ ap (λ (l : List ℕ). l ++ (digit (n % 10) ∷ [])) (before_fuel n (suc (n / 10)) (n / 10) [] (omega arith) (omega arith))
