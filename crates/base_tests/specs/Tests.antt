-- A choice by a test; tests of all numbers below one, and of the members of a list. Assumes nothing: these are definitions.
use Rattle.std.specs.Prelude.{Bool, true, false, ◌||◌, ℕ, zero, suc, List, [], ◌∷◌, Option, None, Some}

-- a where the test holds, else b
-- a definition branches by it where the code has an `if`
abbrev pub ite {ℓ} : {A : Type ℓ} → Bool → A → A → A
ite true a b = a
ite false a b = b

-- f holds of each number below n, of one of them
unfoldable pub all_below : ℕ → (ℕ → Bool) → Bool
all_below zero f = true
all_below (suc n) f = elim (f n) [ true ↦ all_below n f | false ↦ false ]

unfoldable pub any_below : ℕ → (ℕ → Bool) → Bool
any_below zero f = false
any_below (suc n) f = elim (f n) [ true ↦ true | false ↦ any_below n f ]

unfoldable pub any_of : (ℕ → Bool) → List ℕ → Bool
any_of f [] = false
any_of f (v ∷ vs) = f v || any_of f vs

-- P holds of each element
abbrev pub All : {A : Type 0} → (A → Type 0) → List A → Type 0
All P [] = Unit {0}
All P (x ∷ xs) = P x × All P xs

-- whether there is one
abbrev pub is_some : {A : Type 0} → Option A → Bool
is_some None = false
is_some (Some a) = true
