-- Laws of a choice by a test. Assumes nothing.
use Rattle.std.specs.Prelude.{◌≡◌, Bool, true, false, ℕ, ◌≤◌, ◌<◌, ltb, eqb}
use Rattle.std.proofs.Common.{ap, lt-ltb, le-ltb, eq-eqb, ne_eqb}
use Rattle.base_tests.specs.Tests.{ite}

module _ {ℓ} {A : Type ℓ} where
  pub ite_lt : (m n : ℕ) (a b : A) → m < n → ite (ltb m n) a b ≡ a
  ite_lt m n a b h = ap (λ (t : Bool). ite t a b) (lt-ltb m n h)

  pub ite_ge : (m n : ℕ) (a b : A) → n ≤ m → ite (ltb m n) a b ≡ b
  ite_ge m n a b h = ap (λ (t : Bool). ite t a b) (le-ltb m n h)

  pub ite_eq : (m n : ℕ) (a b : A) → m ≡ n → ite (eqb m n) a b ≡ a
  ite_eq m n a b h = ap (λ (t : Bool). ite t a b) (eq-eqb m n h)

  pub ite_ne : (m n : ℕ) (a b : A) → (m ≡ n → ⊥) → ite (eqb m n) a b ≡ b
  ite_ne m n a b h = ap (λ (t : Bool). ite t a b) (ne_eqb m n h)

-- a choice by a test whose answer is known
pub ite_yes : {A : Type 0} (t : Bool) (a b : A) → t ≡ true → ite t a b ≡ a
ite_yes t a b e = ap (λ (x : Bool). ite x a b) e

pub ite_no : {A : Type 0} (t : Bool) (a b : A) → t ≡ false → ite t a b ≡ b
ite_no t a b e = ap (λ (x : Bool). ite x a b) e

-- a value of a type that is said: records that are equal part by part are named so
abbrev pub the : (A : Type 0) → A → A
the A x = x
