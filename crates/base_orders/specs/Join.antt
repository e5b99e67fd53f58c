-- A join, and the order that it makes: b lies above a where joining a onto b leaves b. Assumes nothing: these are definitions.
use Rattle.std.specs.Prelude.{◌≡◌}

-- idempotent, commutative, associative
pub record Joins (A : Type 0) (j : A → A → A) : Type 0 where
  pub same : (a : A) → j a a ≡ a
  pub comm : (a b : A) → j a b ≡ j b a
  pub assoc : (a b c : A) → j (j a b) c ≡ j a (j b c)

module _ {A : Type 0} (◌⊔◌ : A → A → A) where
  infixl 30 ◌⊔◌
  -- a is above or equal to b: joining b onto a leaves a
  abbrev pub Above : A → A → Type 0
  Above a b = a ⊔ b ≡ a
