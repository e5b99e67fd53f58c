-- Entries that may be absent, and tables of them: joined entry by entry. Assumes nothing: these are definitions.
use Rattle.std.specs.Prelude.{ℕ, Option, None, Some}

module _ {A : Type 0} (◌⊔◌ : A → A → A) where
  infixl 30 ◌⊔◌
  -- what is absent adds nothing
  unfoldable pub join_option : Option A → Option A → Option A
  join_option None y = y
  join_option (Some a) None = Some a
  join_option (Some a) (Some b) = Some (a ⊔ b)

  unfoldable pub join_table : (ℕ → Option A) → (ℕ → Option A) → ℕ → Option A
  join_table f g i = join_option (f i) (g i)
