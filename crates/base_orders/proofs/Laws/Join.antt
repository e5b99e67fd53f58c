-- Three laws of a join give the laws of its order and the least upper bound, at any type. Assumes nothing.
use Rattle.std.specs.Prelude.{◌≡◌}
use Rattle.std.proofs.Common.{sym, ap, ◌∙◌}
use Rattle.base_orders.specs.Join.{Joins, Above}

module _ {A : Type 0} (◌⊔◌ : A → A → A) (J : Joins A ◌⊔◌) where
  infixl 30 ◌⊔◌
  pub above_refl : (a : A) → Above ◌⊔◌ a a
  above_refl a = J.same a

  pub above_trans : (a b c : A) → Above ◌⊔◌ a b → Above ◌⊔◌ b c → Above ◌⊔◌ a c
  above_trans a b c p q = ap (λ (x : A). x ⊔ c) (sym p) ∙ J.assoc a b c ∙ ap (λ (x : A). a ⊔ x) q ∙ p

  pub above_antisym : (a b : A) → Above ◌⊔◌ a b → Above ◌⊔◌ b a → a ≡ b
  above_antisym a b p q = sym p ∙ J.comm a b ∙ q

  -- the join is above both
  pub join_above_left : (a b : A) → Above ◌⊔◌ (a ⊔ b) a
  join_above_left a b = J.comm (a ⊔ b) a ∙ sym (J.assoc a a b) ∙ ap (λ (x : A). x ⊔ b) (J.same a)

  pub join_above_right : (a b : A) → Above ◌⊔◌ (a ⊔ b) b
  join_above_right a b = J.assoc a b b ∙ ap (λ (x : A). a ⊔ x) (J.same b)

  -- and below whatever is above both
  pub join_least : (a b c : A) → Above ◌⊔◌ c a → Above ◌⊔◌ c b → Above ◌⊔◌ c (a ⊔ b)
  join_least a b c p q = sym (J.assoc c a b) ∙ ap (λ (x : A). x ⊔ b) p ∙ q
