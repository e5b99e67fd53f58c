-- The lower class of two: a law for each way through its code, and that it is none where neither is. Assumes nothing.
use Rattle.std.specs.Prelude.{ℕ, ◌≤◌, ◌<◌, ◌≡◌, eqb, ltb}
use Rattle.std.proofs.Math.Path.{sym}
use Rattle.std.proofs.Common.{◌∙◌, ⊎_elim}
use Rattle.base_tests.specs.Tests.{ite}
use Rattle.base_tests.proofs.Laws.Choice.{ite_lt, ite_ge, ite_eq, ite_ne}
use Rattle.base_tests.proofs.Laws.Order.{lt_or_ge, same_or_not}
use Rattle.refuse_class.specs.Class.{lower}

module _ (a b : ℕ) where
  pub lower_none : a ≡ 0 → b ≡ lower a b
  unfolding lower
  lower_none e = sym (ite_eq a 0 b (ite (eqb b 0) a (ite (ltb b a) b a)) e)

  past : (a ≡ 0 → ⊥) → ite (eqb b 0) a (ite (ltb b a) b a) ≡ lower a b
  unfolding lower
  past h = sym (ite_ne a 0 b (ite (eqb b 0) a (ite (ltb b a) b a)) h)

  pub lower_alone : (a ≡ 0 → ⊥) → b ≡ 0 → a ≡ lower a b
  lower_alone h e = sym (ite_eq b 0 a (ite (ltb b a) b a) e) ∙ past h

  past_both : (a ≡ 0 → ⊥) → (b ≡ 0 → ⊥) → ite (ltb b a) b a ≡ lower a b
  past_both h k = sym (ite_ne b 0 a (ite (ltb b a) b a) k) ∙ past h

  pub lower_second : (a ≡ 0 → ⊥) → (b ≡ 0 → ⊥) → b < a → b ≡ lower a b
  lower_second h k l = sym (ite_lt b a b a l) ∙ past_both h k

  pub lower_first : (a ≡ 0 → ⊥) → (b ≡ 0 → ⊥) → a ≤ b → a ≡ lower a b
  lower_first h k l = sym (ite_ge b a b a l) ∙ past_both h k

  -- none where neither is
  pub lower_0 : lower a b ≡ 0 → (a ≡ 0) × (b ≡ 0)
  lower_0 z = ⊎_elim (λ e. (e, lower_none e ∙ z)) (λ h. absurd (neither h)) (same_or_not a 0)
    where
      neither : (a ≡ 0 → ⊥) → ⊥
      neither h = ⊎_elim
          (λ e. h (lower_alone h e ∙ z))
          (λ k. ⊎_elim (λ l. k (lower_second h k l ∙ z)) (λ l. h (lower_first h k l ∙ z)) (lt_or_ge b a))
          (same_or_not b 0)
