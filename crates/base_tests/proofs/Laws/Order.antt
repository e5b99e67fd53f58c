-- Below or not, equal or not: of any two numbers. Assumes nothing.
use Rattle.std.specs.Prelude.{◌≡◌, refl, ◌⊎◌, ℕ, zero, suc, ◌≤◌, ◌<◌, leb, ltb, not}
use Rattle.std.proofs.Common.{sym, ap, ◌∙◌, inl, inr, ⊎_elim, zero-le, suc-le-suc, arith, lt-ltb, le-ltb, le-leb}
use Rattle.std.proofs.lemmas.Bool.{lt-leb}

-- a is below b, or not
pub lt_or_ge : (a b : ℕ) → (a < b) ⊎ (b ≤ a)
lt_or_ge a zero = inr zero-le
lt_or_ge zero (suc b) = inl (suc-le-suc zero-le)
lt_or_ge (suc a) (suc b) = ⊎_elim (λ p. inl (suc-le-suc p)) (λ q. inr (suc-le-suc q)) (lt_or_ge a b)

-- a equals b, or not
pub same_or_not : (a b : ℕ) → (a ≡ b) ⊎ (a ≡ b → ⊥)
same_or_not zero zero = inl refl
same_or_not zero (suc b) = inr (λ e. omega arith)
same_or_not (suc a) zero = inr (λ e. omega arith)
same_or_not (suc a) (suc b) = ⊎_elim (λ e. inl (ap suc e)) (λ n. inr (λ e. n (omega arith))) (same_or_not a b)

pub le_not_lt : (m n : ℕ) → leb n m ≡ not (ltb m n)
le_not_lt m n = ⊎_elim (λ l. lt-leb n m l ∙ sym (ap not (lt-ltb m n l))) (λ l. le-leb n m l ∙ sym (ap not (le-ltb m n l))) (lt_or_ge m n)
