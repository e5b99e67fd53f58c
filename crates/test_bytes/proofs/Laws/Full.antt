-- A turn of each loop that fills a state. Assumes nothing.
use Rattle.std.specs.Prelude.{ℕ, ◌+◌, ◌-◌, ◌*◌, ◌^◌, ◌%◌, ◌<◌, ◌≡◌, Bool, ◌&&◌, List, ltb, length, Some}
use Rattle.std.proofs.Common.{arith, sym, ap, ap₂, ◌∙◌, ⊎_elim, lt-ltb, le-ltb, lit<}
use Rattle.base_tests.specs.Tests.{ite}
use Rattle.base_tests.proofs.Laws.Order.{lt_or_ge, same_or_not}
use Rattle.def_kinds.specs.declared.ValueKind.TheVariants.{Mutable}
use Rattle.def_kinds.specs.Values.{mk}
use Rattle.lent_values.specs.Cells.{value_at, put_value}
use Rattle.lent_values.proofs.Laws.Cell.{value_same, value_other, put_length}
use Rattle.lent_sets.specs.Rows.{set_at, put_set}
use Rattle.lent_sets.proofs.Laws.Row.{set_same, set_other, set_length}
use Rattle.test_bytes.specs.Full.{all_values, ValuesFilled, SetsFilled}

-- a number other than n lies below n + 1 just where it lies below n
below_next : (k n : ℕ) → (n ≡ k → ⊥) → ltb k (n + 1) ≡ ltb k n
below_next k n h = ⊎_elim (λ l. lt-ltb k (n + 1) (omega arith) ∙ sym (lt-ltb k n l)) (λ l. le-ltb k (n + 1) (omega arith) ∙ sym (le-ltb k n l)) (lt_or_ge k n)

pub value_filled : (old new next : List ℕ) (n : ℕ) → 0 < n → next ≡ put_value new n (mk Mutable 2048) → ValuesFilled n old new → ValuesFilled (n + 1) old next
value_filled old new next n p e h = (ap length e ∙ put_length new n (mk Mutable 2048) ∙ h.0, at)
  where
    at : (v : ℕ) → v < length old → value_at next v ≡ ite (ltb 0 v && ltb v (n + 1)) (Some (mk Mutable 2048)) (value_at old v)
    at v l = ⊎_elim
        (λ s. let m = h.0 in
        ap (λ (t : List ℕ). value_at t v) e ∙ ap (value_at (put_value new n (mk Mutable 2048))) (sym s) ∙ value_same new n (mk Mutable 2048) (omega arith) (lit< tt)
        ∙ sym (ap (λ (b : Bool). ite b (Some (mk Mutable 2048)) (value_at old v)) (ap₂ (λ (a b : Bool). a && b) (lt-ltb 0 v (omega arith)) (lt-ltb v (n + 1) (omega arith)))))
        (λ s. ap (λ (t : List ℕ). value_at t v) e ∙ value_other new n (mk Mutable 2048) v s ∙ h.1 v l
        ∙ sym (ap (λ (b : Bool). ite (ltb 0 v && b) (Some (mk Mutable 2048)) (value_at old v)) (below_next v n s)))
        (same_or_not n v)

pub set_filled : (old new next : List ℕ) (n s : ℕ) → s < 2 ^ 1024 → s - s % 2 ≡ all_values → next ≡ put_set new n s → SetsFilled n old new → SetsFilled (n + 1) old next
set_filled old new next n s f g e h = (ap length e ∙ set_length new n s ∙ h.0, at)
  where
    at : (m : ℕ) → length old ≡ 16 * m → (i : ℕ) → i < m → set_at next i ≡ ite (ltb i (n + 1)) (Some all_values) (set_at old i)
    at m z i l = ⊎_elim
        (λ q.
        ap (λ (t : List ℕ). set_at t i) e ∙ ap (set_at (put_set new n s)) (sym q) ∙ set_same m new n s (h.0 ∙ z) (omega arith) f ∙ ap Some g
        ∙ sym (ap (λ (b : Bool). ite b (Some all_values) (set_at old i)) (lt-ltb i (n + 1) (omega arith))))
        (λ q. ap (λ (t : List ℕ). set_at t i) e ∙ set_other new n s i q ∙ h.1 m z i l
        ∙ sym (ap (λ (b : Bool). ite b (Some all_values) (set_at old i)) (below_next i n q)))
        (same_or_not n i)
