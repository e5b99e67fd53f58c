-- The words of a record in two parts: those before the captures one by one, and the rest at once where the effect has none. Assumes nothing.
use Prim.Native.Nat.{ℕ, zero, suc, ◌+◌, ◌*◌, ◌-◌, ◌≤◌, ◌<◌}
use native.Mathlib.Omega.{arith}
use Rattle.std.specs.Prelude.{◌≡◌, List, None}
use Rattle.std.proofs.Math.Path.{refl, sym, ap, ap₂}
use Rattle.std.proofs.Common.{◌∙◌, ⊎_elim}
use Rattle.std.proofs.Math.ListN.{get_or}
use Rattle.base_tests.proofs.Laws.Choice.{ite_ge}
use Rattle.base_tests.proofs.Laws.Order.{lt_or_ge, same_or_not}
use Rattle.lent_tables.specs.declared.Table.{Table}
use Rattle.lent_tables.specs.Words.{index, field}
use Rattle.lent_tables.proofs.Laws.Word.{within_yes, field_in}
use Rattle.refuse_class.specs.Class.{lower}
use Rattle.refuse_class.proofs.Laws.Class.{lower_none, lower_alone, lower_second, lower_first, lower_0}
use Rattle.refuse_words.specs.Classes.{lowest_below, word_class, used_if, run_limit, stray_from, words_below, record_class}
use Rattle.refuse_instruction.specs.EffectClasses.{uses, effect_limit}

-- ---- in which order classes are taken together does not matter

module _ (a b c : ℕ) (h : a ≡ 0 → ⊥) (k : b ≡ 0 → ⊥) (l : c ≡ 0 → ⊥) where
  -- three classes that are there
  three : lower (lower a b) c ≡ lower a (lower b c)
  three = ⊎_elim low high (lt_or_ge b a)
    where
      low : b < a → lower (lower a b) c ≡ lower a (lower b c)
      low p =
          ap (λ (x : ℕ). lower x c) (sym (lower_second a b h k p))
          ∙ ⊎_elim
          (λ q. sym (lower_second b c k l q) ∙ lower_second a c h l (omega arith) ∙ ap (lower a) (lower_second b c k l q))
          (λ q. sym (lower_first b c k l q) ∙ lower_second a b h k p ∙ ap (lower a) (lower_first b c k l q))
          (lt_or_ge c b)

      high : a ≤ b → lower (lower a b) c ≡ lower a (lower b c)
      high p =
          ap (λ (x : ℕ). lower x c) (sym (lower_first a b h k p))
          ∙ ⊎_elim
          (λ q. ap (lower a) (lower_second b c k l q))
          (λ q. sym (lower_first a c h l (omega arith)) ∙ lower_first a b h k p ∙ ap (lower a) (lower_first b c k l q))
          (lt_or_ge c b)

pub lower_assoc : (a b c : ℕ) → lower (lower a b) c ≡ lower a (lower b c)
lower_assoc a b c = ⊎_elim
    (λ e. ap (λ (x : ℕ). lower x c) (sym (lower_none a b e)) ∙ lower_none a (lower b c) e)
    (λ h. ⊎_elim
    (λ e. ap (λ (x : ℕ). lower x c) (sym (lower_alone a b h e)) ∙ ap (lower a) (lower_none b c e))
    (λ k. ⊎_elim
    (λ e. sym (lower_alone (lower a b) c (λ z. h (lower_0 a b z).0) e) ∙ ap (lower a) (lower_alone b c k e))
    (λ l. three a b c h k l)
    (same_or_not c 0))
    (same_or_not b 0))
    (same_or_not a 0)

-- the lowest of some, and of those after them
pub lowest_split : (f : ℕ → ℕ) (m n : ℕ) → lowest_below (m + n) f ≡ lower (lowest_below m f) (lowest_below n (λ k. f (m + k)))
unfolding lowest_below
lowest_split f m zero = ap (λ (x : ℕ). lowest_below x f) (let z : m + 0 ≡ m = omega arith in z) ∙ alone (lowest_below m f)
  where
    alone : (x : ℕ) → x ≡ lower x 0
    alone x = ⊎_elim (λ e. e ∙ lower_none x 0 e) (λ h. lower_alone x 0 h refl) (same_or_not x 0)
lowest_split f m (suc n) =
    ap (λ (x : ℕ). lowest_below x f) (let z : m + suc n ≡ suc (m + n) = omega arith in z)
    ∙ ap (λ (x : ℕ). lower x (f (m + n))) (lowest_split f m n)
    ∙ lower_assoc (lowest_below m f) (lowest_below n (λ k. f (m + k))) (f (m + n))

-- ---- an effect without captures

module _ (t : Table) (xs : List ℕ) (i identifiers functions diagnostics code n : ℕ) (wide : t.width ≡ 98) (row : i < t.count) (plain : uses code 7 ≡ 0) where
  -- a word after the count of captures has no use
  unused : (k : ℕ) → k < 80 → word_class (effect_limit identifiers functions diagnostics code n (18 + k)) (field t xs i (18 + k)) ≡ word_class None (get_or xs (index t i 18 + k) 0)
  unfolding effect_limit index
  unused k l =
      ap₂ word_class (ite_ge (18 + k) 18 _ _ (omega arith) ∙ ap (λ (u : ℕ). used_if u (run_limit identifiers n (18 + k - 18))) plain)
      (field_in t xs i (18 + k) (within_yes t i (18 + k) row (omega arith)) ∙ ap (λ (j : ℕ). get_or xs j 0) (let z : t.base + i * t.width + (18 + k) ≡ t.base + i * t.width + 18 + k = omega arith in z))

  below : (f g : ℕ → ℕ) (m : ℕ) → ((k : ℕ) → k < m → f k ≡ g k) → lowest_below m f ≡ lowest_below m g
  unfolding lowest_below
  below f g zero h = refl
  below f g (suc m) h = ap₂ lower (below f g m (λ k l. h k (omega arith))) (h m (omega arith))

  -- so they are tested at once
  pub words_split : (head tail r from : ℕ) → head ≡ words_below t xs (effect_limit identifiers functions diagnostics code n) i 18 → from ≡ index t i 18 → tail ≡ stray_from xs from 80 → r ≡ lower head tail
      → r ≡ record_class t xs (effect_limit identifiers functions diagnostics code n) i
  unfolding words_below record_class stray_from
  words_split head tail r from hh hf ht hr =
      hr
      ∙ ap₂ lower hh (ht ∙ ap (λ (x : ℕ). lowest_below 80 (λ k. word_class None (get_or xs (x + k) 0))) hf ∙ sym (below _ _ 80 unused))
      ∙ sym (lowest_split (λ w. word_class (effect_limit identifiers functions diagnostics code n w) (field t xs i w)) 18 80)
      ∙ ap (λ (x : ℕ). lowest_below x (λ w. word_class (effect_limit identifiers functions diagnostics code n w) (field t xs i w))) (sym wide)

-- where the rest begins
pub split_from : (t : Table) (i a : ℕ) → a ≡ t.base → t.width ≡ 98 → a + i * 98 + 18 ≡ index t i 18
unfolding index
split_from t i a p q = ap₂ (λ (x y : ℕ). x + i * y + 18) p (sym q)
