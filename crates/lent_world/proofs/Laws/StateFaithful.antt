-- Lent values, sets and marks read back what is written. Assumes nothing.
use Rattle.std.specs.Prelude.{ℕ, ◌-◌, ◌*◌, ◌/◌, ◌%◌, ◌<◌, ◌≡◌, refl, List, Option, None, Some}
use Rattle.std.proofs.Common.{mod-lt, arith, sym, ap, ◌∙◌, subst, ⊎_elim, eq-eqb}
use mathlib.Core.Bool.{Bool, true, false}
use lib.Dec.{eqb, eqb→eq, lit<}
use lib.ListN.{length}
use Rattle.def_kinds.specs.declared.AbstractValue.{AbstractValue}
use Rattle.def_transfer.specs.Pure.{at}
use Rattle.lent_values.specs.Cells.{value_at, put_value}
use Rattle.lent_values.proofs.Laws.Cell as CellLaws
use Rattle.base_tests.proofs.Laws.Order.{same_or_not}
use Rattle.lent_sets.proofs.Laws.Bit.{bit_low}
use Rattle.lent_sets.specs.Rows.{set_at, put_set}
use Rattle.lent_sets.proofs.Laws.Row as RowLaws
use Rattle.def_faithful.specs.Ranges.{Number, Reasoned, Entered, IsSet, Pointing}

-- a table that is read back at the place written, and stays elsewhere, is the plain one with that entry
pub at_is : {A : Type 0} (f g : ℕ → A) (i : ℕ) (x : A) → g i ≡ x → ((j : ℕ) → ¬ (i ≡ j) → g j ≡ f j) → (j : ℕ) → g j ≡ at f i x j
unfolding at
at_is {A = A} f g i x p q j = go (eqb i j) (eqb→eq i j) (λ e. eq-eqb i j e)
  where
    go : (b : Bool) → (lib.Dec.T b → i ≡ j) → (i ≡ j → b ≡ true) → g j ≡ (elim b as (λ _. A) [ true ↦ x | false ↦ f j ])
    go true r s = ap g (sym (r tt)) ∙ p
    go false r s = q j (λ e. let z = s e in absurd (mathlib.Core.Bool.false≢true z))

-- ---- values

pub value_word : (t : List ℕ) (v : ℕ) → Entered (value_at t v)
unfolding value_at
value_word t v = ⊎_elim
    (λ e. subst Entered (sym (CellLaws.cell_absent (lib.ListN.get_or t v 0) e)) tt)
    (λ e. subst Entered (sym (CellLaws.cell_present (lib.ListN.get_or t v 0) e)) (record { word = mod-lt (lib.ListN.get_or t v 0 / 8) (lit< tt) }))
    (same_or_not (lib.ListN.get_or t v 0 % 8) 0)

pub value_put : (t : List ℕ) (v : ℕ) (a : AbstractValue) → length t ≡ 1024 → Number v → Reasoned a → (x : ℕ) → value_at (put_value t v a) x ≡ at (value_at t) v (Some a) x
value_put t v a l p q = at_is (value_at t) (value_at (put_value t v a)) v (Some a) (CellLaws.value_same t v a (let h = p.high in let z : v < length t = omega arith in z) q.word) (λ x n. CellLaws.value_other t v a x n)

-- ---- sets

pub set_is : (t : List ℕ) (i : ℕ) → Pointing (set_at t i)
set_is t i = go (set_at t i) refl
  where
    go : (o : Option ℕ) → set_at t i ≡ o → Pointing o
    go None e = tt
    go (Some s) e = record { small = RowLaws.set_fits t i s e; even = sym (bit_low s) ∙ RowLaws.set_zero t i s e }

pub set_put : (n : ℕ) (t : List ℕ) (i s : ℕ) → length t ≡ 16 * n → i < n → IsSet s → (j : ℕ) → set_at (put_set t i s) j ≡ at (set_at t) i (Some s) j
set_put n t i s l p q =
    at_is (set_at t) (set_at (put_set t i s)) i (Some s)
    (RowLaws.set_same n t i s l p q.small ∙ ap Some (let d = q.even in let z : s - s % 2 ≡ s = omega arith in z)) (λ j d. RowLaws.set_other t i s j d)
