-- Values and sets of a state as words: the laws that isolation asks of them. Assumes nothing.
-- 1,024 words of values and a row for each of n identifiers; a write past them does nothing.
use Rattle.std.specs.Prelude.{ℕ, ◌*◌, ◌≤◌, ◌<◌, ◌≡◌, List, length}
use Rattle.std.proofs.Common.{sym, ap, ◌∙◌, subst, ⊎_elim, arith, get_or-set_same}
use Rattle.std.proofs.Math.Seq.{set_out}
use Rattle.base_sets.specs.Members.{members, values_of}
use Rattle.base_tests.specs.Tests.{All}
use Rattle.def_kinds.specs.declared.AbstractValue.{AbstractValue}
use Rattle.lent_values.specs.Cells.{cell_of, word_of, value_at, put_value}
use Rattle.lent_values.proofs.Laws.Cell as CellLaws
use Rattle.base_tests.proofs.Laws.Order.{lt_or_ge, same_or_not}
use Rattle.lent_sets.specs.Rows.{set_at, put_set}
use Rattle.lent_sets.proofs.Laws.Row as RowLaws

-- ---- values

-- a word for each value number
-- "values 1,024"
abbrev pub FitValues : List ℕ → Type 0
FitValues t = length t ≡ 1024

-- a write keeps it
pub fit_value : (t : List ℕ) (v : ℕ) (a : AbstractValue) → FitValues t → FitValues (put_value t v a)
fit_value t v a h = CellLaws.put_length t v a ∙ h

-- a value inside the list is read as the word that was written says, whatever stood there
-- a reason past 32 bits is cut off, in every list alike
value_in : (t : List ℕ) (v : ℕ) (a : AbstractValue) → v < length t → value_at (put_value t v a) v ≡ cell_of (word_of a)
unfolding value_at put_value
value_in t v a l = ap cell_of (get_or-set_same t v (word_of a) 0 l)

-- past the end a write does nothing
value_past : (t : List ℕ) (v : ℕ) (a : AbstractValue) → length t ≤ v → put_value t v a ≡ t
unfolding put_value
value_past t v a l = set_out t v (word_of a) l

-- a write leaves the other values
pub value_other : (t : List ℕ) (v : ℕ) (a : AbstractValue) (x : ℕ) → ¬ (v ≡ x) → value_at (put_value t v a) x ≡ value_at t x
value_other t v a x h = CellLaws.value_other t v a x h

-- what a write leaves at a number follows from what stood there
-- two lists of one length that agree at it still do
pub value_cong : (t u : List ℕ) (v : ℕ) (a : AbstractValue) (x : ℕ) → FitValues t → FitValues u → value_at t x ≡ value_at u x → value_at (put_value t v a) x ≡ value_at (put_value u v a) x
value_cong t u v a x f g e = ⊎_elim same (λ d. value_other t v a x d ∙ e ∙ sym (value_other u v a x d)) (same_or_not v x)
  where
    inside : v < 1024 → value_at (put_value t v a) v ≡ value_at (put_value u v a) v
    inside h = value_in t v a (omega arith) ∙ sym (value_in u v a (omega arith))

    past : 1024 ≤ v → value_at (put_value t v a) x ≡ value_at (put_value u v a) x
    past h = ap (λ (l : List ℕ). value_at l x) (value_past t v a (omega arith)) ∙ e ∙ sym (ap (λ (l : List ℕ). value_at l x) (value_past u v a (omega arith)))

    same : v ≡ x → value_at (put_value t v a) x ≡ value_at (put_value u v a) x
    same p = ⊎_elim (λ h. subst (λ (k : ℕ). value_at (put_value t v a) k ≡ value_at (put_value u v a) k) p (inside h)) past (lt_or_ge v 1024)

-- ---- sets

-- a row for each of n identifiers
abbrev pub FitSets : ℕ → List ℕ → Type 0
FitSets n t = length t ≡ 16 * n

-- a write keeps it
pub fit_set : (n : ℕ) (t : List ℕ) (i s : ℕ) → FitSets n t → FitSets n (put_set t i s)
fit_set n t i s h = RowLaws.fit_set n t i s h

-- what a write leaves in a row follows from what stood there
-- two lists of one length that agree in it still do
pub set_cong : (n : ℕ) (t u : List ℕ) (i s j : ℕ) → FitSets n t → FitSets n u → set_at t j ≡ set_at u j → set_at (put_set t i s) j ≡ set_at (put_set u i s) j
set_cong n t u i s j f g e = RowLaws.set_cong n t u i s j f g e

-- a write leaves the other rows
pub set_other : (t : List ℕ) (i s j : ℕ) → ¬ (i ≡ j) → set_at (put_set t i s) j ≡ set_at t j
set_other t i s j h = RowLaws.set_other t i s j h

-- what was written has no members but those given
-- members past 1,023 are cut off, so there may be fewer
pub set_has : (P : ℕ → Type 0) (t : List ℕ) (i s j : ℕ) → All P (members s) → All P (values_of (set_at t j)) → All P (values_of (set_at (put_set t i s) j))
set_has P t i s j a b = RowLaws.set_has P t i s j a b
