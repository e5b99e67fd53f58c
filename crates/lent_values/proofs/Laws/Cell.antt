-- Reading gives back what was written, and writing leaves the others. Assumes nothing.
use Rattle.std.specs.Prelude.{ℕ, ◌+◌, ◌-◌, ◌*◌, ◌/◌, ◌%◌, ◌<◌, ◌≡◌, List, length, None, Some}
use Rattle.std.proofs.Common.{mod-eq_of_lt, arith, sym, ap, ◌∙◌, length-set, get_or-set_same, get_or-set_other, eq-eqb, ne_eqb}
use Rattle.def_kinds.specs.declared.ValueKind.{ValueKind}
use Rattle.def_kinds.specs.declared.AbstractValue.{AbstractValue}
use Rattle.def_kinds.specs.Kinds.{code_of, kind_at}
use Rattle.def_kinds.proofs.Laws.Kinds.{code_lt, kind_at_code}
use Rattle.def_kinds.specs.Values.{mk}
use Rattle.lent_values.specs.Cells.{cell_of, word_of, value_at, put_value}

-- ---- one word

pub cell_absent : (x : ℕ) → x % 8 ≡ 0 → cell_of x ≡ None
unfolding cell_of
cell_absent x h = rw (cell_of, eq-eqb (x % 8) 0 h)

pub cell_present : (x : ℕ) → (x % 8 ≡ 0 → ⊥) → cell_of x ≡ Some (mk (kind_at (x % 8 - 1)) (x / 8 % 4294967296))
unfolding cell_of
cell_present x h = rw (cell_of, ne_eqb (x % 8) 0 h)

-- a word gives back the value that it was made of
pub cell_word : (a : AbstractValue) → a.reason < 4294967296 → cell_of (word_of a) ≡ Some a
unfolding word_of
cell_word a h =
    let l = code_lt a.kind in
    let p : (a.reason * 8 + code_of a.kind + 1) % 8 ≡ code_of a.kind + 1 = omega arith in
    let q : (a.reason * 8 + code_of a.kind + 1) / 8 ≡ a.reason = omega arith in
    let n : code_of a.kind + 1 - 1 ≡ code_of a.kind = omega arith in
    cell_present (a.reason * 8 + code_of a.kind + 1) (λ e. omega arith)
    ∙ (λ i. Some (mk ((ap (λ (x : ℕ). kind_at (x - 1)) p ∙ ap kind_at n ∙ kind_at_code a.kind) i) ((ap (λ (x : ℕ). x % 4294967296) q ∙ mod-eq_of_lt h) i)))

-- ---- a table of words

-- what stands at another number
pub value_other : (t : List ℕ) (v : ℕ) (a : AbstractValue) (x : ℕ) → ¬ (v ≡ x) → value_at (put_value t v a) x ≡ value_at t x
unfolding value_at put_value
value_other t v a x h = ap cell_of (get_or-set_other t v x (word_of a) 0 (λ e. h (sym e)))

-- what stands at the number itself
pub value_same : (t : List ℕ) (v : ℕ) (a : AbstractValue) → v < length t → a.reason < 4294967296 → value_at (put_value t v a) v ≡ Some a
unfolding value_at put_value
value_same t v a l h = ap cell_of (get_or-set_same t v (word_of a) 0 l) ∙ cell_word a h

pub put_length : (t : List ℕ) (v : ℕ) (a : AbstractValue) → length (put_value t v a) ≡ length t
unfolding put_value
put_length t v a = length-set t v (word_of a)

-- the entry that the code makes of a word: tag, kind and reasons, each read by a function of its own
pub entry_present : (x tag : ℕ) (k : ValueKind) (r : ℕ) → tag ≡ x % 8 → (tag ≡ 0 → ⊥) → k ≡ kind_at (tag - 1) → r ≡ x / 8 % 4294967296 → Some (mk k r) ≡ cell_of x
entry_present x tag k r p n q s =
    (λ i. Some (mk ((q ∙ ap (λ (t : ℕ). kind_at (t - 1)) p) i) (s i))) ∙ sym (cell_present x (λ e. n (p ∙ e)))
