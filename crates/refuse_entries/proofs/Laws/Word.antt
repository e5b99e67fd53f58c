-- The ways through the tests of a number and of a word. Assumes nothing.
use Rattle.std.specs.Prelude.{◌≡◌, Bool, true, false, not, ℕ, ◌+◌, ◌/◌, ◌%◌, ◌^◌, ◌≤◌, ◌<◌, eqb, leb, ltb}
use Rattle.std.proofs.Common.{sym, ap, ◌∙◌, arith, ltb-true, lt-ltb, le-ltb, le-leb, eq-eqb, ne_eqb}
use Rattle.def_kinds.specs.Reasons.{are_reasons}
use Rattle.def_transfer.specs.Accepted.{not_anumber, not_yet_handed_out}
use Rattle.refuse_entries.specs.Words.{has_entry, word_out_of_range, word_unfit}
use Rattle.base_tests.proofs.Laws.Bool.{or_second, or_neither, and_first, and_no}
use Rattle.base_tests.proofs.Laws.Choice.{ite_yes, ite_no}

-- ---- numbers

pub number_past : (n v : ℕ) → 512 + n ≤ v → not_anumber n v ≡ true
unfolding not_anumber
number_past n v h = or_second (not (leb 1 v)) _ (ap not (le-leb 1 v (omega arith))) ∙ ap not (le-ltb v (512 + n) h)

pub number_in : (n v : ℕ) → 0 < v → v < 512 + n → not_anumber n v ≡ false
unfolding not_anumber
number_in n v p h = or_neither (not (leb 1 v)) _ (ap not (le-leb 1 v p)) (ap not (lt-ltb v (512 + n) h))

pub new_past : (next v : ℕ) → 512 ≤ v → not_yet_handed_out next v ≡ false
unfolding not_yet_handed_out
new_past next v h = and_no (ltb v 512) _ (le-ltb v 512 h)

pub new_below : (next v : ℕ) → v < 512 → not_yet_handed_out next v ≡ not (ltb v next)
unfolding not_yet_handed_out
new_below next v h = and_first (ltb v 512) _ (lt-ltb v 512 h)

-- ---- reasons

-- no reason has a bit past 31
pub reasons_past : (y : ℕ) → 4294967296 ≤ y → are_reasons y ≡ false
unfolding are_reasons
reasons_past y h = le-ltb y (2 ^ 12) (omega arith)

-- and what is a set of reasons fits 32 bits
pub reasons_lt : (y : ℕ) → are_reasons y ≡ true → y < 4294967296
unfolding are_reasons
reasons_lt y h = let l : y < 2 ^ 12 = ltb-true y (2 ^ 12) h in omega arith

-- ---- a word

pub entry_no : (x : ℕ) → x % 8 ≡ 0 → has_entry x ≡ false
unfolding has_entry
entry_no x e = ap not (eq-eqb (x % 8) 0 e)

pub entry_yes : (x : ℕ) → (x % 8 ≡ 0 → ⊥) → has_entry x ≡ true
unfolding has_entry
entry_yes x h = ap not (ne_eqb (x % 8) 0 h)

pub word_empty : (n v x : ℕ) → x % 8 ≡ 0 → word_out_of_range n v x ≡ false
unfolding word_out_of_range
word_empty n v x e = and_no (has_entry x) _ (entry_no x e)

pub word_reasons : (n v x : ℕ) (b c : Bool) → (x % 8 ≡ 0 → ⊥) → b ≡ not_anumber n v → b ≡ false → (x % 8 ≡ 7 → ⊥) → c ≡ not (are_reasons (x / 8)) → c ≡ word_out_of_range n v x
unfolding word_out_of_range
word_reasons n v x b c h e t k q =
    q
    ∙ sym (and_first (has_entry x) _ (entry_yes x h) ∙ or_second (not_anumber n v) _ (sym e ∙ t) ∙ or_second (eqb (x % 8) 7) _ (ne_eqb (x % 8) 7 k))

pub unfit_empty : (next v x : ℕ) → x % 8 ≡ 0 → word_unfit next v x ≡ not (eqb x 0)
unfolding word_unfit
unfit_empty next v x e = ite_no (has_entry x) _ _ (entry_no x e)

pub unfit_entry : (next v x : ℕ) → (x % 8 ≡ 0 → ⊥) → word_unfit next v x ≡ not_yet_handed_out next v
unfolding word_unfit
unfit_entry next v x h = ite_yes (has_entry x) _ _ (entry_yes x h)
