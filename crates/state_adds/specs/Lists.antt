-- Two states that are lent as lists of words: what a merge makes of the lists. Assumes nothing: these are definitions.
use Rattle.std.specs.Prelude.{ℕ, ◌/◌, min, Bool, true, false, List, length, get_or, set, replicate, Option, None, Some}
use Rattle.base_tests.specs.Tests.{ite}
use Rattle.base_orders.specs.Options.{join_option}
use Rattle.base_sets.specs.Members.{union}
use Rattle.def_kinds.specs.declared.AbstractValue.{AbstractValue}
use Rattle.def_kinds.specs.Values.{join}
use Rattle.def_transfer.specs.Merge.{adds_value, adds_set}
use Rattle.lent_values.specs.Cells.{value_at, put_value}
use Rattle.lent_sets.specs.Rows.{upto, set_at, put_set}

-- ---- what the second list adds to the first

-- whether it adds to the entry of value v
-- as a function of v, so that `any_below` goes over it
abbrev pub value_adds : List ℕ → List ℕ → ℕ → Bool
value_adds vs ws v = adds_value (value_at vs v) (value_at ws v)

-- whether it adds to the set of identifier i
abbrev pub set_adds : List ℕ → List ℕ → ℕ → Bool
set_adds ss ts i = adds_set (set_at ss i) (set_at ts i)

-- ---- values

-- value v gets an entry; nothing changes for none
-- a join of two entries is stored so
abbrev pub put_entry : List ℕ → ℕ → Option AbstractValue → List ℕ
put_entry vs v None = vs
put_entry vs v (Some a) = put_value vs v a

-- the entry of value v is joined with that of the second list, where that adds to it
unfoldable pub merge_value : List ℕ → ℕ → List ℕ → List ℕ
merge_value ws v vs = ite (value_adds vs ws v) (put_entry vs v (join_option join (value_at vs v) (value_at ws v))) vs

-- the values of the second list are joined onto those of the first
-- all 1,024 value numbers, in order
unfoldable pub merge_values : List ℕ → List ℕ → List ℕ
merge_values vs ws = upto (merge_value ws) 1024 0 vs

-- ---- sets

-- identifier i gets a set; nothing changes for none
abbrev pub put_some : List ℕ → ℕ → Option ℕ → List ℕ
put_some ss i None = ss
put_some ss i (Some s) = put_set ss i s

-- the set of identifier i is joined with that of the second list, where that adds to it
unfoldable pub merge_set : List ℕ → ℕ → List ℕ → List ℕ
merge_set ts i ss = ite (set_adds ss ts i) (put_some ss i (join_option union (set_at ss i) (set_at ts i))) ss

-- the sets of the second list are joined onto those of the first, in n rows
-- in order from row 0
unfoldable pub merge_sets : ℕ → List ℕ → List ℕ → List ℕ
merge_sets n ss ts = upto (merge_set ts) n 0 ss

-- how many rows a list has, of 512 identifiers
-- a merge stays in the rows there are
abbrev pub rows_of : List ℕ → ℕ
rows_of ss = min 512 (length ss / 16)

-- ---- a third state

-- word k becomes that of another list; past the end nothing changes
unfoldable pub copy_word : List ℕ → ℕ → List ℕ → List ℕ
copy_word from k into = set into k (get_or from k 0)

-- a list with the words of another
-- a word past either end is left alone
unfoldable pub copy_words : List ℕ → List ℕ → List ℕ
copy_words into from = upto (copy_word from) (length from) 0 into

-- word k becomes 0
unfoldable pub clear_word : ℕ → List ℕ → List ℕ
clear_word k l = set l k 0

-- the values of a third state: those of the first with the second's, where the second adds to it; else none
abbrev pub merged_values : Bool → List ℕ → List ℕ → List ℕ → List ℕ
merged_values true into vs ws = merge_values (copy_words into vs) ws
merged_values false into vs ws = replicate (length into) 0

-- the sets of a third state
abbrev pub merged_sets : Bool → List ℕ → List ℕ → List ℕ → List ℕ
merged_sets true into ss ts = merge_sets (rows_of (copy_words into ss)) (copy_words into ss) ts
merged_sets false into ss ts = replicate (length into) 0
