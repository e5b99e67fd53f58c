-- The values of a state as words: 0 for no entry, else 1 + kind in the three low bits and the reasons above. Assumes nothing: these are definitions.
use Rattle.std.specs.Prelude.{ℕ, ◌+◌, ◌-◌, ◌*◌, ◌/◌, ◌%◌, true, false, List, eqb, get_or, set, Option, None, Some}
use Rattle.def_kinds.specs.declared.AbstractValue.{AbstractValue}
use Rattle.def_kinds.specs.Kinds.{code_of, kind_at}
use Rattle.def_kinds.specs.Values.{mk}

-- what a word says; any number is read
unfoldable pub cell_of : ℕ → Option AbstractValue
cell_of x = elim (eqb (x % 8) 0) [ true ↦ None | false ↦ Some (mk (kind_at (x % 8 - 1)) (x / 8 % 4294967296)) ]

unfoldable pub word_of : AbstractValue → ℕ
word_of a = a.reason * 8 + code_of a.kind + 1

-- the entry of a value number in a list of words, and the list with another entry there
unfoldable pub value_at : List ℕ → ℕ → Option AbstractValue
value_at vs v = cell_of (get_or vs v 0)

unfoldable pub put_value : List ℕ → ℕ → AbstractValue → List ℕ
put_value vs v a = set vs v (word_of a)
