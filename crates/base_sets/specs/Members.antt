-- "A points-to set is a row of bits, walked from its lowest set bit": a set is one number, bit v for value v.
-- Assumes nothing: these are definitions.
use Rattle.std.specs.Prelude.{ℕ, zero, suc, ◌/◌, ◌%◌, ◌^◌, List, [], ◌∷◌, Option, None, Some}
use Rattle.std.specs.Int.Bits.{bit_or}

-- b in front where the digit is set
abbrev pub under : ℕ → ℕ → List ℕ → List ℕ
under zero b l = l
under (suc d) b l = b ∷ l

-- the set digits of n, lowest first, counted from b; the first number is how many are still to be looked at
unfoldable pub digits_from : ℕ → ℕ → ℕ → List ℕ
digits_from zero b n = []
digits_from (suc f) b zero = []
digits_from (suc f) b (suc n) = under (suc n % 2) b (digits_from f (suc b) (suc n / 2))

-- the members of a set, ascending
unfoldable pub members : ℕ → List ℕ
members n = digits_from n 0 n

-- the set of one value, and the union of two sets
abbrev pub singleton : ℕ → ℕ
singleton v = 2 ^ v

abbrev pub union : ℕ → ℕ → ℕ
union m n = bit_or m n

-- the values of a place, ascending; an undefined place has none (`values_for`)
abbrev pub values_of : Option ℕ → List ℕ
values_of None = []
values_of (Some s) = members s

-- the bits of a set, none for one that is not there
abbrev pub bits_of : Option ℕ → ℕ
bits_of None = 0
bits_of (Some s) = s
