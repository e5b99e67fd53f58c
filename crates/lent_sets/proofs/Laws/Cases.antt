-- The definitions computed on two rows: what is stored, read, copied, joined and walked. Assumes nothing.
use Rattle.std.specs.Prelude.{ℕ, ◌+◌, ◌^◌, Bool, true, false, ◌&&◌, List, [], ◌∷◌, T, eqb, replicate, Option, None, Some}
use Rattle.std.specs.Int.Bits.{bit_or}
use Rattle.base_sets.specs.Members.{members, digits_from}
use Rattle.lent_sets.specs.Rows.{bit, seek, upto, row_word, set_word, number, row_number, word_of, set_at, put_word, put_row, put_set, copy_set, append_set, member, next_member, left, or_word, add_set}

-- two rows, of which none is defined
abbrev two : List ℕ
two = replicate 32 0

-- row 1 has the values 5 and 700
abbrev one : List ℕ
one = put_set two 1 (bit_or (2 ^ 5) (2 ^ 700))

-- whether a set is there and is s
abbrev is : Option ℕ → ℕ → Bool
is None s = false
is (Some t) s = eqb t s

-- whether no set is there
abbrev not_there : Option ℕ → Bool
not_there None = true
not_there (Some t) = false

-- whether two lists of numbers are the same
abbrev same : List ℕ → List ℕ → Bool
same [] [] = true
same [] (y ∷ ys) = false
same (x ∷ xs) [] = false
same (x ∷ xs) (y ∷ ys) = eqb x y && same xs ys

-- a row that is not defined, one that is, bit 0 and bit 1,024 cut off, a write past the end
stored : T
    (not_there (set_at two 1)
    && is (set_at one 1) (2 ^ 5 + 2 ^ 700)
    && not_there (set_at one 0)
    && is (set_at (put_set two 0 0) 0) 0
    && is (set_at (put_set two 0 (2 ^ 1024 + 2 ^ 3 + 1)) 0) (2 ^ 3)
    && same (put_set two 2 (2 ^ 5)) two)
unfolding bit upto row_word set_word number row_number word_of set_at put_word put_row put_set
stored = tt

-- a copy, also onto itself; a union, also with itself; neither where a set is missing
joined : T
    (is (set_at (copy_set one 0 1) 0) (2 ^ 5 + 2 ^ 700)
    && same (copy_set one 1 1) one
    && same (copy_set one 1 0) one
    && is (set_at (append_set (put_set one 0 (2 ^ 6)) 1 0) 1) (2 ^ 5 + 2 ^ 6 + 2 ^ 700)
    && same (append_set one 1 1) one
    && same (append_set one 0 1) one
    && same (append_set one 1 0) one
    && eqb (number 16 (add_set (replicate 16 0) (2 ^ 700)) 0) (2 ^ 700))
unfolding bit upto row_word set_word number row_number word_of set_at put_word put_row put_set copy_set append_set or_word add_set
joined = tt

-- the members of row 1, one after the other
walked : T
    (eqb (next_member one 1 1) 5
    && eqb (next_member one 1 5) 5
    && eqb (next_member one 1 6) 700
    && eqb (next_member one 1 701) 1024
    && eqb (next_member one 1 2000) 2000
    && same (members (2 ^ 5 + 2 ^ 700)) (5 ∷ 700 ∷ [])
    && same (left (2 ^ 5 + 2 ^ 700) 6) (700 ∷ []))
unfolding bit seek upto row_word set_word number row_number word_of set_at put_word put_row put_set member next_member members digits_from left
walked = tt
