-- What a state that is lent as words earns: "Returned 1 .. 4" of document 01's refused calls, word by word. Assumes nothing: these are definitions.
-- A state is 1,024 words of values (`lent_values`) and 16 words for each identifier in the list (`lent_sets`); with it come next number and first access.
use Rattle.std.specs.Prelude.{ℕ, ◌/◌, ◌%◌, Bool, not, ◌&&◌, ◌||◌, List, eqb, leb, length, get_or}
use Rattle.base_tests.specs.Tests.{ite, any_below, any_of, is_some}
use Rattle.def_kinds.specs.Reasons.{are_reasons}
use Rattle.def_transfer.specs.Accepted.{not_anumber, not_yet_handed_out}
use Rattle.lent_sets.specs.Rows.{row_word, set_at}
use Rattle.base_sets.specs.Members.{values_of}
use Rattle.def_transfer.specs.Merge.{Entries}
use Rattle.lent_values.specs.Cells.{value_at}

-- ---- a word of the values

-- whether a word has an entry: 0 in the three low bits says that it has none
-- "an entry of a state is, at a value number, its kind and reasons or their absence"
unfoldable pub has_entry : ℕ → Bool
has_entry x = not (eqb (x % 8) 0)

-- 3, "a code, flag, number, index or reason bit lies outside its range": an entry at a number that is none, or with 7, which is no kind, or with a bit that is no reason
-- a number is 1..511 or 512 + i with i in the list (`not_anumber`); what stands past 32 bits is no reason either
unfoldable pub word_out_of_range : ℕ → ℕ → ℕ → Bool
word_out_of_range n v x = has_entry x && (not_anumber n v || (eqb (x % 8) 7 || not (are_reasons (x / 8))))

-- 4, "an unused word not zero, or a fresh number not below next": an entry at a number not handed out yet, or a word without an entry that is not 0
-- where there is no entry the reasons' bits are unused
unfoldable pub word_unfit : ℕ → ℕ → ℕ → Bool
word_unfit next v x = ite (has_entry x) (not_yet_handed_out next v) (not (eqb x 0))

-- ---- a row of the sets

-- 3: a member that is no value number of the list
-- an identifier that is not defined has no members
unfoldable pub row_out_of_range : ℕ → List ℕ → ℕ → Bool
row_out_of_range n ss i = any_of (not_anumber n) (values_of (set_at ss i))

-- whether one of the 16 words of a row is not 0
-- they are all unused where the identifier is not defined
unfoldable pub row_in_use : List ℕ → ℕ → Bool
row_in_use ss i = any_below 16 (λ w. not (eqb (row_word ss i w) 0))

-- whether a row has a member that is a fresh number not below next
-- members from 512 on stand for identifiers and are not fresh
unfoldable pub row_too_new : ℕ → List ℕ → ℕ → Bool
row_too_new next ss i = any_of (not_yet_handed_out next) (values_of (set_at ss i))

-- 4: a defined row with such a member, or a row that is not defined and not zero
-- "an unused word not zero, or a fresh number not below next"
unfoldable pub row_unfit : ℕ → List ℕ → ℕ → Bool
row_unfit next ss i = ite (is_some (set_at ss i)) (row_too_new next ss i) (row_in_use ss i)

-- ---- the session's two words

-- 3: "next number 1..512", so that 512 says that all fresh numbers are handed out
unfoldable pub next_out_of_range : ℕ → Bool
next_out_of_range next = not (leb 1 next) || not (leb next 512)

-- 3: the first access is 0, or 1 + i with identifier i in the list: at most their count
-- so it is an index that lies in its range
unfoldable pub access_out_of_range : ℕ → ℕ → Bool
access_out_of_range n access = not (leb access n)

-- ---- all of it

-- how many identifiers are in the list: 16 words for each
-- the length of the sets follows their count
unfoldable pub identifiers : List ℕ → ℕ
identifiers ss = length ss / 16

-- 1, "a lent slice or image has the wrong length": not 1,024 words of values, not whole rows, or more than 512 of them
-- "identifiers are 0..511. Value numbers are 1..1023"
unfoldable pub wrong_lengths : List ℕ → List ℕ → Bool
wrong_lengths vs ss = not (eqb (length vs) 1024) || (not (eqb (length ss % 16) 0) || not (leb (length ss) 8192))

-- 3 of any of the 1,024 words of the values
-- "value numbers are 1..1023", and a word stands for 0 too
unfoldable pub values_out_of_range : ℕ → List ℕ → Bool
values_out_of_range n vs = any_below 1024 (λ v. word_out_of_range n v (get_or vs v 0))

-- 3 of the row of any of n identifiers
unfoldable pub rows_out_of_range : ℕ → List ℕ → Bool
rows_out_of_range n ss = any_below n (λ i. row_out_of_range n ss i)

-- 4 of any of the 1,024 words of the values
-- against the session's next number
unfoldable pub values_unfit : ℕ → List ℕ → Bool
values_unfit next vs = any_below 1024 (λ v. word_unfit next v (get_or vs v 0))

-- 4 of the row of any of n identifiers
-- against the session's next number
unfoldable pub rows_unfit : ℕ → ℕ → List ℕ → Bool
rows_unfit n next ss = any_below n (λ i. row_unfit next ss i)

-- 3 of the session or of anything in the state
-- a range is tested before anything is compared with next
unfoldable pub state_out_of_range : ℕ → ℕ → ℕ → List ℕ → List ℕ → Bool
state_out_of_range n next access vs ss = next_out_of_range next || (access_out_of_range n access || (values_out_of_range n vs || rows_out_of_range n ss))

-- 4 of anything in the state
-- "two entries of one key" and "wrong order" cannot stand in a dense table
unfoldable pub state_unfit : ℕ → ℕ → List ℕ → List ℕ → Bool
state_unfit n next vs ss = values_unfit next vs || rows_unfit n next ss

-- "order 1 to 5 over the whole input": the lowest class that anything earns, 0 if there is none
-- "a state is accepted if nothing in it earns 1 to 4"
unfoldable pub state_refusal : List ℕ → List ℕ → ℕ → ℕ → ℕ
state_refusal vs ss next access =
    ite (wrong_lengths vs ss) 1
    (ite (state_out_of_range (identifiers ss) next access vs ss) 3
    (ite (state_unfit (identifiers ss) next vs ss) 4 0))

-- the entries of a state that is held as two lists
-- the orders and merges of states are defined over entries, however they are held
abbrev pub entries : List ℕ → List ℕ → Entries
entries vs ss = record { value = value_at vs; set = set_at ss }
