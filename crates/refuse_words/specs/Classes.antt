-- Which class of refusal a word, a record and unused words earn (document 01, 'Refused calls': "Order 1 to 5 over the whole input").
-- Every test gives the class that it earns, or 0; the whole earns the lowest class of any. Assumes nothing: these are definitions.
use Rattle.std.specs.Prelude.{ℕ, zero, suc, ◌+◌, ◌-◌, ◌*◌, ◌/◌, ◌%◌, Bool, not, List, [], ◌∷◌, eqb, ltb, get_or, length, Option, None, Some}
use Rattle.base_tests.specs.Tests.{ite}
use Rattle.lent_tables.specs.declared.Table.{Table}
use Rattle.lent_tables.specs.Words.{field, index}
use Rattle.refuse_class.specs.Class.{lower}

-- ---- classes

-- the lowest class that a test earns at any number below n
-- "order 1 to 5 over the whole input"
unfoldable pub lowest_below : ℕ → (ℕ → ℕ) → ℕ
lowest_below zero f = 0
lowest_below (suc n) f = lower (lowest_below n f) (f n)

-- a class where a test holds
-- each rule of document 01 is a test with its class
abbrev pub earns : ℕ → Bool → ℕ
earns n b = ite b n 0

-- a word with a limit has to lie below it; one without a limit has no use, and is zero
-- "3 a code, flag, number, index or reason bit lies outside its range", "4 .. an unused word not zero"
unfoldable pub word_class : Option ℕ → ℕ → ℕ
word_class None x = earns 4 (not (eqb x 0))
word_class (Some limit) x = earns 3 (not (ltb x limit))

-- ---- limits

-- a limit for a word that is used
-- a use is 0 or 1
abbrev pub used_if : ℕ → Option ℕ → Option ℕ
used_if zero l = None
used_if (suc u) l = l

-- any number is in range
-- spans hold any two words, and counts are tested as a class of their own
abbrev pub any : Option ℕ
any = Some 4294967296

-- what word w of a place has to lie below, for a number of identifiers
-- "places: identifier, `Effect` in declared order from 0, reactive 0 or 1, start, end"; the Rust has eight of `Effect`
unfoldable pub place_limit : ℕ → ℕ → Option ℕ
place_limit identifiers w = get_or (Some identifiers ∷ Some 8 ∷ Some 2 ∷ any ∷ any ∷ []) w None

-- the same of word w of a run of places of which n are used
-- words after the last place have no use
unfoldable pub run_limit : ℕ → ℕ → ℕ → Option ℕ
run_limit identifiers n w = ite (ltb (w / 5) n) (place_limit identifiers (w % 5)) None

-- ---- words, records, and what stands after them

-- n words of a list from one on that have no use
-- what stands after the last record
unfoldable pub stray_from : List ℕ → ℕ → ℕ → ℕ
stray_from c from n = lowest_below n (λ k. word_class None (get_or c (from + k) 0))

-- how many of n words from one on stand in the list
-- a loop over them ends there: past the end every word counts as zero
unfoldable pub lent_from : List ℕ → ℕ → ℕ → ℕ
lent_from c from n = ite (ltb from (length c)) (ite (ltb n (length c - from)) n (length c - from)) 0

-- the words of a table after its first n records
-- "those after the last .. are zero"
unfoldable pub stray_after : Table → List ℕ → ℕ → ℕ
stray_after t c n = stray_from c (index t n 0) ((t.count - n) * t.width)

-- the class of the first n words of a record, by a limit for each
unfoldable pub words_below : Table → List ℕ → (ℕ → Option ℕ) → ℕ → ℕ → ℕ
words_below t c limit i n = lowest_below n (λ w. word_class (limit w) (field t c i w))

-- the class of a record: of each of its words
unfoldable pub record_class : Table → List ℕ → (ℕ → Option ℕ) → ℕ → ℕ
record_class t c limit i = words_below t c limit i t.width
