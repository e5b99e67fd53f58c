-- Rows of 1,024 bits in a list of words: row i is the words 16 i .. 16 i + 15, read as one number, lowest word first.
-- Bit 0 of a row says that the identifier is defined, bit v that value v is in its set. Assumes nothing: these are definitions.
use Rattle.std.specs.Prelude.{ℕ, zero, suc, ◌+◌, ◌-◌, ◌*◌, ◌/◌, ◌%◌, ◌^◌, List, get_or, set, Option, None, Some}
use Rattle.std.specs.Int.Bits.{bit_or}
use Rattle.base_sets.specs.Members.{digits_from}

-- ---- bits and counted loops

-- bit k of x, 0 or 1
-- a quotient and a remainder, since shifts and `% 2` of the code are just these
unfoldable pub bit : ℕ → ℕ → ℕ
bit x k = x / 2 ^ k % 2

-- yes where b is not 0, else no
-- so that a definition branches on a bit as it stands
abbrev pub pick {ℓ} : {A : Type ℓ} → ℕ → A → A → A
pick zero yes' no' = no'
pick (suc b) yes' no' = yes'

-- the first number from v on at which f is not 0, of n numbers looked at; v + n for none
-- what a loop looks for that goes from one member to the next
unfoldable pub seek : (ℕ → ℕ) → ℕ → ℕ → ℕ
seek f zero v = v
seek f (suc n) v = pick (f v) v (seek f n (suc v))

-- g is done to the state at each of n numbers from v on, in order
unfoldable pub upto : {S : Type 0} → (ℕ → S → S) → ℕ → ℕ → S → S
upto g zero v s = s
upto g (suc n) v s = upto g n (suc v) (g v s)

-- ---- words of a row

-- word w of row i, 0 past the end of the list
-- total, so that no index asks for a proof
unfoldable pub row_word : List ℕ → ℕ → ℕ → ℕ
row_word rs i w = get_or rs (i * 16 + w) 0

-- word w of row i becomes x; past the end of the list nothing changes
unfoldable pub set_word : List ℕ → ℕ → ℕ → ℕ → List ℕ
set_word rs i w x = set rs (i * 16 + w) x

-- n words from `at` on, lowest first, as one number
-- a set is one number to the transfer, so a row is read as one
unfoldable pub number : ℕ → List ℕ → ℕ → ℕ
number zero rs at = 0
number (suc n) rs at = number n rs (suc at) * 2 ^ 64 + get_or rs at 0 % 2 ^ 64

-- row i as one number
-- its bit 0 says whether the row is defined
unfoldable pub row_number : List ℕ → ℕ → ℕ
row_number rs i = number 16 rs (i * 16)

-- word w of a number
-- the inverse of `number`
unfoldable pub word_of : ℕ → ℕ → ℕ
word_of n w = n / 2 ^ (64 * w) % 2 ^ 64

-- ---- sets of a row

-- the set of a row whose lowest bit is d and whose number is n: none where d is 0, else n without bit 0
-- a function of d, so that a law goes by cases on it
abbrev pub marked : ℕ → ℕ → Option ℕ
marked zero n = None
marked (suc d) n = Some (n - 1)

-- the set of identifier i, none where it is not defined
-- the table of sets that the transfer asks for
unfoldable pub set_at : List ℕ → ℕ → Option ℕ
set_at rs i = marked (row_number rs i % 2) (row_number rs i)

-- word w of row i becomes that of n
-- a turn of the loop that stores a row
unfoldable pub put_word : ℕ → ℕ → ℕ → List ℕ → List ℕ
put_word i n w rs = set_word rs i w (word_of n w)

-- row i becomes n, cut to 1,024 bits
-- 16 words, lowest first
unfoldable pub put_row : List ℕ → ℕ → ℕ → List ℕ
put_row rs i n = upto (put_word i n) 16 0 rs

-- identifier i is defined, with the set s, cut to the values 1 .. 1,023
-- bit 0 is set whatever s says of it
unfoldable pub put_set : List ℕ → ℕ → ℕ → List ℕ
put_set rs i s = put_row rs i (bit_or s 1)

-- what `copy_set` does with the set that it found
-- an identifier that is not defined gives nothing
abbrev pub copied : List ℕ → ℕ → Option ℕ → List ℕ
copied rs into None = rs
copied rs into (Some s) = put_set rs into s

-- `into` gets the set of `from`, where that is defined
-- the copy of `assign`
unfoldable pub copy_set : List ℕ → ℕ → ℕ → List ℕ
copy_set rs into from = copied rs into (set_at rs from)

-- what `append_set` does with the two sets that it found
-- unless both are there nothing changes
abbrev pub appended : List ℕ → ℕ → Option ℕ → Option ℕ → List ℕ
appended rs place None new = rs
appended rs place (Some s) None = rs
appended rs place (Some s) (Some t) = put_set rs place (bit_or s t)

-- `place` gets the values of `value` too, where both are defined
-- the union of `append_alias`
unfoldable pub append_set : List ℕ → ℕ → ℕ → List ℕ
append_set rs place value = appended rs place (set_at rs place) (set_at rs value)

-- ---- members of a row

-- 1 where v is in row i, else 0
-- bit 0 is no member: loops start at 1
unfoldable pub member : List ℕ → ℕ → ℕ → ℕ
member rs i v = bit (row_word rs i (v / 64)) (v % 64)

-- the lowest member of row i from v on, below 1,024; 1,024 for none, and v itself from there on
-- a loop goes by it from one member to the next
unfoldable pub next_member : List ℕ → ℕ → ℕ → ℕ
next_member rs i v = seek (member rs i) (1024 - v) v

-- the members of a set from v on
-- what a loop over the members has left to do
unfoldable pub left : ℕ → ℕ → List ℕ
left s v = digits_from (s / 2 ^ v) v (s / 2 ^ v)

-- ---- sets in hand: 16 words that gather a union

-- row i without the bit that says that it is defined
unfoldable pub even_row : List ℕ → ℕ → ℕ
even_row rs i = row_number rs i - row_number rs i % 2

-- word w of row i, without that bit
-- what a row adds to a union, word by word
abbrev pub member_word : List ℕ → ℕ → ℕ → ℕ
member_word rs i zero = row_word rs i 0 - row_word rs i 0 % 2
member_word rs i (suc w) = row_word rs i (suc w)

-- word w of a set in hand gets that of s too
unfoldable pub or_word : ℕ → ℕ → List ℕ → List ℕ
or_word s w acc = set acc w (bit_or (get_or acc w 0) (word_of s w))

-- a set in hand gets the values of s too
-- 16 words, lowest first; what lies past the end of the list is lost
unfoldable pub add_set : List ℕ → ℕ → List ℕ
add_set acc s = upto (or_word s) 16 0 acc
