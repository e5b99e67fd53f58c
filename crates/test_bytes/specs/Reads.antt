-- What is read from the bytes of a file and from a text, and how differences are counted. Assumes nothing: these are definitions.
use Rattle.std.specs.Prelude.{ℕ, ◌+◌, ◌<◌, ◌≡◌, List, Bool, true, false, ltb, length, take, min}
use Rattle.std.specs.Str.Parse.{IsNumeral, digits_value, without_leading_plus}
use lib.ListN.{replicate}
use Rattle.std.specs.Int.{w32, from_le_bytes}
use Rattle.base_tests.specs.Tests.{ite}

-- one difference more, as long as a word can count it, where a test fails
abbrev pub counted : Bool → ℕ → ℕ
counted ok n = ite ok n (min (n + 1) 4294967295)

-- the first n bytes, or n times 0 where there are not so many
abbrev pub front : ℕ → List ℕ → List ℕ
front n xs = ite (ltb (length xs) n) (replicate n 0) (take n xs)

-- whether there are n bytes
abbrev pub has : ℕ → List ℕ → Bool
has n xs = ite (ltb (length xs) n) false true

-- the first word, its lowest byte first
abbrev pub word : List ℕ → ℕ
word xs = from_le_bytes w32 (front 4 xs)

-- a text writes a number that a word holds: decimal digits, after a plus or not
abbrev pub WritesWord : List ℕ → Type 0
WritesWord text = IsNumeral 10 (without_leading_plus text) × (digits_value 10 (without_leading_plus text) < 4294967296)

-- n is the number that a text writes, or 0 where it writes none that a word holds
abbrev pub Written : List ℕ → ℕ → Type 0
Written text n = (WritesWord text → n ≡ digits_value 10 (without_leading_plus text)) × ((WritesWord text → ⊥) → n ≡ 0)
