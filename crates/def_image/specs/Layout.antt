-- The job image: its words, header, sections and records (document 01, 'The job image and its program').
-- Reading is total: past the end stands 0. Assumes nothing: these are definitions.
use Rattle.std.specs.Prelude.{ℕ, zero, suc, ◌+◌, ◌*◌, ◌/◌, ◌%◌, Bool, not, ◌||◌, List, [], ◌∷◌, eqb, ltb, get_or, length}

-- ---- bytes and words

-- "from 68 to 65,536 bytes and a multiple of 4 (else 1)"
unfoldable pub wrong_length : List ℕ → Bool
wrong_length bytes = ltb (length bytes) 68 || (ltb 65536 (length bytes) || not (eqb (length bytes % 4) 0))

-- an image is its words
abbrev pub Image : Type 0
Image = List ℕ

-- "Little-endian u32 words"; fewer than four bytes at the end are no word, and such a length is refused
unfoldable pub words_of : List ℕ → Image
words_of [] = []
words_of (a ∷ []) = []
words_of (a ∷ b ∷ []) = []
words_of (a ∷ b ∷ c ∷ []) = []
words_of (a ∷ b ∷ c ∷ d ∷ bytes) = (a + 256 * (b + 256 * (c + 256 * d))) ∷ words_of bytes

-- and back: the four bytes of each word, lowest first
unfoldable pub bytes_of : Image → List ℕ
bytes_of [] = []
bytes_of (w ∷ ws) = w % 256 ∷ w / 256 % 256 ∷ w / 65536 % 256 ∷ w / 16777216 ∷ bytes_of ws

unfoldable pub word : Image → ℕ → ℕ
word im i = get_or im i 0

-- ---- "Header of 17": five words, then count and offset of each section

abbrev pub header_words : ℕ
header_words = 17

abbrev pub edition : Image → ℕ
edition im = word im 0

-- "options (bit 0 .., bit 1 ..)"
abbrev pub options : Image → ℕ
options im = word im 1

-- "next number 1..512"
abbrev pub next : Image → ℕ
next im = word im 2

-- "lvalue's place index"
abbrev pub lvalue : Image → ℕ
lvalue im = word im 3

-- "own function + 1 or 0"
abbrev pub own : Image → ℕ
own im = word im 4

-- ---- "then count and word offset of six sections": a section is its number in that order

abbrev pub identifiers : ℕ
identifiers = 0

abbrev pub values : ℕ
values = 1

abbrev pub pairs : ℕ
pairs = 2

abbrev pub places : ℕ
places = 3

abbrev pub functions : ℕ
functions = 4

abbrev pub candidates : ℕ
candidates = 5

abbrev pub section_count : ℕ
section_count = 6

-- the words of a record, as the six lists of the paper have them
unfoldable pub size_of : ℕ → ℕ
size_of s = get_or (4 ∷ 3 ∷ 2 ∷ 5 ∷ 5 ∷ 8 ∷ []) s 0

unfoldable pub count_of : Image → ℕ → ℕ
count_of im s = word im (5 + 2 * s)

unfoldable pub offset_of : Image → ℕ → ℕ
offset_of im s = word im (6 + 2 * s)

-- where a section ends, and where it has to begin: "which follow in order without gaps"
unfoldable pub end_of : Image → ℕ → ℕ
end_of im s = offset_of im s + count_of im s * size_of s

unfoldable pub start_of : Image → ℕ → ℕ
start_of im zero = header_words
start_of im (suc s) = end_of im s

-- word j of record k of a section
unfoldable pub cell : Image → ℕ → ℕ → ℕ → ℕ
cell im s k j = word im (offset_of im s + k * size_of s + j)

-- ---- the words of a record by name

module _ (im : Image) (k : ℕ) where
  -- "identifiers ..: flags (1 ref, 2 hoisted), name 1..512 or 0, access start, end"
  abbrev pub identifier_flags : ℕ
  identifier_flags = cell im identifiers k 0

  abbrev pub identifier_name : ℕ
  identifier_name = cell im identifiers k 1

  abbrev pub access_start : ℕ
  access_start = cell im identifiers k 2

  abbrev pub access_end : ℕ
  access_end = cell im identifiers k 3

  -- "values: number, kind, reasons"
  abbrev pub value_number : ℕ
  value_number = cell im values k 0

  abbrev pub value_kind : ℕ
  value_kind = cell im values k 1

  abbrev pub value_reasons : ℕ
  value_reasons = cell im values k 2

  -- "pairs: identifier, value"
  abbrev pub pair_identifier : ℕ
  pair_identifier = cell im pairs k 0

  abbrev pub pair_value : ℕ
  pair_value = cell im pairs k 1

  -- "places: identifier, `Effect` in declared order from 0, reactive 0 or 1, start, end"
  abbrev pub place_identifier : ℕ
  place_identifier = cell im places k 0

  abbrev pub place_effect : ℕ
  place_effect = cell im places k 1

  abbrev pub place_reactive : ℕ
  place_reactive = cell im places k 2

  abbrev pub place_start : ℕ
  place_start = cell im places k 3

  abbrev pub place_end : ℕ
  place_end = cell im places k 4

  -- "functions ..: flags (1 effects known, 2 tracked side effect ..), first and count of context places .., first and count of places mutated inside"
  abbrev pub function_flags : ℕ
  function_flags = cell im functions k 0

  abbrev pub context_first : ℕ
  context_first = cell im functions k 1

  abbrev pub context_count : ℕ
  context_count = cell im functions k 2

  abbrev pub inside_first : ℕ
  inside_first = cell im functions k 3

  abbrev pub inside_count : ℕ
  inside_count = cell im functions k 4

  -- "candidates ..: code .., first place, second place .., kind or mutation reason or diagnostic, reason, function, first and count of captures"
  abbrev pub code : ℕ
  code = cell im candidates k 0

  abbrev pub first_place : ℕ
  first_place = cell im candidates k 1

  abbrev pub second_place : ℕ
  second_place = cell im candidates k 2

  abbrev pub detail : ℕ
  detail = cell im candidates k 3

  abbrev pub reason : ℕ
  reason = cell im candidates k 4

  abbrev pub function : ℕ
  function = cell im candidates k 5

  abbrev pub captures_first : ℕ
  captures_first = cell im candidates k 6

  abbrev pub captures_count : ℕ
  captures_count = cell im candidates k 7

-- ---- "code (order of `AliasingEffect`, Freeze 0, Apply 12, Render 17)": those that the tests ask for

abbrev pub code_count : ℕ
code_count = 18

abbrev pub Mutate : ℕ
Mutate = 1

abbrev pub Create : ℕ
Create = 9

abbrev pub Apply : ℕ
Apply = 12

abbrev pub CreateFunction : ℕ
CreateFunction = 13

-- the flags of a word: bit 0 is 1, bit 1 is 2
abbrev pub flag_one : ℕ → Bool
flag_one w = eqb (w % 2) 1

abbrev pub flag_two : ℕ → Bool
flag_two w = ltb 1 (w % 4)
