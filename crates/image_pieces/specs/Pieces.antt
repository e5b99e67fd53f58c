-- The pieces in which a listing is written, one after the other (document 01, 'The job image and its program'). Assumes nothing: these are definitions.
use Rattle.std.specs.Prelude.{ℕ, ◌+◌, ◌-◌, ◌*◌, ◌≤◌, ◌≡◌, List, [], ◌∷◌, ◌++◌, eqb, ltb, length, drop, Some, Result, Ok, Err}
use Rattle.base_tests.specs.Tests.{ite}
use Rattle.lent_values.specs.Cells.{value_at}
use Rattle.lent_sets.specs.Rows.{set_at}
use Rattle.lent_effects.specs.Records.{effect_in}
use Rattle.lent_layout.specs.Layout.{output}
use Rattle.def_image.specs.Listing.{ascii, line, lines_from, effect_row, value_line, set_line, undefined_identifier, refusal_line}
use Rattle.image_text.specs.Texts.{Cursor, cursor, put_all}
use Rattle.def_refusals.specs.declared.Refusal.{Refusal}
use Rattle.def_refusals.specs.Verdicts.{number_of}
use Rattle.image_pieces.specs.declared.Shown.{Shown}

-- ---- what is shown beside the tables

-- 0 or the number with which a job is refused, how many effects the output list holds, the walk entries,
-- and the first undefined identifier, as 0 or 1 + identifier
pub record Answer : Type 0 where
  pub refusal : ℕ
  pub count : ℕ
  pub entries : ℕ
  pub access : ℕ

-- a refusal shows its number
-- "With a number come zero effects and count."
abbrev pub refused_as : ℕ → Answer
refused_as n = record { refusal = n; count = 0; entries = 0; access = 0 }

-- the same of what the code answers: after a refusal all but the number is zero
abbrev pub answer_of : Result Shown Refusal → Answer
answer_of (Ok s) = record { refusal = 0; count = s.count; entries = s.entries; access = s.access }
answer_of (Err refusal) = record { refusal = number_of refusal; count = 0; entries = 0; access = 0 }

-- and of the same with the number in place of the refusal
abbrev pub answer_told : Result Shown ℕ → Answer
answer_told (Ok s) = record { refusal = 0; count = s.count; entries = s.entries; access = s.access }
answer_told (Err n) = refused_as n

-- ---- which lines make a piece

-- how many pieces there are: 0 the first line, 1 to 16 effects, 17 to 27 values, 28 to 539 an identifier each, 540 the last line
-- one that has nothing to show is empty
abbrev pub piece_count : ℕ
piece_count = 541

-- how many bytes suffice for each
-- a letter, an identifier of ten digits, 1,024 values of four, blanks and the end of the line: no other piece is longer
abbrev pub piece_bytes : ℕ
piece_bytes = 5135

-- the line of effect k of the output list, if there are more than k
-- "E: code, source, destination, kind, reason, function or diagnostic."
unfoldable pub effect_line : List ℕ → ℕ → ℕ → List ℕ
effect_line os count k = ite (ltb k count) (line (ascii "E") (effect_row (effect_in output os k))) []

-- the lines of 70 effects from number k on
-- "The output list has 1,120 records": sixteen such runs
unfoldable pub effect_run : List ℕ → ℕ → ℕ → List ℕ
effect_run os count k = lines_from 70 k (effect_line os count)

-- the lines of 93 values from number k on
-- "V: number, kind, reasons."; 1 to 1,023 are eleven such runs
unfoldable pub value_run : List ℕ → ℕ → List ℕ
value_run vs k = lines_from 93 k (λ v. value_line v (value_at vs v))

-- piece k of a listing: of what is shown, values, sets and output list
-- "OK: effects, walk entries.", then E, V and P, then "U: first undefined identifier."
unfoldable pub listed_piece : Answer → List ℕ → List ℕ → List ℕ → ℕ → List ℕ
listed_piece s vs ss os k =
    ite (eqb k 0) (line (ascii "OK") (Some s.count ∷ Some s.entries ∷ []))
    (ite (ltb k 17) (effect_run os s.count (70 * (k - 1)))
    (ite (ltb k 28) (value_run vs (93 * (k - 17) + 1))
    (ite (ltb k 540) (set_line (k - 28) (set_at ss (k - 28)))
    (ite (eqb k 540) (line (ascii "U") (undefined_identifier s.access ∷ [])) []))))

-- piece k of a refusal
-- "A refusal prints only `REFUSED n`."
unfoldable pub refused_piece : ℕ → ℕ → List ℕ
refused_piece n k = ite (eqb k 0) (refusal_line n) []

-- piece k, of the one or of the other
unfoldable pub piece : Answer → List ℕ → List ℕ → List ℕ → ℕ → List ℕ
piece s vs ss os k = ite (eqb s.refusal 0) (listed_piece s vs ss os k) (refused_piece s.refusal k)

-- all pieces, one after the other
unfoldable pub all_pieces : Answer → List ℕ → List ℕ → List ℕ → List ℕ
all_pieces s vs ss os = lines_from piece_count 0 (piece s vs ss os)

-- ---- in the words of a contract

-- a text is written into a buffer from its first byte on, as far as it fits, and the call answers where it ends; a piece's buffer suffices for it
pub record Writes (text : List ℕ) (before after : Cursor) : Type 0 where
  pub bytes : after ≡ put_all text before
  pub suffices : length text ≤ piece_bytes

-- the same of a lent buffer and of the answer
abbrev pub WritesInto : List ℕ → List ℕ → ℕ → List ℕ → Type 0
WritesInto old new r text = Writes text (cursor 0 old) (cursor r new)

-- the lines of the numbers from a on, up to b, are written, if there are at most so many
abbrev pub WritesLines : ℕ → (ℕ → List ℕ) → ℕ → ℕ → List ℕ → List ℕ → ℕ → Type 0
WritesLines most line a b old new r = b ≤ a + most → WritesInto old new r (lines_from (b - a) a line)

-- what stands in a buffer, and the answer: the whole text from its first byte on and how long it is, all else as it was
-- a buffer that is shorter than a piece's is left as it was, and the answer is 0
unfoldable pub puts : List ℕ → List ℕ → Cursor
puts text bs = ite (ltb (length bs) piece_bytes) (cursor 0 bs) (cursor (length text) (text ++ drop (length text) bs))
