-- A text written into a lent buffer, byte after byte, and the texts that code writes. Assumes nothing: these are definitions.
use Rattle.std.specs.Prelude.{ℕ, suc, List, [], ◌∷◌, ◌++◌, ◌≡◌, ltb, length, set, Option}
use Rattle.base_tests.specs.Tests.{ite}
use Rattle.lent_values.specs.Cells.{value_at}
use Rattle.lent_sets.specs.Rows.{set_at}
use Rattle.lent_context.specs.Lent.{effects_in}
use Rattle.lent_effects.specs.declared.AliasingEffect.{AliasingEffect as Head}
use Rattle.lent_effects.specs.Records.{effect_with}
use Rattle.def_image.specs.Listing.{ascii, blank, shown, line, effect_row, shown_lines}
use Rattle.lent_layout.specs.Layout.{output}
use Rattle.image_text.specs.declared.Text.{Text}

-- where the next byte goes, and the buffer
-- code has the one by value and the other lent
pub record Cursor : Type 0 where
  pub at : ℕ
  pub bytes : List ℕ

-- a cursor of its two parts
-- contracts speak of it at a function's entry and at its exit
abbrev pub cursor : ℕ → List ℕ → Cursor
cursor k bs = record { at = k; bytes = bs }

-- a text that code writes: its place, and its buffer as it is then
abbrev pub cursor_of : Text → Cursor
cursor_of t = cursor t.at t.buffer.now

-- its buffer is still the one that was lent
abbrev pub Kept : Text → Text → Type 0
Kept s t = s.buffer.ghost_name ≡ t.buffer.ghost_name

-- one byte more; past the end nothing changes
-- total, so that no length of a buffer asks for a proof
unfoldable pub put_byte : ℕ → Cursor → Cursor
put_byte x c = ite (ltb c.at (length c.bytes)) (cursor (suc c.at) (set c.bytes c.at x)) c

-- a text, one byte after the other
unfoldable pub put_all : List ℕ → Cursor → Cursor
put_all [] c = c
put_all (x ∷ xs) c = put_all xs (put_byte x c)

-- a blank and a number, or a dash for none
-- "Absent is `-`."
unfoldable pub column : Option ℕ → List ℕ
column x = blank ∷ shown x

-- several of them
-- a line is a word, its columns and a newline
unfoldable pub columns : List (Option ℕ) → List ℕ
columns [] = []
columns (x ∷ xs) = column x ++ columns xs

-- the line of an effect's head: captures are not shown
-- "E: code, source, destination, kind, reason, function or diagnostic."
unfoldable pub head_line : Head → List ℕ
head_line h = line (ascii "E") (effect_row (effect_with h []))

-- the listing of what a call leaves in the lent tables: the output list and its count, the entries, values, sets and the access
-- the definition's own text, at the lent tables
unfoldable pub lent_listing : List ℕ → ℕ → ℕ → List ℕ → List ℕ → ℕ → List ℕ
lent_listing os count entries vs ss access = shown_lines (effects_in output os 0 count) entries (value_at vs) (set_at ss) access
