-- A bit for each identifier: whether its place was initialized in the instruction under way. Assumes nothing: these are definitions.
use Rattle.std.specs.Prelude.{ℕ, ◌/◌, ◌%◌, ◌^◌, Bool, false, [], ◌∷◌, eqb, ltb, get_or, set}
use Rattle.std.specs.Int.Bits.{bit_or}
use Rattle.base_tests.specs.Tests.{ite}
use Rattle.lent_work.specs.declared.Marks.{Marks}

-- no identifier is marked
abbrev pub no_marks : Marks
no_marks = record { words = 0 ∷ 0 ∷ 0 ∷ 0 ∷ 0 ∷ 0 ∷ 0 ∷ 0 ∷ [] }

-- whether identifier i is marked
-- bit i % 64 of word i / 64
unfoldable pub is_marked : Marks → ℕ → Bool
is_marked m i = ite (ltb i 512) (eqb (get_or m.words (i / 64) 0 / 2 ^ (i % 64) % 2) 1) false

-- the marks with identifier i
-- there is no identifier past 511
unfoldable pub marked : Marks → ℕ → Marks
marked m i = ite (ltb i 512) (record { words = set m.words (i / 64) (bit_or (get_or m.words (i / 64) 0) (2 ^ (i % 64))) }) m
