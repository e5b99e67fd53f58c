-- The words of an effect's record before its captures, part by part: a place, and what stands between the places and the captures.
-- Assumes nothing: these are definitions.
use Rattle.std.specs.Prelude.{ℕ, ◌+◌, List}
use Rattle.lent_tables.specs.declared.Table.{Table}
use Rattle.lent_tables.specs.Words.{field}
use Rattle.refuse_words.specs.Classes.{word_class, used_if, place_limit}
use Rattle.refuse_instruction.specs.EffectClasses.{middle_limit}

-- the class of word k of a place that begins at word `first` of record i; u is 1 where it is used, else 0
unfoldable pub place_word : Table → List ℕ → ℕ → ℕ → ℕ → ℕ → ℕ → ℕ
place_word t xs i first u identifiers k = word_class (used_if u (place_limit identifiers k)) (field t xs i (first + k))

-- the class of word k of those after both places
unfoldable pub middle_word : Table → List ℕ → ℕ → ℕ → ℕ → ℕ → ℕ → ℕ
middle_word t xs i functions diagnostics code k = word_class (middle_limit functions diagnostics code k) (field t xs i (11 + k))
