-- The words of an image in a slice of any length. Assumes nothing: these are definitions.
use Rattle.std.specs.Prelude.{ℕ, List}
use Rattle.def_image.specs.Layout.{word, words_of}
use Rattle.def_image.specs.Decode.{list_from}

-- the first n words of an image; past its end stands 0
-- "Little-endian u32 words"
unfoldable pub loaded : List ℕ → ℕ → List ℕ
loaded bytes n = list_from n 0 (word (words_of bytes))
