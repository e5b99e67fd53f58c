-- The sections of an image by their names. Assumes nothing: these are definitions.
use Rattle.std.specs.Prelude.{ℕ, Bool, List, [], ◌∷◌, ◌≡◌}
use Rattle.def_image.specs.Layout.{identifiers, values, pairs, places, functions, candidates}
use Rattle.image_class2.specs.declared.Section.{Section}
use Rattle.image_class2.specs.declared.Section.TheVariants.{Identifiers, Values, Pairs, Places, Functions, Candidates}

-- "then count and word offset of six sections": a section's number in that order
abbrev pub number_of : Section → ℕ
number_of Identifiers = identifiers
number_of Values = values
number_of Pairs = pairs
number_of Places = places
number_of Functions = functions
number_of Candidates = candidates

-- all of them, in that order
abbrev pub sections : List Section
sections = Identifiers ∷ Values ∷ Pairs ∷ Places ∷ Functions ∷ Candidates ∷ []

-- a search over numbers by a test: where the test answers as a definition does, the search answers what the definition's search does
abbrev pub SearchesAs : (ℕ → Bool → Type 0) → ((ℕ → Bool) → Bool) → Bool → Type 0
SearchesAs test found result = (f : ℕ → Bool) → ((k : ℕ) (b : Bool) → test k b → b ≡ f k) → result ≡ found f
