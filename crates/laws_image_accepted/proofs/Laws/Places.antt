-- The places of an accepted image are in their ranges, one by one and in runs. Assumes nothing.
use Rattle.std.specs.Prelude.{ℕ, ◌+◌, ◌<◌, ◌≡◌}
use Rattle.base_tests.specs.Tests.{All}
use Rattle.def_image.specs.Layout.{Image, word, identifiers, places, count_of}
use Rattle.def_image.specs.Refusals.{refusal_of_words}
use Rattle.def_image.specs.Decode.{place_at, places_from}
use Rattle.laws_image_accepted.proofs.Laws.Facts.{place_range, cell_small}
use Rattle.laws_image_accepted.proofs.Laws.Records.{Fine, all_from}

module _ (im : Image) (small : (i : ℕ) → word im i < 4294967296) (ok : refusal_of_words im ≡ 0) where
  -- a place of the image is in its ranges
  -- "places: identifier, `Effect` in declared order from 0, reactive 0 or 1, start, end"
  pub place_fine : (k : ℕ) → k < count_of im places → Fine (count_of im identifiers) (place_at im k)
  unfolding place_at
  place_fine k l =
      let r = place_range im ok k l in
      (r.0, r.1, r.2, cell_small im small places k 3, cell_small im small places k 4)

  -- so is each place of a run that does not pass their end
  pub run_fine : (first count : ℕ) → ((j : ℕ) → j < count → first + j < count_of im places) → All (Fine (count_of im identifiers)) (places_from im first count)
  unfolding places_from
  run_fine first count h = all_from (Fine (count_of im identifiers)) count first (place_at im) (λ j l. place_fine (first + j) (h j l))
