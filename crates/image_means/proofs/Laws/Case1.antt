-- Case 1 of document 01 over lent tables: the bytes that `infer` writes are its listing to the letter. Assumes nothing.
use Rattle.std.specs.Prelude.{ℕ, zero, suc, ◌<◌, ◌≡◌, Bool, true, ◌&&◌, List, [], ◌∷◌, T, ltb, get_or}
use Rattle.std.proofs.Common.{arith, ltb→lt}
use Rattle.base_tests.proofs.Laws.Bool.{both_left, both_right}
use Rattle.def_image.specs.Layout.{bytes_of}
use Rattle.def_image.proofs.Laws.Case1.{image, output, case_1}
use Rattle.image_outcome.specs.Inferring.{inferred}
use Rattle.image_means.proofs.Laws.Inferred.{inferred_as}

-- whether each number is a byte
abbrev pub small : List ℕ → Bool
small [] = true
small (b ∷ bs) = ltb b 256 && small bs

pub small_at : (bs : List ℕ) → T (small bs) → (k : ℕ) → get_or bs k 0 < 256
small_at [] t k = nothing k
  where
    nothing : (k : ℕ) → get_or [] k 0 < 256
    nothing zero = omega arith
    nothing (suc k) = omega arith
small_at (b ∷ bs) t zero = ltb→lt b 256 (both_left (ltb b 256) (small bs) t)
small_at (b ∷ bs) t (suc k) = small_at bs (both_right (ltb b 256) (small bs) t) k

pub case_1_inferred : inferred (bytes_of image) ≡ output
unfolding bytes_of
case_1_inferred = inferred_as (bytes_of image) output (small_at (bytes_of image) tt) case_1
