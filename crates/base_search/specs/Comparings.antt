-- Comparisons with three answers: of numbers, one after the other, of lists. Assumes nothing: these are definitions.
use Rattle.std.specs.Prelude.{ℕ, List, [], ◌∷◌, ltb}
use Rattle.base_tests.specs.Tests.{ite}
use Rattle.std.specs.Ordering.{ordering_then}
use Rattle.std.specs.declared.cmp.Ordering.{Ordering}
use Rattle.std.specs.declared.cmp.Ordering.TheVariants.{Less, Equal, Greater}

unfoldable pub compare_numbers : ℕ → ℕ → Ordering
compare_numbers a b = ite (ltb a b) Less (ite (ltb b a) Greater Equal)

-- the first that is not Equal decides
abbrev pub first : Ordering → Ordering → Ordering
first p q = ordering_then p q

-- lists of numbers, one number after the other, a shorter one first
unfoldable pub compare_lists : List ℕ → List ℕ → Ordering
compare_lists [] [] = Equal
compare_lists [] (y ∷ ys) = Less
compare_lists (x ∷ xs) [] = Greater
compare_lists (x ∷ xs) (y ∷ ys) = first (compare_numbers x y) (compare_lists xs ys)
