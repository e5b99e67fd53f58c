-- How many of the numbers below m: a sum of ones, and no more than m. Assumes nothing.
use Rattle.std.specs.Prelude.{ℕ, zero, suc, ◌+◌, ◌≤◌, ◌≡◌, refl, Bool, true, false, map}
use Rattle.std.specs.List.{range_with_len, sum_by}
use Rattle.std.proofs.Common.{arith, ap, ◌∙◌}
use Rattle.std.proofs.lemmas.List.FromFn.{sum_by-map-range_with_len_more}
use Rattle.base_tests.specs.Tests.{ite}
use Rattle.base_search.specs.Counting.{how_many}

module _ (p : ℕ → Bool) where
  one : (b : Bool) → ite b 1 0 ≤ 1
  one true = omega arith
  one false = omega arith

  pub how_many_le : (m : ℕ) → how_many p m ≤ m
  unfolding how_many
  how_many_le zero = omega arith
  how_many_le (suc m) = let h = how_many_le m in let k = one (p m) in omega arith

  pub counted : (m : ℕ) → sum_by (λ x. x) (map (λ k. ite (p k) 1 0) (range_with_len 0 m)) ≡ how_many p m
  unfolding how_many
  counted zero = refl
  counted (suc m) =
      ap (λ (n : ℕ). sum_by (λ x. x) (map (λ k. ite (p k) 1 0) (range_with_len 0 n))) (let z : suc m ≡ m + 1 = omega arith in z)
      ∙ sum_by-map-range_with_len_more (λ x. x) (λ k. ite (p k) 1 0) 0 m m (omega arith)
      ∙ ap (λ (x : ℕ). x + ite (p m) 1 0) (counted m)
