-- What the search of the numbers below n finds is what `any_below` finds. Assumes nothing.
use Rattle.std.specs.Prelude.{ℕ, ◌+◌, ◌<◌, ◌≡◌, Bool, true, false, length, get_or}
use Rattle.std.specs.Bool.{MatchBool}
use Rattle.std.specs.List.{range_with_len, AllWithin, HoldsAt}
use Rattle.std.proofs.Common.{arith, sym, ap, ◌∙◌}
use Rattle.std.proofs.lemmas.List.FromFn.{length-range_with_len, get_or-range_with_len}
use Rattle.base_tests.specs.Tests.{any_below}
use Rattle.base_tests.proofs.Laws.Below.{any_yes, any_no}

module _ (n : ℕ) (f : ℕ → Bool) where
  at : (k : ℕ) → k < n → get_or (range_with_len 0 n) k 0 ≡ k
  at k h = get_or-range_with_len 0 n k 0 h ∙ (let z : 0 + k ≡ k = omega arith in z)

  pub any_is : (r : Bool) → MatchBool r ((k : ℕ) × (k < length (range_with_len 0 n)) × HoldsAt (λ x. f x ≡ true) (range_with_len 0 n) k) (AllWithin (λ x. f x ≡ false) (range_with_len 0 n) 0 (length (range_with_len 0 n))) → r ≡ any_below n f
  any_is true h = let e = length-range_with_len 0 n in let m = h.1 in let l : h.0 < n = omega arith in sym (any_yes n f h.0 l (sym (ap f (at h.0 l)) ∙ h.2 0))
  any_is false h = let e = length-range_with_len 0 n in sym (any_no n f (λ k l. sym (ap f (at k l)) ∙ h k 0 (omega arith) (omega arith)))
