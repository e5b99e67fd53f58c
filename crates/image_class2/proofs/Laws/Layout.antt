-- The places of records fit. Assumes nothing.
use Rattle.std.specs.Prelude.{ℕ, ◌*◌, ◌≤◌}
use Rattle.std.proofs.Common.{arith, mul-le-mul_left}

-- some records of a section, in words
-- "Multiply and add wide"
pub span_fits : (a w : ℕ) → a ≤ 8589934592 → w ≤ 8 → a * w ≤ 68719476736
span_fits a w h e = let p : a * w ≤ a * 8 = mul-le-mul_left a e in omega arith
