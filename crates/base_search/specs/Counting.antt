-- How many numbers pass a test. Assumes nothing: these are definitions.
use Rattle.std.specs.Prelude.{ℕ, zero, suc, ◌+◌, Bool}
use Rattle.base_tests.specs.Tests.{ite}

-- how many of the numbers below m
unfoldable pub how_many : (ℕ → Bool) → ℕ → ℕ
how_many p zero = 0
how_many p (suc m) = how_many p m + ite (p m) 1 0
