-- The lower class of two refusals (document 01, 'Refused calls'). Assumes nothing: these are definitions.
use Rattle.std.specs.Prelude.{ℕ, eqb, ltb}
use Rattle.base_tests.specs.Tests.{ite}

-- the lower class of two refusals, of which 0 is none
-- "order 1 to 5 over the whole input"
unfoldable pub lower : ℕ → ℕ → ℕ
lower a b = ite (eqb a 0) b (ite (eqb b 0) a (ite (ltb b a) b a))
