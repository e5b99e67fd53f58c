-- How a session holds the identifier of its first undefined access. Assumes nothing: these are definitions.
use Rattle.std.specs.Prelude.{ℕ, suc, ltb}
use Rattle.base_tests.specs.Tests.{ite}

-- "1 + identifier": how a session holds it, of the 512 that there are
unfoldable pub access_of : ℕ → ℕ
access_of i = ite (ltb i 512) (suc i) 0
