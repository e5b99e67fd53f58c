-- A lent slice that a call leaves zero, in the words of a contract. Assumes nothing: these are definitions.
use Rattle.std.specs.Prelude.{ℕ, ◌≡◌, List, length}
use Rattle.lent_copies.specs.Copies.{zeros}

-- "output list and scratch are zero"
abbrev pub Cleared : List ℕ → List ℕ → Type 0
Cleared old new = new ≡ zeros (length old)
