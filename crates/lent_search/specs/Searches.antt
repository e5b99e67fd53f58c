-- What a search is given to compare by. Assumes nothing: these are definitions.
use Rattle.std.specs.Prelude.{ℕ, ◌<◌, ◌≡◌}
use Rattle.std.specs.declared.cmp.Ordering.{Ordering}

-- at each of n places a call can answer nothing but what c says there; `post` says what it can answer
abbrev pub Compares : (ℕ → Ordering → Type 0) → (ℕ → Ordering) → ℕ → Type 0
Compares post c n = (j : ℕ) (o : Ordering) → j < n → post j o → o ≡ c j
