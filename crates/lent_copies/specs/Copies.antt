-- Words cleared, and runs of words copied. Assumes nothing: these are definitions.
use Rattle.std.specs.Prelude.{ℕ, zero, suc, List, get_or, set, replicate}

-- n words, each zero
-- "output list and scratch are zero"
unfoldable pub zeros : ℕ → List ℕ
zeros n = replicate n 0

-- a list with n elements of another, from `start` on, written from `at` on; past the other's end one of them is x
unfoldable pub copied_or : {A : Type 0} → A → List A → ℕ → ℕ → ℕ → List A → List A
copied_or x c start at zero ws = ws
copied_or x c start at (suc n) ws = copied_or x c (suc start) (suc at) n (set ws at (get_or c start x))

-- the same of words
abbrev pub copied : List ℕ → ℕ → ℕ → ℕ → List ℕ → List ℕ
copied c start at n ws = copied_or 0 c start at n ws
