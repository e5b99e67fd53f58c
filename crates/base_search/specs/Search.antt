-- A search by halves along an order, total on any comparison. Assumes nothing: these are definitions.
use Rattle.std.specs.Prelude.{ℕ, zero, suc, ◌+◌, ◌-◌, ◌/◌, ltb, Result, Ok, Err}
use Rattle.base_tests.specs.Tests.{ite}
-- how what is sought compares with what stands there; where a search ends: at a place of the order, or before one
use Rattle.std.specs.declared.cmp.Ordering.{Ordering}
use Rattle.std.specs.declared.cmp.Ordering.TheVariants.{Less, Equal, Greater}

-- the place in the middle
abbrev pub middle : ℕ → ℕ → ℕ
middle lo hi = lo + (hi - lo) / 2

-- what a look at the middle leads to
abbrev pub turn : Ordering → Result ℕ ℕ → Result ℕ ℕ → Result ℕ ℕ → Result ℕ ℕ
turn Less l s m = l
turn Equal l s m = s
turn Greater l s m = m

-- the search of places lo to before hi, in at most d turns; `cmp j` compares what is sought with what stands at place j
unfoldable pub halving : ℕ → (ℕ → Ordering) → ℕ → ℕ → Result ℕ ℕ
halving zero cmp lo hi = Err lo
halving (suc d) cmp lo hi =
    ite (ltb lo hi) (turn (cmp (middle lo hi)) (halving d cmp lo (middle lo hi)) (Ok (middle lo hi)) (halving d cmp (suc (middle lo hi)) hi)) (Err lo)

-- the whole order, searched in as many turns as it has places
abbrev pub along : (ℕ → Ordering) → ℕ → Result ℕ ℕ
along cmp n = halving n cmp 0 n
