-- A state that is full: what stands in its tables after they were filled. Assumes nothing: these are definitions.
use Rattle.std.specs.Prelude.{ℕ, ◌-◌, ◌*◌, ◌^◌, ◌<◌, ◌≡◌, ◌&&◌, List, ltb, length, Some}
use Rattle.base_tests.specs.Tests.{ite}
use Rattle.def_kinds.specs.declared.ValueKind.TheVariants.{Mutable}
use Rattle.def_kinds.specs.Values.{mk}
use Rattle.lent_values.specs.Cells.{value_at}
use Rattle.lent_sets.specs.Rows.{set_at}

-- the set of all values, 1 to 1,023
unfoldable pub all_values : ℕ
all_values = 2 ^ 1024 - 2

-- the value numbers below n have the entry Mutable {Other}, and the other words stay
-- word 0 is no value number
abbrev pub ValuesFilled : ℕ → List ℕ → List ℕ → Type 0
ValuesFilled n old new =
    (length new ≡ length old)
    × ((v : ℕ) → v < length old → value_at new v ≡ ite (ltb 0 v && ltb v n) (Some (mk Mutable 2048)) (value_at old v))

-- the identifiers below n have all values, and the other rows stay
abbrev pub SetsFilled : ℕ → List ℕ → List ℕ → Type 0
SetsFilled n old new =
    (length new ≡ length old)
    × ((m : ℕ) → length old ≡ 16 * m → (i : ℕ) → i < m → set_at new i ≡ ite (ltb i n) (Some all_values) (set_at old i))
