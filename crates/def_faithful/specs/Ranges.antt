-- The ranges of document 01 that a table of words needs: value numbers, fresh numbers, sets, reasons, captures. These are definitions.
use Rattle.std.specs.Prelude.{ℕ, ◌%◌, ◌^◌, ◌≤◌, ◌<◌, ◌≡◌, length, Option, None, Some}
use lib.Dec.{leb}
use Rattle.def_kinds.specs.declared.AbstractValue.{AbstractValue}
use Rattle.def_effects.specs.Keys.{EffectKey}

-- a value number
-- "1..1023"
pub record Number (v : ℕ) : Type 0 where
  pub low : 1 ≤ v
  pub high : v < 1024

-- a fresh number
-- "1..511"
pub record Fresh (v : ℕ) : Type 0 where
  pub low : 1 ≤ v
  pub high : v < 512

-- a set of value numbers
-- 1,024 bits, and no bit 0
pub record IsSet (s : ℕ) : Type 0 where
  pub small : s < 2 ^ 1024
  pub even : s % 2 ≡ 0

-- what is read of a table of sets
abbrev pub Pointing : Option ℕ → Type 0
Pointing None = Unit {0}
Pointing (Some s) = IsSet s

-- reasons are a word of 32 bits
-- `single` makes no others, and joins keep it
pub record Reasoned (a : AbstractValue) : Type 0 where
  pub word : a.reason < 4294967296

-- what is read of a table of values
abbrev pub Entered : Option AbstractValue → Type 0
Entered None = Unit {0}
Entered (Some a) = Reasoned a

-- "at most 16 captures"
-- of a key, so that the effect that interning hands out has it too
abbrev pub Short : EffectKey → Type 0
Short k = lib.Dec.T (leb (length k.captures) 16)
