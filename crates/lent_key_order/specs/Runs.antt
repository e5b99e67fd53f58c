-- Where a run of numbers has left its record. Assumes nothing: these are definitions.
use Rattle.std.specs.Prelude.{ℕ, ◌≤◌}
use Rattle.lent_tables.specs.declared.Table.{Table}

-- number k of a run whose numbers stand s words apart, and every one after it
abbrev pub Past : Table → ℕ → ℕ → Type 0
Past t s k = (1 ≤ s) × (t.width ≤ k)
