-- An order of records in a list of words: a table whose record j is one word, the number of the record that comes j-th. Assumes nothing: these are definitions.
use Rattle.std.specs.Prelude.{ℕ, zero, suc, ◌+◌, ◌-◌, List}
use Rattle.lent_tables.specs.declared.Table.{Table}
use Rattle.lent_tables.specs.Words.{field, put_field}

-- the record that comes j-th
unfoldable pub order_at : Table → List ℕ → ℕ → ℕ
order_at t c j = field t c j 0

-- the d places from p on moved up by one, from the last down
unfoldable pub moved_up : Table → ℕ → ℕ → List ℕ → List ℕ
moved_up t p zero c = c
moved_up t p (suc d) c = moved_up t p d (put_field t c (p + suc d) 0 (field t c (p + d) 0))

-- record r put in as the p-th of n + 1
unfoldable pub inserted : Table → ℕ → ℕ → ℕ → List ℕ → List ℕ
inserted t p r n c = put_field t (moved_up t p (n - p) c) p 0 r
