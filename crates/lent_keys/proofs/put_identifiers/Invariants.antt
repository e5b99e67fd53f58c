use Prim.Native.Nat.{◌≤◌}
use mathlib.Core.Path.{◌≡◌}
use lib.ListN.{length}
use Rattle.lent_keys.specs.KeyRecords.{listed, put_numbers}
use Rattle.lent_keys.proofs.Laws.Number.{listed_from}
use Rattle.lent_keys.proofs.put_identifiers.Given as goal

abbrev pub invariant-loop-k : goal.invariant-loop-k
invariant-loop-k l = (l.k ≤ l.run.count) × (put_numbers l.t l.xs l.i 12 1 l.k (listed_from l.run l.k) ≡ put_numbers l.t l.initial.xs l.i 12 1 0 (listed l.run)) × (length l.xs ≡ length l.initial.xs)
