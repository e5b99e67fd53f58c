use mathlib.Core.Path.{◌≡◌}
use Prim.Native.Nat.{◌-◌, ◌+◌}
use lib.ListN.{length}
use Rattle.lent_copies.specs.Copies.{copied_or}
use Rattle.lent_copies.proofs.copy.Given as goal

abbrev pub invariant-loop-k : goal.invariant-loop-k
invariant-loop-k g l =
    (length l.to ≡ length l.initial.to)
    × (copied_or l.other l.from (l.start + l.initial.k) (l.at + l.initial.k) (l.n - l.initial.k) l.initial.to ≡ copied_or l.other l.from (l.start + l.k) (l.at + l.k) (l.n - l.k) l.to)
