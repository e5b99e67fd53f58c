use mathlib.Core.Path.{◌≡◌}
use Prim.Native.Nat.{◌-◌}
use lib.ListN.{length}
use Rattle.lent_context.specs.Lent.{read_places}
use Rattle.lent_context.proofs.read_places.Given as goal

abbrev pub invariant-loop-k : goal.invariant-loop-k
invariant-loop-k l =
    (length l.contexts ≡ length l.initial.contexts)
    × (read_places l.f l.i l.initial.k (l.n - l.initial.k) l.initial.contexts ≡ read_places l.f l.i l.k (l.n - l.k) l.contexts)
