use Prim.Native.Nat.{◌-◌}
use mathlib.Core.Path.{◌≡◌}
use Rattle.lent_order.specs.Order.{moved_up}
use Rattle.lent_order.proofs.move_up.Given as goal

abbrev pub invariant-loop-k : goal.invariant-loop-k
invariant-loop-k l = moved_up l.t l.p (l.initial.k - l.p) l.initial.xs ≡ moved_up l.t l.p (l.k - l.p) l.xs
