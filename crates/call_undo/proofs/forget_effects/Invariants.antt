use Prim.Native.Nat.{◌+◌, ◌-◌, ◌*◌}
use mathlib.Core.Path.{◌≡◌}
use mathlib.Core.List.{[]}
use lib.ListN.{length}
use Rattle.lent_copies.specs.Copies.{copied}
use Rattle.call_undo.proofs.forget_effects.Given as goal

abbrev pub invariant-loop-k : goal.invariant-loop-k
invariant-loop-k l =
    (length l.effects ≡ length l.initial.effects)
    × (l.at ≡ l.from * 98)
    × (l.n ≡ (l.to - l.from) * 98)
    × (copied [] l.initial.k (l.at + l.initial.k) (l.n - l.initial.k) l.initial.effects ≡ copied [] l.k (l.at + l.k) (l.n - l.k) l.effects)
