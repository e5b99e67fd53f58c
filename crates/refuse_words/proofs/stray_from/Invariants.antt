use mathlib.Core.Path.{◌≡◌}
use Prim.Native.Nat.{◌≤◌}
use Rattle.refuse_words.specs.Classes.{stray_from}
use Rattle.refuse_words.proofs.Laws.Stray.{bit_class}
use Rattle.refuse_words.proofs.stray_from.Given as goal

abbrev pub invariant-loop-k : goal.invariant-loop-k
invariant-loop-k l = (l.k ≤ l.m) × (bit_class l.all ≡ stray_from l.xs l.from l.k)
