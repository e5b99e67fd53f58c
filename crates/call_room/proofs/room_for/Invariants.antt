use Prim.Native.Nat.{◌/◌, ◌≤◌}
use mathlib.Core.Path.{◌≡◌, refl}
use lib.ListN.{length}
use Rattle.lent_layout.specs.Context.{held}
use Rattle.call_outcome.specs.Calls.{room_for}
use Rattle.call_room.proofs.Laws.Room.{left}
use Rattle.call_room.proofs.room_for.Given as goal

abbrev pub invariant-loop-k : goal.invariant-loop-k
invariant-loop-k l = (l.k ≤ l.n) × (l.total ≤ 2048) × (room_for (held l.context) l.candidates ≡ left (held l.context) l.candidates (length l.candidates / 98) refl l.total l.k)
