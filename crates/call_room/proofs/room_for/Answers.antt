use native.Mathlib.Omega.{arith}
use Prim.Native.Nat.{◌+◌, ◌/◌}
use mathlib.Core.Path.{refl}
use lib.ListN.{length}
use Rattle.lent_layout.specs.Context.{held}
use Rattle.call_room.proofs.Laws.Room.{room_starts, room_more, room_ends, most_limit}
use Rattle.call_room.proofs.room_for.Goals as goal

pub loop-k-init : goal.loop-k-init
loop-k-init c = (omega arith, most_limit _ (c.args.context.now.effect_count + 0) c.capped-total.ensures, room_starts (held c.args.context.now) c.args.candidates.now (length c.args.candidates.now / 98) refl _ c.capped-total.ensures)

pub loop-k-preserved : goal.loop-k-preserved
loop-k-preserved c =
    (omega arith, most_limit _ (c.loop-k.total + c.need_of.result) c.capped-total-in-loop-k.ensures, room_more (held c.args.context.now) c.args.candidates.now (length c.args.candidates.now / 98) refl _ _ _ _ c.loop-k-test.true c.need_of.ensures c.capped-total-in-loop-k.ensures c.loop-k.invariant.2)

pub returns : goal.returns
returns c = room_ends (held c.args.context.now) c.args.candidates.now (length c.args.candidates.now / 98) refl _ _ c.loop-k-test.false c.loop-k.invariant.1 c.loop-k.invariant.2
