use Prim.Native.Nat.{◌+◌, ◌-◌}
use native.Mathlib.Omega.{arith}
use lib.ListN.{drop}
use lib.Seq.{paste}
use mathlib.Core.Path.{◌≡◌, refl, sym, ap, ◌∙◌}
use Rattle.lent_order.proofs.Laws.Insert.{moves, none_left, moved_whole}
use Rattle.lent_order.proofs.move_up.Goals as goal

pub returns-then-to-xs : goal.returns-then-to-xs
returns-then-to-xs c =
    let from = c.args.t.base + c.args.p in
    let some : c.args.t.base + c.args.n - from ≡ c.args.n - c.args.p = omega arith in
    c.copy_within.ensures.after ∙ ap (paste c.args.xs.now (from + 1) (drop from c.args.xs.now)) some
    ∙ moved_whole c.args.t c.args.p (c.args.n - c.args.p) c.args.xs.now c.if-t-eq1.true (omega arith) (omega arith)

pub loop-k-preserved : goal.loop-k-preserved
loop-k-preserved c = c.loop-k.invariant ∙ moves _ _ _ _ _ _ _ _ c.loop-k-test.true refl c.field-x.ensures (omega arith) c.put_field.ensures

pub returns : goal.returns
returns c = sym (c.loop-k.invariant ∙ none_left _ _ _ _ c.loop-k-test.false)
