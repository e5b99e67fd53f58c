use Prim.Native.Nat.{◌+◌, ◌-◌}
use mathlib.Core.Path.{◌≡◌, refl, ap, ap₂, ◌∙◌}
use native.Mathlib.Omega.{arith}
use Rattle.std.proofs.Common.{drop-drop}
use Rattle.std.specs.Prelude.{◌++◌, take, drop}
use Rattle.lent_copies.proofs.Laws.Copy.{copy_more, copy_end, copy_whole}
use Rattle.lent_copies.proofs.copy.Goals as goal

pub returns-then-at-n : goal.returns-then-at-n
returns-then-at-n g c =
    let whole : c.args.at + (c.args.at + c.args.n - c.args.at) ≡ c.args.at + c.args.n = omega arith in
    let some : c.args.start + c.args.n - c.args.start ≡ c.args.n = omega arith in
    ap₂ (λ x y. take c.args.at c.args.to.now ++ (x ++ y)) (c.copy_from_slice.ensures.after ∙ ap (λ k. take k (drop c.args.start c.args.from.now)) some)
    (drop-drop (c.args.at + c.args.n - c.args.at) c.args.at c.args.to.now ∙ ap (λ k. drop k c.args.to.now) whole)
    ∙ copy_whole c.args.other c.args.from.now c.args.start c.args.at c.args.n c.args.to.now c.if-start-n.true c.if-at-n.true

pub loop-k-init : goal.loop-k-init
loop-k-init g c = (refl, refl)

pub loop-k-preserved : goal.loop-k-preserved
loop-k-preserved g c =
    (c.set.auto.xs ∙ c.loop-k.invariant.0, c.loop-k.invariant.1 ∙ copy_more _ _ _ _ _ _ _ _ _ _ _ c.loop-k-test.true refl refl c.get_or-x.ensures c.set.ensures)

pub returns : goal.returns
returns g c = copy_end _ _ _ _ _ _ _ _ c.loop-k-test.false c.loop-k.invariant.1
