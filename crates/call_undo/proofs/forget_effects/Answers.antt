-- `call_undo::forget_effects` meets its contract: one loop, a word at each turn. Assumes nothing.
use mathlib.Core.Path.{refl, ◌∙◌}
use Rattle.call_undo.proofs.Laws.Save.{forgets_none, forgets_more, forgets_end}
use Rattle.call_undo.proofs.forget_effects.Goals as goal

pub returns-then-to-from : goal.returns-then-to-from
returns-then-to-from c = forgets_none _ _ _ c.if-to-from.true

pub loop-k-init : goal.loop-k-init
loop-k-init c = (refl, refl, refl, refl)

pub loop-k-preserved : goal.loop-k-preserved
loop-k-preserved c =
    (c.set.auto.xs ∙ c.loop-k.invariant.0, c.loop-k.invariant.1, c.loop-k.invariant.2, c.loop-k.invariant.3 ∙ forgets_more _ _ _ _ _ c.loop-k-test.true c.set.ensures)

pub returns : goal.returns
returns c = forgets_end _ _ _ _ _ _ _ c.loop-k.invariant.1 c.loop-k.invariant.2 c.loop-k-test.false c.loop-k.invariant.3
