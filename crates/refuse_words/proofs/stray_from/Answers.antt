use mathlib.Core.Path.{◌∙◌, refl}
use native.Mathlib.Omega.{arith}
use Rattle.refuse_words.proofs.Laws.Stray.{lent_in, stray_start, stray_more, stray_end}
use Rattle.refuse_words.proofs.stray_from.Goals as goal

pub loop-k-init : goal.loop-k-init
loop-k-init c = (omega arith, stray_start _ _ 0)

pub overflow_add-all : goal.overflow_add-all
overflow_add-all c = let h = lent_in _ _ _ _ _ c.lent_from-m.ensures c.loop-k-test.true in omega (arith, h.0)

pub offset_bounds-xs-from : goal.offset_bounds-xs-from
offset_bounds-xs-from c = let h = lent_in _ _ _ _ _ c.lent_from-m.ensures c.loop-k-test.true in omega (arith, h.0)

pub bounds-xs-from : goal.bounds-xs-from
bounds-xs-from c = let h = lent_in _ _ _ _ _ c.lent_from-m.ensures c.loop-k-test.true in h.0

pub loop-k-preserved : goal.loop-k-preserved
loop-k-preserved c = (omega arith, stray_more _ _ 0 _ c.loop-k.all _ c.loop-k.invariant.1 refl)

pub returns : goal.returns
returns c = c.earns.ensures ∙ stray_end _ _ _ _ _ c.loop-k.all c.lent_from-m.ensures c.loop-k.invariant.0 c.loop-k-test.false c.loop-k.invariant.1
