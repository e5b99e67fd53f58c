use native.Mathlib.Omega.{arith}
use mathlib.Core.Path.{refl}
use Rattle.base_search.proofs.Laws.Search.{starts}
use Rattle.lent_search.proofs.Laws.Find.{search_down, search_up, search_at, search_over}
use Rattle.lent_search.proofs.search.Goals as goal

pub loop-lo-init : goal.loop-lo-init
loop-lo-init g c = (omega arith, omega arith, λ f h. starts f _)

pub loop-lo-preserved-in-Less : goal.loop-lo-preserved-in-Less
loop-lo-preserved-in-Less g c =
    (omega arith, omega arith, λ f h. search_down f _ _ _ _ _ c.loop-lo-test.true refl (h _ _ (omega arith) c.compare-o.ensures) (c.loop-lo.invariant.2 f h) c.in-Less.is)

pub returns-in-Equal : goal.returns-in-Equal
returns-in-Equal g c = λ f h. search_at f _ _ _ _ _ c.loop-lo-test.true refl (h _ _ (omega arith) c.compare-o.ensures) (c.loop-lo.invariant.2 f h) c.in-Equal.is

pub loop-lo-preserved : goal.loop-lo-preserved
loop-lo-preserved g c =
    (omega arith, omega arith, λ f h. search_up f _ _ _ _ _ c.loop-lo-test.true refl (h _ _ (omega arith) c.compare-o.ensures) (c.loop-lo.invariant.2 f h) c.in-Greater.is)

pub returns : goal.returns
returns g c = λ f h. search_over f _ _ _ c.loop-lo-test.false (c.loop-lo.invariant.2 f h)
