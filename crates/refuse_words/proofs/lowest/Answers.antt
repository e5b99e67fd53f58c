use native.Mathlib.Omega.{arith}
use Rattle.refuse_words.proofs.Laws.Class.{lowest_none, lowest_more, lowest_end}
use Rattle.refuse_words.proofs.lowest.Goals as goal

pub loop-k-init : goal.loop-k-init
loop-k-init g c = (omega arith, λ f h. lowest_none f)

pub loop-k-preserved : goal.loop-k-preserved
loop-k-preserved g c = (omega arith, λ f h. lowest_more f _ _ _ _ (c.loop-k.invariant.1 f h) (h _ _ c.loop-k-test.true c.test.ensures) c.lower-worst.ensures)

pub returns : goal.returns
returns g c = λ f h. lowest_end f _ _ _ c.loop-k.invariant.0 c.loop-k-test.false (c.loop-k.invariant.1 f h)
