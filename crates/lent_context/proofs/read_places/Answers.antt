use mathlib.Core.Path.{refl, ◌∙◌}
use Rattle.lent_context.proofs.Laws.Code.{reads_more, reads_none}
use Rattle.lent_context.proofs.read_places.Goals as goal

pub loop-k-init : goal.loop-k-init
loop-k-init c = (refl, refl)

pub loop-k-preserved : goal.loop-k-preserved
loop-k-preserved c =
    (c.read_place.auto.contexts ∙ c.loop-k.invariant.0, c.loop-k.invariant.1 ∙ reads_more _ _ _ _ _ _ c.loop-k-test.true c.read_place.ensures)

pub returns : goal.returns
returns c = reads_none _ _ _ _ _ _ c.loop-k-test.false c.loop-k.invariant.1
