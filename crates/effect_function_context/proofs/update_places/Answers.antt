use Rattle.lent_world.proofs.Laws.Promise.{kept_start, kept_then}
use Rattle.effect_function_context.proofs.Laws.Function.{updates_start, updates_more, updates_end}
use Rattle.effect_function_context.proofs.update_places.Goals as goal

pub loop-k-init : goal.loop-k-init
loop-k-init c = (kept_start c.args.world.now, updates_start _ _ _ _)

pub loop-k-preserved : goal.loop-k-preserved
loop-k-preserved c =
    (kept_then c.args.world.now c.loop-k.world c.update_place.new.world c.loop-k.invariant.0 c.update_place.ensures.kept, updates_more _ _ _ _ _ _ c.loop-k.invariant.1 _ _ c.loop-k-test.true c.place_in.ensures c.update_place.ensures.does)

pub returns-clause-does : goal.returns-clause-does
returns-clause-does c = updates_end _ _ _ _ _ _ c.loop-k.invariant.1 c.field-n.ensures c.loop-k-test.false
