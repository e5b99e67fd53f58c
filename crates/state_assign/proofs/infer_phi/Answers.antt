use Rattle.std.proofs.Common.{arith, refl, ◌∙◌}
use Rattle.lent_sets.specs.Rows.{number}
use Rattle.state_ops.proofs.Laws.List.{phi_step, phi_end, phi_empty, phi_puts}
use Rattle.state_assign.proofs.infer_phi.Goals as goal

pub loop-i-init : goal.loop-i-init
unfolding number
loop-i-init c = (refl, refl)

pub loop-i-preserved : goal.loop-i-preserved
loop-i-preserved c =
    (c.add_set.auto.acc ∙ c.loop-i.invariant.0, phi_step _ _ _ _ _ _ _ c.loop-i-test.true refl c.loop-i.invariant.0 c.add_set.ensures c.loop-i.invariant.1)

pub returns-then-not-is_empty : goal.returns-then-not-is_empty
returns-then-not-is_empty c =
    phi_puts _ _ _ _ _ _ (phi_end _ _ c.loop-i.i-index _ _ (omega arith) (omega arith) c.loop-i.invariant.1) c.is_empty.ensures c.if-not-is_empty.true c.put_set.ensures

pub returns-else-not-is_empty : goal.returns-else-not-is_empty
returns-else-not-is_empty c =
    phi_empty _ _ _ _ _ (phi_end _ _ c.loop-i.i-index _ _ (omega arith) (omega arith) c.loop-i.invariant.1) c.is_empty.ensures c.if-not-is_empty.false
