use Rattle.std.proofs.Common.{◌≡◌}
use Rattle.lent_members.specs.Members.{rest}
use Rattle.lent_sets.specs.Rows.{set_at}
use Rattle.base_sets.specs.Members.{values_of}
use Rattle.state_ops.specs.Lists.{freeze_all}
use Rattle.state_freeze.proofs.freeze_values.Given as goal

abbrev pub invariant-loop-m : goal.invariant-loop-m
invariant-loop-m l =
    (goal.iterator-loop-m).can_next l.m-iterator
    × (goal.iterator-loop-m).is_finite l.m-iterator
    × (freeze_all l.reason (rest l.m-iterator) l.values ≡ freeze_all l.reason (values_of (set_at l.sets l.i)) l.initial.values)
