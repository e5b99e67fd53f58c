use Rattle.std.proofs.Common.{◌≡◌, ◌+◌, ◌≤◌, length}
use Rattle.lent_members.specs.Members.{rest}
use Rattle.lent_sets.specs.Rows.{set_at}
use Rattle.base_sets.specs.Members.{values_of}
use Rattle.state_calls.specs.Calls.{written}
use Rattle.state_read_sets.proofs.write_values.Given as goal

abbrev pub invariant-loop-k : goal.invariant-loop-k
invariant-loop-k l =
    (goal.iterator-loop-k).can_next l.k-iterator
    × (goal.iterator-loop-k).is_finite l.k-iterator
    × (l.k-iterator.count + length (rest l.k-iterator.iter) ≤ 1024)
    × (written (rest l.k-iterator.iter) l.k-iterator.count l.out ≡ written (values_of (set_at l.sets l.i)) 0 l.initial.out)
