use Rattle.std.proofs.Common.{◌≤◌}
use Rattle.test_state.proofs.check_sets.Given as goal

abbrev pub invariant-loop-i : goal.invariant-loop-i
invariant-loop-i l = l.found ≤ l.i
