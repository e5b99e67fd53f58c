use Rattle.std.proofs.Common.{◌≤◌}
use Rattle.test_state.proofs.check_values.Given as goal

abbrev pub invariant-loop-v : goal.invariant-loop-v
invariant-loop-v l = l.found ≤ l.v
