use Rattle.test_bytes.specs.Full.{ValuesFilled, SetsFilled}
use Rattle.test_bytes.proofs.fill_state.Given as goal

abbrev pub invariant-loop-v : goal.invariant-loop-v
invariant-loop-v l = ValuesFilled l.v l.initial.values l.values

abbrev pub invariant-loop-i : goal.invariant-loop-i
invariant-loop-i l = SetsFilled l.i l.initial.sets l.sets
