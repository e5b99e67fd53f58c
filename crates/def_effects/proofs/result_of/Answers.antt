use mathlib.Core.Bool.{true, false}
use Rattle.def_effects.proofs.Laws.Mutation.{result_strict}
use Rattle.def_effects.proofs.result_of.Goals as goal

pub returns-then-strict : goal.returns-then-strict
returns-then-strict c = result_strict _ _ _ true c.if-strict.true c.strict_result.ensures

pub returns : goal.returns
returns c = result_strict _ _ _ false c.if-strict.false c.conditional_result.ensures
