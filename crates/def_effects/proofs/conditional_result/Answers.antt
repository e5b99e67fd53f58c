use mathlib.Core.Path.{sym, ap}
use mathlib.Core.Bool.{false}
use Rattle.def_effects.specs.Mutation.{result_of}
use Rattle.def_effects.proofs.conditional_result.Goals as goal

pub returns-in-Mutable : goal.returns-in-Mutable
unfolding result_of
returns-in-Mutable c = ap (result_of false) (sym c.in-Mutable.is)

pub returns-in-Frozen : goal.returns-in-Frozen
unfolding result_of
returns-in-Frozen c = ap (result_of false) (sym c.in-Frozen.is)

pub returns-in-Primitive : goal.returns-in-Primitive
unfolding result_of
returns-in-Primitive c = ap (result_of false) (sym c.in-Primitive.is)

pub returns-in-MaybeFrozen : goal.returns-in-MaybeFrozen
unfolding result_of
returns-in-MaybeFrozen c = ap (result_of false) (sym c.in-MaybeFrozen.is)

pub returns-in-Global : goal.returns-in-Global
unfolding result_of
returns-in-Global c = ap (result_of false) (sym c.in-Global.is)

pub returns-in-Context : goal.returns-in-Context
unfolding result_of
returns-in-Context c = ap (result_of false) (sym c.in-Context.is)
