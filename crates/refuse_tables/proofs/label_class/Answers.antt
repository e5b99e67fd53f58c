use Rattle.std.proofs.Common.{arith}
use Rattle.std.proofs.lemmas.Grind.{common_steps}
use Rattle.def_effects.specs.Places.{eq_span}
use Rattle.refuse_tables.specs.TableClasses.{label_class}
use Rattle.refuse_tables.proofs.label_class.Goals as goal

pub returns : goal.returns
unfolding label_class eq_span
returns c = grind (arith, common_steps)
