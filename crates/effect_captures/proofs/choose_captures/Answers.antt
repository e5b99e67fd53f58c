-- `effect_captures::choose_captures` meets its contract: one law for each of its two ways. Assumes nothing.
use Rattle.std.proofs.Common.{refl}
use Rattle.lent_layout.specs.Context.{held}
use Rattle.effect_captures.proofs.Laws.NewFunction.{chosen_found, chosen_given}
use Rattle.effect_captures.proofs.choose_captures.Goals as goal

pub returns-in-Some : goal.returns-in-Some
returns-in-Some c =
    λ b. chosen_found (held c.args.context.now) _ _ _ _ _ _ c.in-Some.is refl c.copy_captures.ensures b

pub returns-in-None : goal.returns-in-None
returns-in-None c = λ b. chosen_given (held c.args.context.now) _ _ _ c.in-None.is (c.copy_run.ensures b)
