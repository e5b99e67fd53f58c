use Rattle.lent_context.specs.Lent.{effect_spot}
use Rattle.lent_search.proofs.find_effect.Goals as goal

pub returns : goal.returns
unfolding effect_spot
returns c = c.search.ensures _ (λ j o l h. h)
