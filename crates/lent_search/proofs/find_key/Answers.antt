use Rattle.lent_context.specs.Lent.{key_spot}
use Rattle.lent_search.proofs.find_key.Goals as goal

pub returns : goal.returns
unfolding key_spot
returns c = c.search.ensures _ (λ j o l h. h)
