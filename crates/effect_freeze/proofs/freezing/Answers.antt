use Rattle.effect_freeze.proofs.Laws.Freeze.{freezing_not, freezing_plain, freezing_walks}
use Rattle.effect_freeze.proofs.freezing.Goals as goal

pub returns-then-not-freeze-clause-does : goal.returns-then-not-freeze-clause-does
returns-then-not-freeze-clause-does c = λ again. freezing_not _ _ _ _ _ _ _ _ _ c.freeze.ensures.0 c.freeze.ensures.1 again c.if-not-freeze.true

pub returns-then-not-is_transitive-clause-does : goal.returns-then-not-is_transitive-clause-does
returns-then-not-is_transitive-clause-does c =
    λ again. freezing_plain _ _ _ _ _ _ _ _ _ c.freeze.ensures.0 c.freeze.ensures.1 again _ _ _ c.if-not-freeze.false c.emit.ensures.does c.is_transitive.ensures c.if-not-is_transitive.true

pub returns-clause-does : goal.returns-clause-does
returns-clause-does c =
    λ again. freezing_walks _ _ _ _ _ _ _ _ _ c.freeze.ensures.0 c.freeze.ensures.1 again _ _ _ c.if-not-freeze.false c.emit.ensures.does c.is_transitive.ensures c.if-not-is_transitive.false _ c.walk.ensures.does
