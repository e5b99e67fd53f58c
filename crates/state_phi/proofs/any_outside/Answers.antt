-- `state_phi::any_outside` meets its contract: what the search of the operands finds. Assumes nothing.
use Rattle.std.specs.Prelude.{ℕ, ◌≡◌, refl, Bool, ◌||◌, List, [], ◌∷◌}
use Rattle.std.proofs.Common.{rules, ap, ◌∙◌}
use borrow.Author.Tests.{tests}
use Rattle.std.specs.List.{list_any}
use Rattle.std.proofs.lemmas.Iterator.{YieldsList-from_slice}
use Rattle.std.proofs.lemmas.Iterator.Search.{any_from_yields_List}
use Rattle.base_tests.specs.Tests.{any_of}
use Rattle.state_calls.specs.Calls.{outside}
use Rattle.state_phi.proofs.any_outside.Goals as goal

any_is : (f : ℕ → Bool) (xs : List ℕ) → list_any f xs ≡ any_of f xs
unfolding any_of
any_is f [] = refl
any_is f (x ∷ xs) = ap (λ (b : Bool). f x || b) (any_is f xs)

pub returns : goal.returns
returns c =
    any_from_yields_List (outside c.args.sets.now) _ _ _ c.any.ensures.ran (YieldsList-from_slice c.args.operands.now c.iter.ensures.rest) (λ x b q k. search (rules, tests))
    ∙ any_is (outside c.args.sets.now) c.args.operands.now
