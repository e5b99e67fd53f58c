-- `state_ops::kind_of` meets its contract: the fold over the members joins their entries. Assumes nothing.
use Rattle.std.specs.Prelude.{ℕ, ◌≡◌, refl, List, [], ◌∷◌, Option, None}
use Rattle.std.specs.List.{fold}
use Rattle.std.proofs.Common.{rules, ap, ◌∙◌}
use Rattle.std.proofs.lemmas.Iterator.Consumers.{fold_from_yields_List, YieldsList-from_first}
use Rattle.base_orders.specs.Options.{join_option}
use Rattle.def_kinds.specs.declared.AbstractValue.{AbstractValue}
use Rattle.def_kinds.specs.Values.{join, or_default}
use Rattle.def_transfer.specs.State.{kind_of, join_values}
use Rattle.lent_values.specs.Cells.{value_at}
use Rattle.lent_members.specs.Members.{rest}
use Rattle.state_ops.proofs.kind_of.Goals as goal

fold_is : (f : ℕ → Option AbstractValue) (l : List ℕ) (a : Option AbstractValue) → fold (λ e v. join_option join e (f v)) a l ≡ join_values f l a
unfolding join_values
fold_is f [] a = refl
fold_is f (v ∷ l) a = fold_is f l (join_option join a (f v))

pub returns : goal.returns
unfolding kind_of
returns c =
    c.or_default.ensures
    ∙ ap or_default (fold_from_yields_List _ (λ e v. join_option join e (value_at c.args.values.now v)) None c.fold-entry.result c.fold-entry.ensures.ran (YieldsList-from_first (λ v. v) rest _ c.members.ensures) (λ a x b q k. search rules)
    ∙ fold_is (value_at c.args.values.now) _ None)
