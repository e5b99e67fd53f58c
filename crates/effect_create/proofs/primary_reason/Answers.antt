-- `effect_create::primary_reason` meets its contract: what the search of the reasons finds. Assumes nothing.
use Rattle.std.specs.Prelude.{◌≡◌, true, false}
use Rattle.std.proofs.Common.{rules, ◌∙◌}
use borrow.Author.Tests.{tests}
use Rattle.std.proofs.lemmas.Iterator.{first_from_Range}
use Rattle.def_kinds.specs.Reasons.{has_reason}
use Rattle.effect_create.proofs.Laws.Creation.{primary_is}
use Rattle.effect_create.proofs.primary_reason.Goals as goal

pub returns : goal.returns
returns c =
    let s = c.args.s in
    c.unwrap_or.ensures ∙ primary_is s c.find.result (first_from_Range _ _ _ _ (λ k. has_reason s k ≡ true) (λ k. has_reason s k ≡ false) c.find.ensures.ran
    (λ x q k. search (rules, tests)) (λ x q k. search (rules, tests)))
