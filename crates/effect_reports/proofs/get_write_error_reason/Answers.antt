-- `effect_reports::get_write_error_reason` meets its contract: what the search of the reasons finds. Assumes nothing.
use Rattle.std.specs.Prelude.{◌≡◌, true, false}
use Rattle.std.proofs.Common.{rules, ◌∙◌}
use borrow.Author.Tests.{tests}
use Rattle.std.proofs.lemmas.Iterator.{YieldsList-from_slice, IsFirst-from_position}
use Rattle.def_kinds.specs.Reasons.{has_reason, in_sentence_order}
use Rattle.effect_reports.proofs.Laws.Mutation.{sentence_is}
use Rattle.effect_reports.proofs.get_write_error_reason.Goals as goal

pub returns : goal.returns
returns c =
    let s = c.args.s in
    c.unwrap_or-k.ensures
    ∙ sentence_is s c.position.result (IsFirst-from_position _ _ _ (λ r. has_reason s r ≡ true) (λ r. has_reason s r ≡ false) c.position.ensures.ran
    (YieldsList-from_slice in_sentence_order c.iter.ensures.rest) (λ x q k. search (rules, tests)) (λ x q k. search (rules, tests)))
