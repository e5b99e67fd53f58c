-- `state_merge_calls::merge` meets its contract, refused or not. Assumes nothing.
use Rattle.std.proofs.Common.{◌∙◌, Ok, ap₂}
use Rattle.refuse_class.specs.Class.{lower}
use Rattle.state_pairs.proofs.Laws.Promises.{merge_promise}
use Rattle.state_pairs.proofs.Laws.MergeCall.{merge_err, merge_refused, merge_ends}
use Rattle.state_pairs.specs.MergeCalls.{merge_said}
use Rattle.state_merge_calls.proofs.merge.Goals as goal

pub returns-in_err-lower : goal.returns-in_err-lower
returns-in_err-lower c =
    let e = c.in_err-lower.ensures ∙ ap₂ lower c.third_refusal-third.ensures c.pair_refusal-both.ensures in
    let p = merge_refused _ _ _ _ _ _ _ c.args.flag1 c.args.flag2 _ e in
    merge_promise _ _ _ _ _ _ _ _ _ _ _ _ (merge_err _ _ c.from_residual.ensures.1 ∙ p.0, p.1, p.2)

pub returns : goal.returns
returns c =
    let e = c.in_ok-lower.ensures ∙ ap₂ lower c.third_refusal-third.ensures c.pair_refusal-both.ensures in
    merge_promise _ _ _ _ _ _ _ _ _ (merge_said (Ok c.then_some.result)) _ _ (merge_ends _ _ _ _ _ _ _ _ _ _ _ _ _ e c.merge_into-adds.ensures c.then_some.ensures)
