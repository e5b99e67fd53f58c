-- `state_merge_calls::merge_from` meets its contract, refused or not. Assumes nothing.
use Rattle.std.proofs.Common.{◌∙◌}
use Rattle.state_pairs.proofs.Laws.Promises.{from_promise}
use Rattle.state_pairs.proofs.Laws.MergeCall.{from_err, from_refused, from_ends}
use Rattle.state_merge_calls.proofs.merge_from.Goals as goal

pub returns-in_err-pair_refusal : goal.returns-in_err-pair_refusal
returns-in_err-pair_refusal c =
    let p = from_refused _ _ _ _ _ c.args.flag1 c.args.flag2 _ c.in_err-pair_refusal.ensures in
    from_promise _ _ _ _ _ _ _ _ _ _ (from_err _ _ _ _ c.from_residual.ensures.1 ∙ p.0, p.1, p.2)

pub returns : goal.returns
returns c = from_promise _ _ _ _ _ _ _ _ _ _ (from_ends _ _ _ _ _ _ _ _ _ c.in_ok-pair_refusal.ensures c.merge_values.ensures c.merge_sets.ensures)
