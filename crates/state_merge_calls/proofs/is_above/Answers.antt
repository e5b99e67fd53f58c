-- `state_merge_calls::is_above` meets its contract, refused or not. Assumes nothing.
use Rattle.std.proofs.Common.{◌∙◌}
use Rattle.state_pairs.proofs.Laws.Promises.{above_promise}
use Rattle.state_pairs.proofs.Laws.MergeCall.{above_err, above_refused, above_ends}
use Rattle.state_merge_calls.proofs.is_above.Goals as goal

pub returns-in_err-pair_refusal : goal.returns-in_err-pair_refusal
returns-in_err-pair_refusal c = above_promise _ _ _ _ _ _ (above_err _ _ c.from_residual.ensures.1 ∙ above_refused _ _ _ _ _ _ c.in_err-pair_refusal.ensures)

pub returns : goal.returns
returns c = above_promise _ _ _ _ _ _ (above_ends _ _ _ _ _ _ c.in_ok-pair_refusal.ensures c.is_above.ensures)
