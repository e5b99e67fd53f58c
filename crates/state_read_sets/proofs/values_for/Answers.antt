-- `state_read_sets::values_for` meets its contract, refused or not. Assumes nothing.
use Rattle.std.proofs.Common.{rules, Ok}
use Rattle.state_calls.proofs.Laws.More.{list_refused, list_cleared, list_counted, list_ends}
use Rattle.state_calls.proofs.Laws.Said.{count_said}
use Rattle.state_means.proofs.Laws.Promises.{values_for_promise}
use Rattle.state_read_sets.proofs.values_for.Goals as goal

pub returns-in_err-verdict : goal.returns-in_err-verdict
returns-in_err-verdict c =
    values_for_promise _ _ _ _ _ _ _
    (count_said _ _ _ _ _ _ c.from_residual.ensures.1 (list_refused _ _ _ _ _ _ c.in_err-verdict.ensures))
    (list_cleared _ _ _ _ _ _ c.fill.new.self c.in_err-verdict.ensures (search rules))

pub returns : goal.returns
returns c =
    values_for_promise _ _ _ _ _ (Ok c.size.result) _
    (list_counted _ _ _ _ _ _ c.in_ok-verdict.ensures c.size.ensures)
    (list_ends _ _ _ _ _ c.fill.new.self _ c.in_ok-verdict.ensures (search rules) c.write_values.ensures)
