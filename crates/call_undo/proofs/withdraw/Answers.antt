-- `call_undo::withdraw` meets its contract: one copy of nothing. Assumes nothing.
use Rattle.call_undo.specs.Saves.{withdrawn}
use Rattle.call_undo.proofs.Laws.Save.{withdraws_none}
use Rattle.call_undo.proofs.withdraw.Goals as goal

pub returns-then-to-from : goal.returns-then-to-from
returns-then-to-from c = withdraws_none _ _ _ c.if-to-from.true

pub returns : goal.returns
unfolding withdrawn
returns c = c.copy.ensures
