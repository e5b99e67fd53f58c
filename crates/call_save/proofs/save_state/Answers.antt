-- `call_save::save_state` meets its contract: two copies, one after the other. Assumes nothing.
use mathlib.Core.Path.{ap, ◌∙◌}
use Rattle.lent_copies.specs.Copies.{copied}
use Rattle.call_undo.specs.Saves.{saved_state}
use Rattle.call_save.proofs.save_state.Goals as goal

pub returns : goal.returns
unfolding saved_state
returns c = c.copy-2.ensures ∙ ap (copied _ 0 1024 _) c.copy.ensures
