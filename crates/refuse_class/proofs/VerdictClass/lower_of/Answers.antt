-- The lower of two verdicts meets its contract, by its three ways. Assumes nothing.
use Rattle.std.proofs.Common.{ap, ap₂, sym, ◌∙◌}
use Rattle.def_refusals.specs.Verdicts.{number_of}
use Rattle.def_refusals.proofs.Laws.Verdicts.{class_ok, class_err, class_is}
use Rattle.refuse_class.specs.Class.{lower}
use Rattle.refuse_class.proofs.Laws.Class.{lower_none, lower_alone}
use Rattle.refuse_class.proofs.Laws.Least.{least}
use Rattle.refuse_class.proofs.VerdictClass.lower_of.Goals as goal

pub returns-in-Ok-default : goal.returns-in-Ok-default
returns-in-Ok-default c = lower_none _ _ (class_ok _ _ c.in-Ok-default.is-0)

pub returns-in-Err-Ok : goal.returns-in-Err-Ok
returns-in-Err-Ok c = lower_alone _ _ (class_err _ _ c.in-Err-Ok.is-0) (class_ok _ _ c.in-Err-Ok.is-1)

pub returns-in-Err-Err : goal.returns-in-Err-Err
returns-in-Err-Err c = ap number_of c.min.ensures ∙ least _ _ ∙ sym (ap₂ lower (class_is _ _ c.in-Err-Err.is-0) (class_is _ _ c.in-Err-Err.is-1))
