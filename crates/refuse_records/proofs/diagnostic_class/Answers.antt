use Rattle.std.proofs.Common.{rules, ◌≡◌, ◌∙◌}
use Rattle.def_refusals.specs.Verdicts.{number_of, class_of}
use Rattle.def_refusals.proofs.Laws.Verdicts.{class_ok, number_some}
use Rattle.refuse_records.proofs.Laws.Accepting.{diagnostic_wrong, diagnostic_right}
use Rattle.refuse_records.proofs.diagnostic_class.Goals as goal

pub returns-in_err-message_class : goal.returns-in_err-message_class
returns-in_err-message_class c =
    let same : class_of c.from_residual.result ≡ number_of c.in_err-message_class.field-0.0 = search rules in
    same ∙ diagnostic_wrong _ _ _ _ _ c.diagnostic_in.ensures c.in_err-message_class.ensures (number_some _)

pub returns : goal.returns
returns c = diagnostic_right _ _ _ _ _ c.diagnostic_in.ensures c.message_class.ensures _ _ (class_ok _ _ c.in_ok-message_class.was) c.diagnostic_twice.ensures c.earns.ensures
