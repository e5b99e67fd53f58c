-- `lent_diagnostics::instance_before` meets its contract: what the search of the records finds. Assumes nothing.
use Rattle.std.specs.Prelude.{◌≡◌, true, false}
use Rattle.std.proofs.Common.{rules}
use Rattle.std.proofs.lemmas.Iterator.{first_from_Range}
use Rattle.lent_context.specs.Lent.{diagnostic_in}
use Rattle.lent_diagnostics.proofs.Laws.Diagnostic.{is_instance, instance_is}
use Rattle.lent_diagnostics.proofs.instance_before.Goals as goal

pub returns : goal.returns
returns c = instance_is c.args.diagnostics.now _ c.find.result c.args.sought.identity c.args.sought.diagnostic
    (first_from_Range _ _ _ _ (λ k. is_instance c.args.sought.identity c.args.sought.diagnostic (diagnostic_in c.args.diagnostics.now k) ≡ true)
    (λ k. is_instance c.args.sought.identity c.args.sought.diagnostic (diagnostic_in c.args.diagnostics.now k) ≡ false) c.find.ensures.ran
    (λ x q k. search rules) (λ x q k. search rules))
