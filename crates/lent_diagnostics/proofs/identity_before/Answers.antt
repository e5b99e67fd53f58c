-- `lent_diagnostics::identity_before` meets its contract: what the search of the records finds. Assumes nothing.
use Rattle.std.specs.Prelude.{◌≡◌, true, false}
use Rattle.std.proofs.Common.{rules, ◌∙◌}
use Rattle.std.proofs.lemmas.Iterator.{first_from_Range}
use Rattle.def_transfer.specs.Diagnostics.{same_identity}
use Rattle.lent_context.specs.Lent.{diagnostic_in}
use Rattle.lent_diagnostics.proofs.Laws.Diagnostic.{mapped, identity_is}
use Rattle.lent_diagnostics.proofs.identity_before.Goals as goal

pub returns : goal.returns
returns c =
    mapped _ (λ k. (diagnostic_in c.args.diagnostics.now k).identity) c.find.result c.map.result c.map.ensures.cases (λ x y k. search rules)
    ∙ identity_is c.args.diagnostics.now _ c.find.result c.args.d
    (first_from_Range _ _ _ _ (λ k. same_identity c.args.d (diagnostic_in c.args.diagnostics.now k).diagnostic ≡ true)
    (λ k. same_identity c.args.d (diagnostic_in c.args.diagnostics.now k).diagnostic ≡ false) c.find.ensures.ran
    (λ x q k. search rules) (λ x q k. search rules))
