use Rattle.std.proofs.Common.{ap, ◌∙◌, ne_eqb}
use Rattle.std.proofs.Math.Bool.{not}
use Rattle.refuse_repeats.proofs.Laws.Diagnostic.{diagnostic_other, diagnostic_new, diagnostic_same}
use Rattle.refuse_repeats.proofs.diagnostic_twice.Goals as goal

pub returns-in-None : goal.returns-in-None
returns-in-None c = diagnostic_new _ _ _ c.diagnostic_in-x.ensures _ _ c.identity_before.ensures c.in-None.is c.identities_before.ensures

pub returns-then-x-m : goal.returns-then-x-m
returns-then-x-m c = ap not (ne_eqb _ _ c.if-x-m.true) ∙ diagnostic_other _ _ _ c.diagnostic_in-x.ensures _ _ c.identity_before.ensures c.in-Some.is c.if-x-m.true

pub returns-else-x-m : goal.returns-else-x-m
returns-else-x-m c =
    diagnostic_same _ _ _ c.diagnostic_in-x.ensures _ _ c.identity_before.ensures c.in-Some.is _ _ c.if-x-m.false c.instance_before.ensures c.is_some.ensures
