use Rattle.effect_diagnostic.proofs.Laws.Reporting.{instance_found, instance_full, instance_next}
use Rattle.effect_diagnostic.proofs.instance_for.Goals as goal

pub returns-in-Some-clause-does : goal.returns-in-Some-clause-does
returns-in-Some-clause-does c = instance_found _ _ _ _ _ _ _ _ c.find_instance.ensures _ c.in-Some.is

pub returns-then-n-ge256-clause-does : goal.returns-then-n-ge256-clause-does
returns-then-n-ge256-clause-does c = instance_full _ _ _ _ _ _ _ _ c.find_instance.ensures c.in_default.is c.if-n-ge256.true

pub returns-clause-does : goal.returns-clause-does
returns-clause-does c = instance_next _ _ _ _ _ _ _ _ c.find_instance.ensures c.in_default.is _ c.if-n-ge256.false c.set.ensures
