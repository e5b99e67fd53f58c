use Rattle.effect_diagnostic.proofs.Laws.Reporting.{identity_found, identity_full, identity_next}
use Rattle.effect_diagnostic.proofs.identity_for.Goals as goal

pub returns-in-Some : goal.returns-in-Some
returns-in-Some c = identity_found _ _ _ c.find_identity.ensures _ c.in-Some.is

pub returns-then-count-ge256 : goal.returns-then-count-ge256
returns-then-count-ge256 c = identity_full _ _ _ c.find_identity.ensures c.in_default.is _ c.identity_count-count.ensures c.if-count-ge256.true

pub returns : goal.returns
returns c = identity_next _ _ _ c.find_identity.ensures c.in_default.is _ c.identity_count-count.ensures c.if-count-ge256.false
