use Rattle.std.proofs.Common.{refl}
use Rattle.lent_layout.specs.Context.{held}
use Rattle.lent_search.proofs.Laws.Find.{ends_keyless, ends_keyed}
use Rattle.lent_search.proofs.number_at.Goals as goal

pub returns-then-field-eq0 : goal.returns-then-field-eq0
returns-then-field-eq0 c =
    ends_keyless (held c.args.context.now) c.args.spot _ _ _ _ c.in-Ok.is c.order_at-v.ensures refl c.field.ensures c.if-field-eq0.true

pub returns-else-field-eq0 : goal.returns-else-field-eq0
returns-else-field-eq0 c =
    ends_keyed (held c.args.context.now) c.args.spot _ _ _ _ c.in-Ok.is c.order_at-v.ensures refl c.field.ensures c.if-field-eq0.false
