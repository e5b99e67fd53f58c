use Rattle.effect_flow.proofs.Laws.Flow.{from_frozen, maybe_itself, mutable_itself, mutable_maybe, mutable_nothing, context_maybe, context_nothing, other_nothing}
use Rattle.effect_flow.proofs.flow_next.Goals as goal

pub returns-in-Frozen : goal.returns-in-Frozen
returns-in-Frozen c = from_frozen _ _ c.args.maybe c.args.destination _ c.in-Frozen.is

pub returns-then-maybe : goal.returns-then-maybe
returns-then-maybe c = maybe_itself _ _ _ c.args.destination _ c.in_default.not-Frozen c.in_default.not-MaybeFrozen c.if-maybe.true

pub returns-in-Mutable-destination : goal.returns-in-Mutable-destination
returns-in-Mutable-destination c = mutable_itself c.args.from c.args.into _ _ _ c.if-maybe.false c.in-Mutable.is c.in-Mutable-destination.is

pub returns-in-Context-destination : goal.returns-in-Context-destination
returns-in-Context-destination c = mutable_maybe _ _ _ _ _ c.if-maybe.false c.in-Mutable.is c.in-Context-destination.is

pub returns-in_default-destination : goal.returns-in_default-destination
returns-in_default-destination c = mutable_nothing c.args.from c.args.into _ _ _ c.if-maybe.false c.in-Mutable.is c.in_default-destination.not-Mutable c.in_default-destination.not-MaybeFrozen c.in_default-destination.not-Context

pub returns-in-Mutable-destination-2 : goal.returns-in-Mutable-destination-2
returns-in-Mutable-destination-2 c = context_maybe _ _ _ _ _ c.if-maybe.false c.in-Context.is c.in-Mutable-destination-2.is

pub returns-in_default-destination-2 : goal.returns-in_default-destination-2
returns-in_default-destination-2 c = context_nothing c.args.from c.args.into _ _ _ c.if-maybe.false c.in-Context.is c.in_default-destination-2.not-Mutable c.in_default-destination-2.not-MaybeFrozen c.in_default-destination-2.not-Context

pub returns-in_default-source : goal.returns-in_default-source
returns-in_default-source c = other_nothing c.args.from c.args.into _ c.args.destination _ c.if-maybe.false c.in_default.not-Frozen c.in_default.not-MaybeFrozen c.in_default-source.not-Mutable c.in_default-source.not-Context
