use Rattle.effect_acts.proofs.Laws.Act.{act_mutate, act_mutate_conditionally, act_mutate_transitive, act_mutate_transitive_conditionally, act_capture, act_alias, act_maybe_alias, act_assign, act_create_from, act_create_function, act_other}
use Rattle.effect_acts.proofs.act_of.Goals as goal

pub returns-in-Mutate : goal.returns-in-Mutate
returns-in-Mutate c = act_mutate _ _ _ c.in-Mutate.is

pub returns-in-MutateConditionally : goal.returns-in-MutateConditionally
returns-in-MutateConditionally c = act_mutate_conditionally _ _ c.in-MutateConditionally.is

pub returns-in-MutateTransitive : goal.returns-in-MutateTransitive
returns-in-MutateTransitive c = act_mutate_transitive _ _ c.in-MutateTransitive.is

pub returns-in-MutateTransitiveConditionally : goal.returns-in-MutateTransitiveConditionally
returns-in-MutateTransitiveConditionally c = act_mutate_transitive_conditionally _ _ c.in-MutateTransitiveConditionally.is

pub returns-in-Capture : goal.returns-in-Capture
returns-in-Capture c = act_capture _ _ _ c.in-Capture.is

pub returns-in-Alias : goal.returns-in-Alias
returns-in-Alias c = act_alias _ _ _ c.in-Alias.is

pub returns-in-MaybeAlias : goal.returns-in-MaybeAlias
returns-in-MaybeAlias c = act_maybe_alias _ _ _ c.in-MaybeAlias.is

pub returns-in-Assign : goal.returns-in-Assign
returns-in-Assign c = act_assign _ _ _ c.in-Assign.is

pub returns-in-CreateFrom : goal.returns-in-CreateFrom
returns-in-CreateFrom c = act_create_from _ _ _ c.in-CreateFrom.is

pub returns-in-CreateFunction : goal.returns-in-CreateFunction
returns-in-CreateFunction c = act_create_function _ _ _ c.in-CreateFunction.is

pub returns-in_default : goal.returns-in_default
returns-in_default c = act_other _ c.in_default.not-Mutate c.in_default.not-MutateConditionally c.in_default.not-MutateTransitive c.in_default.not-MutateTransitiveConditionally c.in_default.not-Capture c.in_default.not-Alias c.in_default.not-MaybeAlias c.in_default.not-Assign c.in_default.not-CreateFrom c.in_default.not-CreateFunction
