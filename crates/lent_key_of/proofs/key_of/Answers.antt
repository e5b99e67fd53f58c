-- `lent_key_of::key_of` meets its contract: one law for each variant. Assumes nothing.
use Rattle.lent_keys.proofs.Laws.EffectKey.{key_freeze, key_mutate, key_mutate_conditionally, key_mutate_transitive, key_mutate_transitive_conditionally, key_capture, key_alias, key_maybe_alias, key_assign, key_create, key_create_from, key_immutable_capture, key_create_function, key_mutate_frozen, key_mutate_global, key_impure, key_render}
use Rattle.lent_key_of.proofs.key_of.Goals as goal

pub returns-in-Freeze : goal.returns-in-Freeze
returns-in-Freeze c = key_freeze _ _ _ _ c.in-Freeze.is c.one_key.ensures

pub returns-in-Mutate : goal.returns-in-Mutate
returns-in-Mutate c = key_mutate _ _ _ _ c.in-Mutate.is c.one_key-in-Mutate.ensures

pub returns-in-MutateConditionally : goal.returns-in-MutateConditionally
returns-in-MutateConditionally c = key_mutate_conditionally _ _ _ c.in-MutateConditionally.is c.one_key-in-MutateConditionally.ensures

pub returns-in-MutateTransitive : goal.returns-in-MutateTransitive
returns-in-MutateTransitive c = key_mutate_transitive _ _ _ c.in-MutateTransitive.is c.one_key-in-MutateTransitive.ensures

pub returns-in-MutateTransitiveConditionally : goal.returns-in-MutateTransitiveConditionally
returns-in-MutateTransitiveConditionally c = key_mutate_transitive_conditionally _ _ _ c.in-MutateTransitiveConditionally.is c.one_key-in-MutateTransitiveConditionally.ensures

pub returns-in-Capture : goal.returns-in-Capture
returns-in-Capture c = key_capture _ _ _ _ c.in-Capture.is c.two_key.ensures

pub returns-in-Alias : goal.returns-in-Alias
returns-in-Alias c = key_alias _ _ _ _ c.in-Alias.is c.two_key-in-Alias.ensures

pub returns-in-MaybeAlias : goal.returns-in-MaybeAlias
returns-in-MaybeAlias c = key_maybe_alias _ _ _ _ c.in-MaybeAlias.is c.two_key-in-MaybeAlias.ensures

pub returns-in-Assign : goal.returns-in-Assign
returns-in-Assign c = key_assign _ _ _ _ c.in-Assign.is c.two_key-in-Assign.ensures

pub returns-in-Create : goal.returns-in-Create
returns-in-Create c = key_create _ _ _ _ _ c.in-Create.is c.kind_word.ensures

pub returns-in-CreateFrom : goal.returns-in-CreateFrom
returns-in-CreateFrom c = key_create_from _ _ _ _ c.in-CreateFrom.is c.two_key-in-CreateFrom.ensures

pub returns-in-ImmutableCapture : goal.returns-in-ImmutableCapture
returns-in-ImmutableCapture c = key_immutable_capture _ _ _ _ c.in-ImmutableCapture.is c.two_key-in-ImmutableCapture.ensures

pub returns-in-CreateFunction : goal.returns-in-CreateFunction
returns-in-CreateFunction c = key_create_function _ _ _ c.in-CreateFunction.is

pub returns-in-MutateFrozen : goal.returns-in-MutateFrozen
returns-in-MutateFrozen c = key_mutate_frozen _ _ _ _ c.in-MutateFrozen.is c.one_key-in-MutateFrozen.ensures

pub returns-in-MutateGlobal : goal.returns-in-MutateGlobal
returns-in-MutateGlobal c = key_mutate_global _ _ _ _ c.in-MutateGlobal.is c.one_key-in-MutateGlobal.ensures

pub returns-in-Impure : goal.returns-in-Impure
returns-in-Impure c = key_impure _ _ _ _ c.in-Impure.is c.one_key-in-Impure.ensures

pub returns-in-Render : goal.returns-in-Render
returns-in-Render c = key_render _ _ _ c.in-Render.is c.one_key-in-Render.ensures
