-- `lent_effect_write::put_effect` meets its contract: one law for each variant. Assumes nothing.
use Rattle.lent_effects.proofs.Laws.EffectWrites.{put_freeze, put_mutate, put_mutate_conditionally, put_mutate_transitive, put_mutate_transitive_conditionally, put_capture, put_alias, put_maybe_alias, put_assign, put_create, put_create_from, put_immutable_capture, put_create_function, put_mutate_frozen, put_mutate_global, put_impure, put_render}
use Rattle.lent_effect_write.proofs.put_effect.Goals as goal

pub returns-in-Freeze : goal.returns-in-Freeze
returns-in-Freeze c =
    put_freeze _ _ _ _ _ _ _ _ _ c.in-Freeze.is c.put_one.ensures c.put_field.ensures

pub returns-in-Mutate : goal.returns-in-Mutate
returns-in-Mutate c =
    put_mutate _ _ _ _ _ _ _ _ _ c.in-Mutate.is c.put_one-in-Mutate.ensures c.put_field-in-Mutate.ensures

pub returns-in-MutateConditionally : goal.returns-in-MutateConditionally
returns-in-MutateConditionally c = put_mutate_conditionally _ _ _ _ _ _ _ c.in-MutateConditionally.is c.put_one-in-MutateConditionally.ensures

pub returns-in-MutateTransitive : goal.returns-in-MutateTransitive
returns-in-MutateTransitive c = put_mutate_transitive _ _ _ _ _ _ _ c.in-MutateTransitive.is c.put_one-in-MutateTransitive.ensures

pub returns-in-MutateTransitiveConditionally : goal.returns-in-MutateTransitiveConditionally
returns-in-MutateTransitiveConditionally c = put_mutate_transitive_conditionally _ _ _ _ _ _ _ c.in-MutateTransitiveConditionally.is c.put_one-in-MutateTransitiveConditionally.ensures

pub returns-in-Capture : goal.returns-in-Capture
returns-in-Capture c = put_capture _ _ _ _ _ _ _ _ c.in-Capture.is c.put_two.ensures

pub returns-in-Alias : goal.returns-in-Alias
returns-in-Alias c = put_alias _ _ _ _ _ _ _ _ c.in-Alias.is c.put_two-in-Alias.ensures

pub returns-in-MaybeAlias : goal.returns-in-MaybeAlias
returns-in-MaybeAlias c = put_maybe_alias _ _ _ _ _ _ _ _ c.in-MaybeAlias.is c.put_two-in-MaybeAlias.ensures

pub returns-in-Assign : goal.returns-in-Assign
returns-in-Assign c = put_assign _ _ _ _ _ _ _ _ c.in-Assign.is c.put_two-in-Assign.ensures

pub returns-in-Create : goal.returns-in-Create
returns-in-Create c = put_create _ _ _ _ _ _ _ _ _ c.in-Create.is c.put_create.ensures

pub returns-in-CreateFrom : goal.returns-in-CreateFrom
returns-in-CreateFrom c = put_create_from _ _ _ _ _ _ _ _ c.in-CreateFrom.is c.put_two-in-CreateFrom.ensures

pub returns-in-ImmutableCapture : goal.returns-in-ImmutableCapture
returns-in-ImmutableCapture c = put_immutable_capture _ _ _ _ _ _ _ _ c.in-ImmutableCapture.is c.put_two-in-ImmutableCapture.ensures

pub returns-in-CreateFunction : goal.returns-in-CreateFunction
returns-in-CreateFunction c = put_create_function _ _ _ _ _ _ _ _ c.in-CreateFunction.is c.put_function.ensures

pub returns-in-MutateFrozen : goal.returns-in-MutateFrozen
returns-in-MutateFrozen c = put_mutate_frozen _ _ _ _ _ _ _ _ c.in-MutateFrozen.is c.put_reported.ensures

pub returns-in-MutateGlobal : goal.returns-in-MutateGlobal
returns-in-MutateGlobal c = put_mutate_global _ _ _ _ _ _ _ _ c.in-MutateGlobal.is c.put_reported-in-MutateGlobal.ensures

pub returns-in-Impure : goal.returns-in-Impure
returns-in-Impure c = put_impure _ _ _ _ _ _ _ _ c.in-Impure.is c.put_reported-in-Impure.ensures

pub returns-in-Render : goal.returns-in-Render
returns-in-Render c = put_render _ _ _ _ _ _ _ c.in-Render.is c.put_one-in-Render.ensures
