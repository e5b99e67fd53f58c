-- The text does the same over faithful tables as over plain ones: one effect, the step, the parts of an instruction. Assumes nothing.
use Prim.Native.Nat.{ℕ, zero, suc, ◌<◌}
use Rattle.std.specs.Prelude.{Bool, List, Option, None, Some}
use Rattle.std.proofs.Common.{subst}
use Rattle.std.proofs.Math.Bool.{true, false}
use Rattle.base_tests.specs.Tests.{All}
use Rattle.def_kinds.specs.declared.ValueKind.{ValueKind}
use Rattle.def_kinds.specs.declared.AbstractValue.{AbstractValue}
use Rattle.def_effects.specs.declared.Place.{Place}
use Rattle.def_effects.specs.declared.MutateVariant.{MutateVariant}
use Rattle.def_effects.specs.declared.MutationResult.{MutationResult}
use Rattle.def_effects.specs.declared.MutationResult.TheVariants as Result
use Rattle.def_effects.specs.Places.{identifiers}
use Rattle.def_effects.specs.Effects.{AliasingEffect, Freeze, Mutate, MutateConditionally, MutateTransitive, MutateTransitiveConditionally, Capture, Alias, MaybeAlias, Assign, Create, CreateFrom, ImmutableCapture, CreateFunction, MutateFrozen, MutateGlobal, Impure, Render}
use Rattle.def_effects.specs.Keys.{EffectKey, effect_key, named_by, names}
use Rattle.def_transfer.specs.Monad.{M, Done}
use Rattle.def_transfer.specs.Tables.{Tables, World}
use Rattle.def_transfer.specs.State.{from_identifier}
use Rattle.def_transfer.specs.Context.{function_context}
use Rattle.def_transfer.specs.Step.{flowing, report_modified, report_hoisted, report, mutating, freezing, creating, capturing_immutably, list_created, creating_from, assigning, creating_function, act, apply_effect}
use Rattle.def_transfer.specs.Instruction.{report_early, early_error, early_errors, define_lvalue}
use Rattle.def_transfer.specs.Pure.{pure}
use Rattle.def_faithful.specs.Ranges.{Number, Short}
use Rattle.def_faithful.proofs.Laws.Ranges.{own_number, fresh_number_is, none_reasoned}
use Rattle.def_faithful.specs.Faithful.{Faithful}
use Rattle.def_faithful.proofs.Laws.Means.{Any, Means, bind_means, then_means, bind_any, bind_fresh, bind_set, bind_value, done_means, refuse_means, if_means, each_any, each_place, set_of_means, peek_means, ask_means}
use Rattle.def_faithful.proofs.Laws.Touching.{parts, read_tracked, read_inside, read_transitive, read_name, freeze_means, walk_means, intern_diagnostic_means, any_ref_means, function_context_means, link_to_means, emit_means, begin_means, number_for_means, intern_means, create_means, any_written_means, update_context_means}

-- what acceptance says of an effect, by its key alone: the identifiers that it names are in the list, and it has at most 16 captures
-- so it holds of the effect that interning hands out for it
pub record Fine (n : ℕ) (k : EffectKey) : Type 0 where
  pub named : All (λ i. i < n) (named_by k)
  pub short : Short k

module _ {n : ℕ} {T : Tables} {F : Faithful n T} where
  module _ {again : AliasingEffect → M (World T) Done} {free : AliasingEffect → M (World pure) Done} (h : (x : AliasingEffect) → All (λ i. i < n) (names x) → Short (effect_key x) → Means F Any (again x) (free x)) where
    flowing_means : (maybe : Bool) (e : AliasingEffect) (from into : Place) → Short (effect_key e) → from.identifier < n → into.identifier < n → Means F Any (flowing again maybe e from into) (flowing free maybe e from into)
    unfolding flowing
    flowing_means maybe e from into s p q = search (parts, h) depth 12

    report_modified_means : (p : Place) (a : AbstractValue) → p.identifier < n → Means F Any (report_modified again p a) (report_modified free p a)
    unfolding report_modified
    report_modified_means p a l = search (parts, h) depth 12

    report_hoisted_means : (p : Place) → p.identifier < n → Means F Any (report_hoisted again p) (report_hoisted free p)
    unfolding report_hoisted
    report_hoisted_means p l = search (parts, h) depth 12

    report_means : (e : AliasingEffect) (p : Place) (x : MutationResult) → Short (effect_key e) → p.identifier < n → Means F Any (report again e p x) (report free e p x)
    unfolding report
    report_means e p Result.None s l = search parts
    report_means e p Result.Mutate s l = search parts
    report_means e p Result.MutateFrozen s l = search (parts, report_modified_means, report_hoisted_means) depth 12
    report_means e p Result.MutateGlobal s l = search (parts, report_modified_means) depth 12
    report_means e p Result.MutateRef s l = search parts

    mutating_means : (variant : MutateVariant) (e : AliasingEffect) (p : Place) → Short (effect_key e) → p.identifier < n → Means F Any (mutating again variant e p) (mutating free variant e p)
    unfolding mutating
    mutating_means variant e p s l = search (parts, report_means) depth 12

    freezing_means : (p : Place) (reason : ℕ) → Means F Any (freezing again p reason) (freezing free p reason)
    unfolding freezing
    freezing_means p reason =
        bind_any (freeze_means _ reason) (λ acts. if_means acts (then_means (emit_means _ tt) (bind_any (ask_means _ _ read_transitive) (λ transitive.
        if_means transitive (bind_set (set_of_means _) (λ o a. walk_means _ reason)) done_means))) done_means)

    creating_means : (into : Place) (k : ValueKind) (reason : ℕ) → into.identifier < n → Means F Any (creating again into k reason) (creating free into k reason)
    unfolding creating
    creating_means into k reason l = search parts depth 12

    capturing_immutably_means : (from into : Place) → from.identifier < n → Means F Any (capturing_immutably again from into) (capturing_immutably free from into)
    unfolding capturing_immutably
    capturing_immutably_means from into p = search parts depth 12

    list_created_means : (from into : Place) (a : AbstractValue) → from.identifier < n → into.identifier < n → Means F Any (list_created again from into a) (list_created free from into a)
    unfolding list_created
    list_created_means from into a p q = search (parts, h) depth 12

    creating_from_means : (from into : Place) → from.identifier < n → into.identifier < n → Means F Any (creating_from again from into) (creating_from free from into)
    unfolding creating_from
    creating_from_means from into p q = search (parts, list_created_means) depth 12

    assigning_means : (from into : Place) → from.identifier < n → into.identifier < n → Means F Any (assigning again from into) (assigning free from into)
    unfolding assigning
    assigning_means from into p q = search (parts, h) depth 12

    creating_function_means : (cs : List Place) (f : ℕ) (into : Place) → Short (effect_key (CreateFunction cs f into)) → All (λ i. i < n) (identifiers cs) → into.identifier < n → Means F Any (creating_function again cs f into) (creating_function free cs f into)
    unfolding creating_function
    creating_function_means cs f into s a l =
        then_means (begin_means _ l) (then_means (emit_means _ s) (bind_any (any_written_means cs) (λ written.
        bind_any (function_context_means f) (λ places. bind_any (ask_means _ _ (read_tracked f)) (λ tracked. bind_any (any_ref_means places) (λ refs.
        then_means (each_any places (update_context_means f)) (bind_fresh (number_for_means _ s) (λ v m.
        then_means (link_to_means v f m) (then_means (create_means into v _ l (fresh_number_is v m) (none_reasoned _)) (each_place (λ i. i < n) cs a (λ c p. h (Capture c into) (p, (l, tt)) tt)))))))))))

    act_means : (e : AliasingEffect) → All (λ i. i < n) (names e) → Short (effect_key e) → Means F Any (act again e) (act free e)
    unfolding act
    act_means (Freeze p r) a s = freezing_means p r
    act_means (Mutate p r) a s = mutating_means _ _ p s a.0
    act_means (MutateConditionally p) a s = mutating_means _ _ p s a.0
    act_means (MutateTransitive p) a s = mutating_means _ _ p s a.0
    act_means (MutateTransitiveConditionally p) a s = mutating_means _ _ p s a.0
    act_means (Capture f i) a s = flowing_means false _ f i s a.0 a.1.0
    act_means (Alias f i) a s = search (parts, flowing_means) depth 12
    act_means (MaybeAlias f i) a s = flowing_means true _ f i s a.0 a.1.0
    act_means (Assign f i) a s = assigning_means f i a.0 a.1.0
    act_means (Create i k r) a s = creating_means i k r a.0
    act_means (CreateFrom f i) a s = creating_from_means f i a.0 a.1.0
    act_means (ImmutableCapture f i) a s = capturing_immutably_means f i a.0
    act_means (CreateFunction cs f i) a s = creating_function_means cs f i s a.1 a.0
    act_means (MutateFrozen p d) a s = emit_means _ tt
    act_means (MutateGlobal p d) a s = emit_means _ tt
    act_means (Impure p d) a s = emit_means _ tt
    act_means (Render p) a s = emit_means _ tt

  pub step_means : (d : ℕ) (e : AliasingEffect) → All (λ i. i < n) (names e) → Short (effect_key e) → Means F Any (apply_effect d e) (apply_effect d e)
  unfolding apply_effect
  step_means zero e a s = refuse_means 99
  step_means (suc d) e a s = bind_means (intern_means e s) (λ x k. act_means (step_means d) x (subst (λ (z : EffectKey). All (λ i. i < n) (named_by z)) k a) (subst Short k s))

  -- ---- an instruction

  report_early_means : (p : Place) → Means F Any (report_early p) (report_early p)
  unfolding report_early
  report_early_means p =
      bind_set (set_of_means _) (λ o a. bind_value (peek_means _) (λ x r. bind_any (ask_means _ _ (read_name _)) (λ name.
      if_means _ (bind_any (intern_diagnostic_means _) (λ d. emit_means _ tt)) done_means)))

  early_error_means : (f : ℕ) (p : Place) → Means F Any (early_error f p) (early_error f p)
  unfolding early_error function_context
  early_error_means f p = search (parts, report_early_means) depth 12

  pub early_errors_means : (o : Option ℕ) → Means F Any (early_errors o) (early_errors o)
  unfolding early_errors
  early_errors_means None = done_means
  early_errors_means (Some f) = bind_any (ask_means _ _ (read_inside f)) (λ places. each_any places (early_error_means f))

  pub define_lvalue_means : (i : ℕ) → i < n → Means F Any (define_lvalue i) (define_lvalue i)
  unfolding define_lvalue
  define_lvalue_means i l = let own : Number (from_identifier i) = own_number n i F.few l in search parts depth 12
