-- Each effect, and an instruction, does the same where there is room for what its key needs. Assumes nothing.
use Prim.Native.Nat.{ℕ, zero, suc, ◌*◌}
use Rattle.std.proofs.Common.{arith, sym}
use Rattle.std.specs.Prelude.{◌≡◌, refl, true, false, length, Option, None, Some}
use Rattle.std.proofs.Math.Path.{ap, subst}
use mathlib.Core.List.{List, [], ◌∷◌}
use Rattle.def_kinds.specs.declared.ValueKind.{ValueKind}
use Rattle.def_kinds.specs.declared.AbstractValue.{AbstractValue}
use Rattle.def_effects.specs.declared.Place.{Place}
use Rattle.def_effects.specs.declared.AliasingDiagnostic.{AliasingDiagnostic}
use Rattle.def_effects.specs.declared.MutateVariant.{MutateVariant}
use Rattle.def_effects.specs.declared.MutationResult.{MutationResult}
use Rattle.def_effects.specs.declared.MutationResult.TheVariants as Result
use Rattle.def_effects.specs.Places.{identifiers}
use Rattle.def_effects.specs.Effects.{AliasingEffect, Freeze, Mutate, MutateConditionally, MutateTransitive, MutateTransitiveConditionally, Capture, Alias, MaybeAlias, Assign, Create, CreateFrom, ImmutableCapture, CreateFunction, MutateFrozen, MutateGlobal, Impure, Render}
use Rattle.def_effects.specs.Keys.{EffectKey, effect_key}
use Rattle.def_transfer.specs.Monad.{M, Done, each}
use Rattle.def_transfer.specs.Tables.{Tables, World}
use Rattle.def_transfer.specs.Context.{function_context}
use Rattle.def_transfer.specs.Step.{Source, FromContext, FromNothing, FromFrozen, FromMutable, Destination, flow_of, by_flow, flowing, report_modified, report_hoisted, report, mutating, freezing, creating, capturing_immutably, list_created, creating_from, assigning, creating_function, act, apply_effect}
use Rattle.def_transfer.specs.Instruction.{Instruction, has, report_early, early_error, early_errors, start_instruction, run, apply_signature}
use Rattle.laws_room.specs.Room.{later, need, needs}
use Rattle.laws_room.proofs.Laws.Near.{Padded, Near, bind_known, bind_keeps, then_near, then_keeps, then_rest, weaken, refuse_near, done_near, if_near, each_near, each_keeps, atomically_near, ask_near, change_near}
use Rattle.laws_room.proofs.Laws.Parts.{base, kind_with_span_near, kind_near, assign_near, freeze_near, intern_near, intern_key, number_for_near, link_to_near, intern_diagnostic_near, emit_near, is_initialized_near, begin_near, walk_near, create_near, any_written_near, any_ref_near, function_context_near, update_context_near, mutate_near, by_flow_near, define_lvalue_near}

-- what `search` finds an effect by
-- the parts of the step
ruleset parts = (base, kind_with_span_near, kind_near, assign_near, freeze_near, number_for_near, link_to_near, intern_diagnostic_near, emit_near, is_initialized_near, begin_near, walk_near, create_near, any_written_near, any_ref_near, function_context_near, update_context_near, mutate_near, by_flow_near)

-- a key has as many captures as its effect
-- they are the identifiers of the effect's
pub identifiers_length : (l : List Place) → length (identifiers l) ≡ length l
identifiers_length [] = refl
identifiers_length (p ∷ ps) = ap suc (identifiers_length ps)

module _ {T : Tables} {𝓟 : Padded T} where
  -- ---- one effect, whose derived effects need what their keys say

  module _ {again : AliasingEffect → M (World T) Done} (h : (z : AliasingEffect) → Near 𝓟 (need (effect_key z)) (again z)) where
    -- ImmutableCapture derives nothing
    immutable : (f i : Place) → Near 𝓟 1 (again (ImmutableCapture f i))
    immutable f i = h _

    -- nor does a report of a frozen value
    frozen : (p : Place) (x : AliasingDiagnostic) → Near 𝓟 1 (again (MutateFrozen p x))
    frozen p x = h _

    -- nor of another
    global : (p : Place) (x : AliasingDiagnostic) → Near 𝓟 1 (again (MutateGlobal p x))
    global p x = h _

    -- MaybeAlias: itself, and an ImmutableCapture
    maybe_alias : (f i : Place) → Near 𝓟 2 (again (MaybeAlias f i))
    maybe_alias f i = h _

    -- Capture: itself, and a MaybeAlias or an ImmutableCapture
    capture : (f i : Place) → Near 𝓟 3 (again (Capture f i))
    capture f i = h _

    -- Capture and Alias
    flowing_near : (e : AliasingEffect) (f i : Place) → Near 𝓟 2 (flowing again false e f i)
    unfolding flowing
    flowing_near e f i =
        bind_keeps (kind_with_span_near _ _) (λ a. bind_keeps (kind_with_span_near _ _) (λ c. by_flow_near _ (weaken (omega arith) (immutable f i)) (emit_near e) (maybe_alias f i)))

    -- a MaybeAlias derives no other
    no_maybe : {b : ℕ} (x : Destination) (y : Source) {i s : M (World T) Done} (m : M (World T) Done) → Near 𝓟 b i → Near 𝓟 b s → Near 𝓟 b (by_flow (flow_of true x y) i s m)
    unfolding flow_of by_flow
    no_maybe x FromFrozen m p q = p
    no_maybe x FromMutable m p q = q
    no_maybe x FromContext m p q = q
    no_maybe x FromNothing m p q = q

    -- MaybeAlias
    maybe_near : (e : AliasingEffect) (f i : Place) → Near 𝓟 1 (flowing again true e f i)
    unfolding flowing
    maybe_near e f i = bind_keeps (kind_with_span_near _ _) (λ a. bind_keeps (kind_with_span_near _ _) (λ c. no_maybe _ _ _ (immutable f i) (emit_near e)))

    -- a value that cannot be modified: one report
    report_modified_near : (p : Place) (a : AbstractValue) → Near 𝓟 1 (report_modified again p a)
    unfolding report_modified
    report_modified_near p a = search (parts, frozen, global, 𝓟.name_of) depth 10

    -- an access before the declaration: one report
    report_hoisted_near : (p : Place) → Near 𝓟 1 (report_hoisted again p)
    unfolding report_hoisted
    report_hoisted_near p = search (parts, frozen, 𝓟.name_of, 𝓟.access_span) depth 10

    -- what a mutation lists, by its result
    report_near : (e : AliasingEffect) (p : Place) (x : MutationResult) → Near 𝓟 1 (report again e p x)
    unfolding report
    report_near e p Result.None = search parts
    report_near e p Result.Mutate = search parts
    report_near e p Result.MutateFrozen = search (parts, report_modified_near, report_hoisted_near, 𝓟.is_hoisted) depth 10
    report_near e p Result.MutateGlobal = search (parts, report_modified_near) depth 10
    report_near e p Result.MutateRef = search parts

    -- a mutation
    mutating_near : (v : MutateVariant) (e : AliasingEffect) (p : Place) → Near 𝓟 1 (mutating again v e p)
    unfolding mutating
    mutating_near v e p = search (parts, report_near) depth 10

    -- Freeze
    freezing_near : (p : Place) (reason : ℕ) → Near 𝓟 0 (freezing again p reason)
    unfolding freezing
    freezing_near p reason = search (parts, 𝓟.is_transitive) depth 12

    -- Create
    creating_near : (p : Place) (k : ValueKind) (reason : ℕ) → Near 𝓟 0 (creating again p k reason)
    unfolding creating
    creating_near p k reason = search parts depth 12

    -- ImmutableCapture
    capturing_immutably_near : (f i : Place) → Near 𝓟 0 (capturing_immutably again f i)
    unfolding capturing_immutably
    capturing_immutably_near f i = search parts depth 12

    -- what is listed of a CreateFrom
    -- "The Create that CreateFrom emits" is not interned
    list_created_near : (f i : Place) (a : AbstractValue) → Near 𝓟 1 (list_created again f i a)
    unfolding list_created
    list_created_near f i a = search (parts, immutable) depth 12

    -- CreateFrom
    creating_from_near : (f i : Place) → Near 𝓟 1 (creating_from again f i)
    unfolding creating_from
    creating_from_near f i = search (parts, list_created_near) depth 12

    -- Assign
    assigning_near : (f i : Place) → Near 𝓟 1 (assigning again f i)
    unfolding assigning
    assigning_near f i =
        then_keeps (begin_near _) (bind_keeps (kind_with_span_near _ _) (λ a.
        if_near _ (then_rest (immutable f i) (search parts)) (if_near _ (search parts) (search parts))))

    -- CreateFunction: a Capture for each capture
    creating_function_near : (cs : List Place) (f : ℕ) (i : Place) → Near 𝓟 (3 * length cs) (creating_function again cs f i)
    unfolding creating_function
    creating_function_near cs f i =
        then_keeps (begin_near _) (then_keeps (emit_near _) (bind_keeps (any_written_near cs) (λ written.
        bind_keeps (function_context_near f) (λ places. bind_keeps (ask_near _ (λ r d p. 𝓟.has_tracked_side_effect p f)) (λ tracked.
        bind_keeps (any_ref_near places) (λ refs. then_keeps (each_keeps places (λ p. update_context_near f p)) (bind_keeps (number_for_near _) (λ v.
        then_keeps (link_to_near v f) (then_keeps (create_near i v _) (each_near 3 cs (λ c. capture c i)))))))))))

    -- one effect
    act_near : (e : AliasingEffect) → Near 𝓟 (later (effect_key e)) (act again e)
    unfolding act
    act_near (Freeze p r) = freezing_near p r
    act_near (Mutate p r) = mutating_near _ _ p
    act_near (MutateConditionally p) = mutating_near _ _ p
    act_near (MutateTransitive p) = mutating_near _ _ p
    act_near (MutateTransitiveConditionally p) = mutating_near _ _ p
    act_near (Capture f i) = flowing_near _ f i
    act_near (Alias f i) = bind_keeps (is_initialized_near _) (λ t. if_near t (flowing_near _ f i) (refuse_near 7))
    act_near (MaybeAlias f i) = maybe_near _ f i
    act_near (Assign f i) = assigning_near f i
    act_near (Create i k r) = creating_near i k r
    act_near (CreateFrom f i) = creating_from_near f i
    act_near (ImmutableCapture f i) = capturing_immutably_near f i
    act_near (CreateFunction cs f i) = let q = identifiers_length cs in weaken (omega arith) (creating_function_near cs f i)
    act_near (MutateFrozen p d) = emit_near _
    act_near (MutateGlobal p d) = emit_near _
    act_near (Impure p d) = emit_near _
    act_near (Render p) = emit_near _

  -- the step of an effect: what its key needs
  pub step_near : (d : ℕ) (e : AliasingEffect) → Near 𝓟 (need (effect_key e)) (apply_effect d e)
  unfolding apply_effect
  step_near zero e = refuse_near 99
  step_near (suc d) e =
      bind_known _ (later (effect_key e)) (intern_key 𝓟.measured e) (intern_near e) (λ x k.
      subst (λ (z : EffectKey). Near 𝓟 (later z) (act (apply_effect d) x)) (sym k) (act_near (step_near d) x))

  -- ---- an instruction

  -- the candidates
  candidates_near : (l : List AliasingEffect) → Near 𝓟 (needs l) (each l (apply_effect 4))
  unfolding each needs
  candidates_near [] = done_near
  candidates_near (e ∷ es) = then_near (need (effect_key e)) (needs es) (step_near 4 e) (candidates_near es)

  -- an early error of a place: "always case 0, not interned"
  report_early_near : {b : ℕ} (p : Place) → Near 𝓟 b (report_early p)
  unfolding report_early
  report_early_near p = search (parts, 𝓟.name_of) depth 12

  -- the same, if the place is of the own function's context
  early_error_near : {b : ℕ} (f : ℕ) (p : Place) → Near 𝓟 b (early_error f p)
  unfolding early_error function_context
  early_error_near f p = bind_keeps (ask_near _ (λ r d q. ap (λ (l : List Place). has p.identifier (identifiers l)) (𝓟.context_of q f))) (λ t. if_near t (report_early_near p) done_near)

  -- the early errors of an instruction
  early_errors_near : {b : ℕ} (o : Option ℕ) → Near 𝓟 b (early_errors o)
  unfolding early_errors
  early_errors_near None = done_near
  early_errors_near (Some f) = search (parts, early_error_near, 𝓟.mutated_inside) depth 12

  -- the run of an instruction: what its candidates need
  pub run_near : (ins : Instruction) → Near 𝓟 (needs ins.candidates) (run ins)
  unfolding run
  run_near ins = then_keeps (early_errors_near ins.own) (then_rest (candidates_near ins.candidates) (then_keeps (define_lvalue_near _) (change_near _ (λ r. refl) (λ r d. refl))))

  -- the call for an instruction
  pub signature_near : (ins : Instruction) → Near 𝓟 (needs ins.candidates) (apply_signature ins)
  unfolding apply_signature start_instruction
  signature_near ins = then_keeps (change_near _ (λ r. refl) (λ r d. refl)) (atomically_near (run_near ins))
