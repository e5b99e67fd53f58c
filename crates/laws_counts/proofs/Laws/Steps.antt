-- How much each effect, and an instruction, can add to a measure of the work: by what an effect listed and what a walk adds.
-- Assumes nothing.
use Prim.Native.Nat.{ℕ, suc, ◌+◌, ◌*◌}
use native.Mathlib.Omega.{arith}
use Rattle.std.specs.Prelude.{◌≡◌, Bool, eqb, leb, length, Option, None, Some}
use Rattle.std.proofs.Math.Path.{refl, ap}
use Rattle.std.proofs.Math.Bool.{true, false}
use mathlib.Core.List.{List, [], ◌∷◌}
use Rattle.base_tests.specs.Tests.{ite}
use Rattle.def_kinds.specs.declared.ValueKind.{ValueKind}
use Rattle.def_kinds.specs.declared.AbstractValue.{AbstractValue}
use Rattle.def_effects.specs.declared.Place.{Place}
use Rattle.def_effects.specs.declared.MutateVariant.{MutateVariant}
use Rattle.def_effects.specs.declared.MutationResult.{MutationResult}
use Rattle.def_effects.specs.declared.MutationResult.TheVariants as Result
use Rattle.def_effects.specs.Places.{identifiers}
use Rattle.def_effects.specs.Effects.{AliasingEffect, Freeze, Mutate, MutateConditionally, MutateTransitive, MutateTransitiveConditionally, Capture, Alias, MaybeAlias, Assign, Create, CreateFrom, ImmutableCapture, CreateFunction, MutateFrozen, MutateGlobal, Impure, Render}
use Rattle.def_effects.specs.Keys.{EffectKey, effect_key}
use Rattle.def_transfer.specs.Monad.{M, Done, ◌>>=◌, ◌>>◌, and_then, return, refuse, when◌then◌else◌}
use Rattle.def_transfer.specs.Tables.{Tables, Work, World}
use Rattle.def_transfer.specs.State.{ask, change}
use Rattle.def_transfer.specs.Context.{put_effect, intern_new, intern_effect, emit, put_initialized, begin}
use Rattle.def_transfer.specs.Walk.{walk}
use Rattle.def_transfer.specs.Step.{Flow, Immutable, Same, Maybe, Nothing, by_flow, flowing, report_modified, report_hoisted, report, mutating, freezing, creating, capturing_immutably, list_created, creating_from, assigning, creating_function, act}
use Rattle.def_transfer.specs.Instruction.{Instruction}
use Rattle.def_transfer.proofs.Laws.Derived.{refreshed_key}
use Rattle.laws_counts.proofs.Laws.Grows.{total, Holds, Grows, weaken, bind_keeps, then_grows, then_keeps, then_rest, refuse_grows, done_grows, if_grows, each_keeps, each_grows}
use Rattle.laws_counts.proofs.Laws.Keeps.{base, ask_grows, set_of_grows, kind_with_span_grows, kind_grows, assign_grows, freeze_grows, number_for_grows, link_to_grows, intern_diagnostic_grows, is_initialized_grows, create_grows, any_written_grows, update_context_grows, mutate_grows}

-- ---- what an effect can list, and whether it can walk: functions of its key, since interning keeps the key and may change the rest

-- how many effects an effect lists at the most: itself or what it derives; CreateFrom of a frozen source a Create and an ImmutableCapture;
-- CreateFunction itself, and what each capture's Capture comes to
abbrev pub weight : EffectKey → ℕ
weight k = ite (eqb k.code 10) 2 (suc (length k.captures))

-- how many walks an effect makes at the most
abbrev pub freezes : EffectKey → ℕ
freezes k = ite (eqb k.code 0) 1 0

-- members that weigh the same
pub total_same : {A : Type 0} (x : ℕ) (l : List A) → total (λ a. x) l ≡ x * length l
unfolding total
total_same x [] = omega arith
total_same x (a ∷ l) = let h = total_same x l in omega arith

-- a key has as many captures as its effect
-- they are the identifiers of the effect's
pub identifiers_length : (l : List Place) → length (identifiers l) ≡ length l
identifiers_length [] = refl
identifiers_length (p ∷ ps) = ap suc (identifiers_length ps)

-- a measure of the work, and what it can grow by: where an effect is listed, and in a walk
pub record Measure (T : Tables) : Type 0 where
  pub of : Work T → ℕ
  pub listing : ℕ
  pub walking : ℕ
  pub emits : (e : AliasingEffect) → Grows of listing (emit e)
  pub walks : (vs : List ℕ) (reason : ℕ) → Grows of walking (walk vs reason)
  pub marks : (i : ℕ) → Grows of 0 (put_initialized i)

module _ {T : Tables} (𝓜 : Measure T) where
  open 𝓜 use {of, listing, walking, emits, walks, marks}

  -- the most that the measure grows by in the step of an effect with that key
  abbrev pub cost : EffectKey → ℕ
  cost k = listing * weight k + walking * freezes k

  -- ---- parts of the step

  -- an effect is listed
  emit_grows : (e : AliasingEffect) → Grows of listing (emit e)
  emit_grows e = emits e

  -- "into a place already initialized in this instruction": 6
  -- else it is marked
  begin_grows : {b : ℕ} (i : ℕ) → Grows of b (begin i)
  unfolding begin
  begin_grows i = bind_keeps (is_initialized_grows i) (λ t. if_grows t (refuse_grows 6) (weaken (omega arith) (marks i)))

  -- what a flow comes to is one of three, or nothing
  by_flow_grows : {b : ℕ} (x : Flow) (i s m : M (World T) Done) → Grows of b i → Grows of b s → Grows of b m → Grows of b (by_flow x i s m)
  unfolding by_flow
  by_flow_grows Immutable i s m p q r = p
  by_flow_grows Same i s m p q r = q
  by_flow_grows Maybe i s m p q r = r
  by_flow_grows Nothing i s m p q r = done_grows

  -- what `search` finds the bound of an effect by
  -- the parts of the step
  ruleset parts = (base, emit_grows, begin_grows, by_flow_grows, kind_with_span_grows, kind_grows, assign_grows, number_for_grows, link_to_grows, intern_diagnostic_grows, is_initialized_grows, create_grows, any_written_grows, update_context_grows, mutate_grows)

  -- ---- one effect; a derived one lists at most one

  module _ (again : AliasingEffect → M (World T) Done) (one : (e : AliasingEffect) → weight (effect_key e) ≡ 1 → freezes (effect_key e) ≡ 0 → Grows of listing (again e)) where
    -- Capture, Alias and MaybeAlias: listed, or another is derived
    flowing_grows : (maybe : Bool) (e : AliasingEffect) (f i : Place) → Grows of listing (flowing again maybe e f i)
    unfolding flowing
    flowing_grows maybe e f i = search (parts, one) depth 8

    -- a value that cannot be modified: MutateFrozen or MutateGlobal
    report_modified_grows : (p : Place) (a : AbstractValue) → Grows of listing (report_modified again p a)
    unfolding report_modified
    report_modified_grows p a = search (parts, one) depth 10

    -- an access before the declaration
    report_hoisted_grows : (p : Place) → Grows of listing (report_hoisted again p)
    unfolding report_hoisted
    report_hoisted_grows p = search (parts, one) depth 10

    -- what a mutation lists, by its result
    report_grows : (e : AliasingEffect) (p : Place) (x : MutationResult) → Grows of listing (report again e p x)
    unfolding report
    report_grows e p Result.None = search parts
    report_grows e p Result.Mutate = search parts
    report_grows e p Result.MutateFrozen = search (parts, report_modified_grows, report_hoisted_grows) depth 10
    report_grows e p Result.MutateGlobal = search (parts, report_modified_grows) depth 10
    report_grows e p Result.MutateRef = search parts

    -- a mutation
    mutating_grows : (v : MutateVariant) (e : AliasingEffect) (p : Place) → Grows of listing (mutating again v e p)
    unfolding mutating
    mutating_grows v e p = search (parts, report_grows) depth 10

    -- Freeze: listed, and a walk
    freezing_grows : (p : Place) (reason : ℕ) → Grows of (listing + walking) (freezing again p reason)
    unfolding freezing
    freezing_grows p reason =
        bind_keeps (freeze_grows _ reason) (λ acts. if_grows acts (then_grows listing walking (emit_grows _) (bind_keeps (ask_grows _) (λ transitive.
        if_grows transitive (bind_keeps (set_of_grows _) (λ o. walks _ reason)) done_grows))) done_grows)

    -- Create: listed
    creating_grows : (p : Place) (k : ValueKind) (reason : ℕ) → Grows of listing (creating again p k reason)
    unfolding creating
    creating_grows p k reason = search parts depth 12

    -- ImmutableCapture: listed, unless its source is copied
    capturing_immutably_grows : (f i : Place) → Grows of listing (capturing_immutably again f i)
    unfolding capturing_immutably
    capturing_immutably_grows f i = search parts depth 12

    -- what is listed of a CreateFrom
    -- a Create and an ImmutableCapture where the source is frozen
    list_created_grows : (f i : Place) (a : AbstractValue) → Grows of (listing + listing) (list_created again f i a)
    unfolding list_created
    list_created_grows f i a =
        if_grows _ (weaken (omega arith) (emit_grows _)) (if_grows _ (then_grows listing listing (emit_grows _) (one _ refl refl)) (weaken (omega arith) (emit_grows _)))

    -- CreateFrom
    creating_from_grows : (f i : Place) → Grows of (listing + listing) (creating_from again f i)
    unfolding creating_from
    creating_from_grows f i = search (parts, list_created_grows) depth 12

    -- Assign: listed, or an ImmutableCapture is derived, or nothing
    assigning_grows : (f i : Place) → Grows of listing (assigning again f i)
    unfolding assigning
    assigning_grows f i =
        then_keeps (begin_grows _) (bind_keeps (kind_with_span_grows _ _) (λ a.
        if_grows _ (then_rest (one _ refl refl) (search parts)) (if_grows _ (search parts) (search parts))))

    -- CreateFunction: listed, and a Capture derived for each capture
    creating_function_grows : (cs : List Place) (f : ℕ) (i : Place) → Grows of (listing + total (λ c. listing) cs) (creating_function again cs f i)
    unfolding creating_function
    creating_function_grows cs f i =
        then_keeps (begin_grows _) (then_grows listing _ (emit_grows _) (bind_keeps (any_written_grows cs) (λ written.
        bind_keeps (ask_grows _) (λ places. bind_keeps (ask_grows _) (λ tracked. bind_keeps (ask_grows _) (λ refs.
        then_keeps (each_keeps places (λ p. update_context_grows f p)) (bind_keeps (number_for_grows _) (λ v.
        then_keeps (link_to_grows v f) (then_keeps (create_grows i v _) (each_grows (λ c. listing) cs (λ c. one _ refl refl)))))))))))

  -- one effect, whose derived effects cost what their keys say
  pub act_grows : (again : AliasingEffect → M (World T) Done) (e : AliasingEffect) → ((z : AliasingEffect) → Grows of (cost (effect_key z)) (again z)) → Grows of (cost (effect_key e)) (act again e)
  unfolding act
  act_grows again e h = go e
    where
      one : (z : AliasingEffect) → weight (effect_key z) ≡ 1 → freezes (effect_key z) ≡ 0 → Grows of listing (again z)
      one z p q =
          let u : listing * weight (effect_key z) ≡ listing * 1 = ap (λ (n : ℕ). listing * n) p in
          let v : walking * freezes (effect_key z) ≡ walking * 0 = ap (λ (n : ℕ). walking * n) q in
          weaken (omega arith) (h z)

      go : (e : AliasingEffect) → Grows of (cost (effect_key e)) (act again e)
      go (Freeze p r) = weaken (omega arith) (freezing_grows again one p r)
      go (Mutate p r) = weaken (omega arith) (mutating_grows again one _ _ p)
      go (MutateConditionally p) = weaken (omega arith) (mutating_grows again one _ _ p)
      go (MutateTransitive p) = weaken (omega arith) (mutating_grows again one _ _ p)
      go (MutateTransitiveConditionally p) = weaken (omega arith) (mutating_grows again one _ _ p)
      go (Capture f i) = weaken (omega arith) (flowing_grows again one false _ f i)
      go (Alias f i) = weaken (omega arith) (bind_keeps (is_initialized_grows _) (λ t. if_grows t (flowing_grows again one false _ f i) (refuse_grows 7)))
      go (MaybeAlias f i) = weaken (omega arith) (flowing_grows again one true _ f i)
      go (Assign f i) = weaken (omega arith) (assigning_grows again one f i)
      go (Create i k r) = weaken (omega arith) (creating_grows again one i k r)
      go (CreateFrom f i) = weaken (omega arith) (creating_from_grows again one f i)
      go (ImmutableCapture f i) = weaken (omega arith) (capturing_immutably_grows again one f i)
      go (CreateFunction cs f i) = let q : total (λ c. listing) cs ≡ listing * length (identifiers cs) = rw identifiers_length (total_same listing cs) in weaken (omega arith) (creating_function_grows again one cs f i)
      go (MutateFrozen p d) = weaken (omega arith) (emit_grows _)
      go (MutateGlobal p d) = weaken (omega arith) (emit_grows _)
      go (Impure p d) = weaken (omega arith) (emit_grows _)
      go (Render p) = weaken (omega arith) (emit_grows _)

-- ---- interning keeps the key

-- the one law of tables that the bounds need: what is found under a key has that key
abbrev pub Finding : Tables → Type 0
Finding T = (c : T.Context) (k : EffectKey) (e : AliasingEffect) → T.find_effect c k ≡ Some e → k ≡ effect_key e

module _ {T : Tables} (found : Finding T) (e : AliasingEffect) where
  -- the effect that is used has the key of the one that was given
  -- one found has it by the laws of the tables, a new one is the one given
  known : (o : Option AliasingEffect) → ((x : AliasingEffect) → o ≡ Some x → effect_key e ≡ effect_key x) → (w : World T) → Holds (λ x. effect_key e ≡ effect_key x) (intern_new e o w)
  unfolding intern_new ask ◌>>=◌ ◌>>◌ and_then when◌then◌else◌ return refuse put_effect change
  known (Some x) h w = refreshed_key e x (h x refl)
  known None h w = go (leb 2048 (T.interned_count w.rest.context))
    where
      go : (b : Bool) → Holds (λ x. effect_key e ≡ effect_key x) ((when b then refuse 8 else (put_effect {T = T} e >> return e)) w)
      go true = tt
      go false = refl

  -- "The first effect under a key of `effect_key` is used ever after"
  -- so that its key is that of the effect at hand
  pub intern_known : (w : World T) → Holds (λ x. effect_key e ≡ effect_key x) (intern_effect e w)
  unfolding intern_effect ask ◌>>=◌ and_then
  intern_known w = known (T.find_effect w.rest.context (effect_key e)) (found w.rest.context (effect_key e)) w

-- ---- an instruction

-- nothing initialized, listed or entered yet
abbrev pub started : (T : Tables) → Work T
started T = record { initialized = T.none_initialized; listed = T.none_listed; freeze_entries = 0; entries = 0 }

-- how many places the own function mutates inside, none without such a function
unfoldable pub mutated : (T : Tables) → Option ℕ → T.Context → ℕ
mutated T None c = 0
mutated T (Some f) c = length (T.mutated_inside c f)

-- how many effects an instruction lists at the most
abbrev pub lists : (T : Tables) → Instruction → T.Context → ℕ
lists T ins c = mutated T ins.own c + total (λ e. weight (effect_key e)) ins.candidates

-- how many walks an instruction makes at the most
abbrev pub walks_of : Instruction → ℕ
walks_of ins = total (λ e. freezes (effect_key e)) ins.candidates
