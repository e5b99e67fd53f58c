-- The step of an effect (document 01, module 5; `apply_effect` without Apply). Assumes nothing: these are definitions.
use Rattle.std.specs.Prelude.{ℕ, zero, suc, Bool, true, false, ◌&&◌, ◌||◌, List, [], ◌∷◌, eqb}
use Rattle.def_kinds.specs.declared.ValueKind.{ValueKind}
use Rattle.def_kinds.specs.declared.ValueKind.TheVariants.{Mutable, Frozen, Primitive, MaybeFrozen, Global, Context}
use Rattle.def_kinds.specs.declared.AbstractValue.{AbstractValue}
use Rattle.def_kinds.specs.Kinds.{writable, copied, is_frozen}
use Rattle.def_kinds.specs.Reasons as Reasons
use Rattle.def_kinds.specs.Values.{mk}
use Rattle.def_effects.specs.declared.Span.{Span}
use Rattle.def_effects.specs.declared.Place.{Place}
use Rattle.def_effects.specs.declared.MutateVariant.{MutateVariant}
use Rattle.def_effects.specs.declared.MutateVariant.TheVariants as Variant
use Rattle.def_effects.specs.declared.MutationResult.{MutationResult}
use Rattle.def_effects.specs.declared.MutationResult.TheVariants as Result
use Rattle.def_effects.specs.Places as Places
use Rattle.def_effects.specs.Places.{no_span, eq_span}
use Rattle.def_effects.specs.Mutation.{is_strict, result_of}
use Rattle.def_effects.specs.Effects.{AliasingEffect, Freeze, Mutate, MutateConditionally, MutateTransitive, MutateTransitiveConditionally, Capture, Alias, MaybeAlias, Assign, Create, CreateFrom, ImmutableCapture, CreateFunction, MutateFrozen, MutateGlobal, Impure, Render}
use Rattle.def_effects.specs.Keys.{effect_key, two, AssignFrozen, AssignCopy}
use Rattle.def_transfer.specs.Monad.{M, Done, ◌>>=◌, ◌>>◌, return, refuse, done, when◌then◌else◌, each}
use Rattle.def_transfer.specs.Diagnostics.{Diagnostic, cannot_be_modified, accessed_before}
use Rattle.def_transfer.specs.Tables.{Tables, Rest, World}
use Rattle.def_transfer.specs.State.{ask, set_of, peek, initialize, kind_at, kind, define, assign, freeze}
use Rattle.base_sets.specs.Members.{values_of}
use Rattle.base_tests.specs.Tests.{is_some}
use Rattle.def_transfer.specs.Context.{intern_effect, get_or_create_value_id, link_to, function_context, make_read, intern_diagnostic, emit, is_initialized, begin}
use Rattle.def_transfer.specs.Walk.{walk}

-- ---- what flows between two places

-- what Capture, Alias and MaybeAlias come to
pub data Flow : Type 0 where
  Immutable Same Maybe Nothing : Flow

-- "source_type": MaybeFrozen counts as frozen, Global and Primitive as nothing
pub data Source : Type 0 where
  FromContext FromNothing FromFrozen FromMutable : Source

abbrev pub source_of : ValueKind → Source
source_of Mutable = FromMutable
source_of Frozen = FromFrozen
source_of Primitive = FromNothing
source_of MaybeFrozen = FromFrozen
source_of Global = FromNothing
source_of Context = FromContext

-- "destination_type": MaybeFrozen counts as mutable, Frozen, Primitive and Global as nothing
pub data Destination : Type 0 where
  IntoContext IntoMutable IntoNothing : Destination

abbrev pub destination_of : ValueKind → Destination
destination_of Mutable = IntoMutable
destination_of Frozen = IntoNothing
destination_of Primitive = IntoNothing
destination_of MaybeFrozen = IntoMutable
destination_of Global = IntoNothing
destination_of Context = IntoContext

-- frozen: an ImmutableCapture; mutable into mutable, and MaybeAlias: the effect itself; by way of a context: a MaybeAlias
unfoldable pub flow_of : Bool → Destination → Source → Flow
flow_of maybe into FromFrozen = Immutable
flow_of true into FromMutable = Same
flow_of true into FromContext = Same
flow_of true into FromNothing = Same
flow_of false IntoMutable FromMutable = Same
flow_of false IntoContext FromMutable = Maybe
flow_of false IntoNothing FromMutable = Nothing
flow_of false IntoMutable FromContext = Maybe
flow_of false IntoContext FromContext = Maybe
flow_of false IntoNothing FromContext = Nothing
flow_of false into FromNothing = Nothing

abbrev mutable_if : Bool → ValueKind
mutable_if true = Mutable
mutable_if false = Frozen

-- ---- diagnostics of a mutation that is an error

-- case 0: the place's own span is the one label
abbrev pub modified : Place → ℕ → AbstractValue → Diagnostic
modified p name a = record { identifier = p.identifier; case = cannot_be_modified; sentence = Reasons.get_write_error_reason a.reason; name = name; access = no_span; own = p.span }

-- case 1: the access span, unless it equals the place's, then the place's
abbrev pub hoisted_access : Place → ℕ → Span → Diagnostic
hoisted_access p name access = record { identifier = p.identifier; case = accessed_before; sentence = 0; name = name; access = elim (eq_span access p.span) [ true ↦ no_span | false ↦ access ]; own = p.span }

module _ {T : Tables} where
  abbrev pub ref_flag : ℕ → Rest T → Bool
  ref_flag i r = T.is_ref r.context i

  -- ---- parts of the step

  -- the place gets the one value v, of that kind and those reasons
  unfoldable pub create : Place → ℕ → AbstractValue → M (World T) Done
  create into v a = do
    initialize v a
    define into.identifier v

  -- a capture that is defined and can be written; no access is recorded
  unfoldable pub is_written : Place → M (World T) Bool
  is_written p = do
    o ← set_of p.identifier
    a ← peek p.identifier
    return (is_some o && writable a.kind)

  unfoldable pub any_written : List Place → M (World T) Bool
  any_written [] = return false
  any_written (p ∷ ps) = do
    b ← is_written p
    when b then return true else any_written ps

  unfoldable pub any_ref : List Place → Rest T → Bool
  any_ref [] r = false
  any_ref (p ∷ ps) r = ref_flag p.identifier r || any_ref ps r

  -- "turns a Capture context place of its function into Read where that place is defined and Primitive, Frozen or Global"
  unfoldable pub update_context : ℕ → Place → M (World T) Done
  update_context f p = do
    o ← set_of p.identifier
    a ← peek p.identifier
    when eqb p.effect Places.Capture && (is_some o && (copied a.kind || is_frozen a.kind)) then make_read f p.identifier else done

  unfoldable pub by_flow : Flow → M (World T) Done → M (World T) Done → M (World T) Done → M (World T) Done
  by_flow Immutable i s m = i
  by_flow Same i s m = s
  by_flow Maybe i s m = m
  by_flow Nothing i s m = done

  -- `mutate_with_span`
  unfoldable pub mutate : MutateVariant → Place → M (World T) MutationResult
  mutate variant p = do
    ref ← ask (ref_flag p.identifier)
    when ref then return Result.MutateRef else (do
      a ← kind_at p
      return (result_of (is_strict variant) a.kind))

  -- ---- one effect; `again` is the step of a derived effect

  module _ (again : AliasingEffect → M (World T) Done) where
    -- Capture, Alias and MaybeAlias: the destination's kind, then the source's, each with its span
    unfoldable pub flowing : Bool → AliasingEffect → Place → Place → M (World T) Done
    flowing maybe e from into = do
      i ← kind_at into
      f ← kind_at from
      by_flow (flow_of maybe (destination_of i.kind) (source_of f.kind)) (again (ImmutableCapture from into)) (emit e) (again (MaybeAlias from into))

    -- a value that cannot be modified: MutateFrozen where it is Frozen, else MutateGlobal
    unfoldable pub report_modified : Place → AbstractValue → M (World T) Done
    report_modified p a = do
      name ← ask (λ r. T.name_of r.context p.identifier)
      d ← intern_diagnostic (modified p name a)
      when is_frozen a.kind then again (MutateFrozen p d) else again (MutateGlobal p d)

    -- an access before the declaration
    unfoldable pub report_hoisted : Place → M (World T) Done
    report_hoisted p = do
      name ← ask (λ r. T.name_of r.context p.identifier)
      access ← ask (λ r. T.access_span r.context p.identifier)
      d ← intern_diagnostic (hoisted_access p name access)
      again (MutateFrozen p d)

    -- what a mutation lists, by its result
    unfoldable pub report : AliasingEffect → Place → MutationResult → M (World T) Done
    report e p Result.None = done
    report e p Result.MutateRef = done
    report e p Result.Mutate = emit e
    report e p Result.MutateGlobal = do
      a ← kind p.identifier
      report_modified p a
    report e p Result.MutateFrozen = do
      a ← kind p.identifier
      hoisted ← ask (λ r. T.is_hoisted r.context p.identifier)
      when hoisted then report_hoisted p else report_modified p a

    unfoldable pub mutating : MutateVariant → AliasingEffect → Place → M (World T) Done
    mutating variant e p = do
      result ← mutate variant p
      report e p result

    -- the values of the frozen place are walked "(either option on)"
    unfoldable pub freezing : Place → ℕ → M (World T) Done
    freezing p reason = do
      acts ← freeze p.identifier reason
      when acts
          then (do
            emit (Freeze p reason)
            transitive ← ask (λ r. T.is_transitive r.context)
            when transitive
                then (do
                  o ← set_of p.identifier
                  walk (values_of o) reason)
                else done)
          else done

    unfoldable pub creating : Place → ValueKind → ℕ → M (World T) Done
    creating into k reason = do
      begin into.identifier
      v ← get_or_create_value_id (effect_key (Create into k reason))
      create into v (mk k (Reasons.single reason))
      emit (Create into k reason)

    unfoldable pub capturing_immutably : Place → Place → M (World T) Done
    capturing_immutably from into = do
      a ← kind from.identifier
      when copied a.kind then done else emit (ImmutableCapture from into)

    -- what is listed of a CreateFrom, by the source's kind; "The Create that CreateFrom emits" is not interned
    unfoldable pub list_created : Place → Place → AbstractValue → M (World T) Done
    list_created from into a =
        when copied a.kind
        then emit (Create into a.kind (Reasons.primary_reason a.reason))
        else when is_frozen a.kind
        then (do
          emit (Create into a.kind (Reasons.primary_reason a.reason))
          again (ImmutableCapture from into))
        else emit (CreateFrom from into)

    unfoldable pub creating_from : Place → Place → M (World T) Done
    creating_from from into = do
      begin into.identifier
      a ← kind from.identifier
      v ← get_or_create_value_id (effect_key (CreateFrom from into))
      create into v a
      list_created from into a

    unfoldable pub assigning : Place → Place → M (World T) Done
    assigning from into = do
      begin into.identifier
      a ← kind_at from
      when is_frozen a.kind
          then (do
            again (ImmutableCapture from into)
            v ← get_or_create_value_id (two AssignFrozen from into)
            create into v a)
          else when copied a.kind
          then (do
            v ← get_or_create_value_id (two AssignCopy from into)
            create into v a)
          else (do
            assign into.identifier from.identifier
            emit (Assign from into))

    unfoldable pub creating_function : List Place → ℕ → Place → M (World T) Done
    creating_function captures f into = do
      begin into.identifier
      emit (CreateFunction captures f into)
      written ← any_written captures
      places ← ask (function_context f)
      tracked ← ask (λ r. T.has_tracked_side_effect r.context f)
      refs ← ask (any_ref places)
      each places (update_context f)
      v ← get_or_create_value_id (effect_key (CreateFunction captures f into))
      link_to v f
      create into v (mk (mutable_if (written || (tracked || refs))) 0)
      each captures (λ c. again (Capture c into))

    unfoldable pub act : AliasingEffect → M (World T) Done
    act (Freeze p reason) = freezing p reason
    act (Mutate p reason) = mutating Variant.Mutate (Mutate p reason) p
    act (MutateConditionally p) = mutating Variant.MutateConditionally (MutateConditionally p) p
    act (MutateTransitive p) = mutating Variant.MutateTransitive (MutateTransitive p) p
    act (MutateTransitiveConditionally p) = mutating Variant.MutateTransitiveConditionally (MutateTransitiveConditionally p) p
    act (Capture from into) = flowing false (Capture from into) from into
    act (Alias from into) = do
      b ← is_initialized into.identifier
      when b then flowing false (Alias from into) from into else refuse 7
    act (MaybeAlias from into) = flowing true (MaybeAlias from into) from into
    act (Assign from into) = assigning from into
    act (Create into k reason) = creating into k reason
    act (CreateFrom from into) = creating_from from into
    act (ImmutableCapture from into) = capturing_immutably from into
    act (CreateFunction captures f into) = creating_function captures f into
    act (MutateFrozen p d) = emit (MutateFrozen p d)
    act (MutateGlobal p d) = emit (MutateGlobal p d)
    act (Impure p d) = emit (Impure p d)
    act (Render p) = emit (Render p)

  -- "A derived effect goes through the same step as a candidate": interned, then acted on; the depth of derivation falls.
  -- CreateFunction derives Capture, that MaybeAlias or ImmutableCapture, so a depth of 4 is never used up (proved).
  unfoldable pub apply_effect : ℕ → AliasingEffect → M (World T) Done
  apply_effect zero e = refuse 99
  apply_effect (suc d) e = intern_effect e >>= act (apply_effect d)
