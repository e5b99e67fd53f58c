-- The transfer of an instruction (`apply_signature`): the early errors of its own function, its candidates in order, the lvalue.
-- Assumes nothing: these are definitions.
use Rattle.std.specs.Prelude.{ℕ, zero, suc, Bool, false, ◌&&◌, ◌||◌, List, [], ◌∷◌, eqb, Option, None, Some}
use Rattle.def_kinds.specs.Kinds.{is_frozen}
use Rattle.def_effects.specs.declared.Place.{Place}
use Rattle.def_effects.specs.Places.{identifiers}
use Rattle.def_effects.specs.Effects.{AliasingEffect, MutateFrozen}
use Rattle.def_transfer.specs.Monad.{M, Done, ◌>>◌, done, when◌then◌else◌, each, atomically, ◌>>=◌}
use Rattle.def_transfer.specs.Tables.{Tables, Rest, World}
use Rattle.def_transfer.specs.State.{default, from_identifier, ask, change, set_of, peek, initialize, define}
use Rattle.base_tests.specs.Tests.{is_some}
use Rattle.def_transfer.specs.Context.{on_work, function_context, intern_diagnostic, emit}
use Rattle.def_transfer.specs.Step.{modified, apply_effect}

-- "An instruction is its candidates with their places and captures, its lvalue, and its own function if it has one."
pub record Instruction : Type 0 where
  pub candidates : List AliasingEffect
  pub lvalue : Place
  pub own : Option ℕ

unfoldable pub has : ℕ → List ℕ → Bool
has i [] = false
has i (j ∷ js) = eqb i j || has i js

module _ {T : Tables} where
  -- "MutateFrozen of a function instruction": where the place is defined and Frozen; always case 0, not interned, no access recorded
  unfoldable pub report_early : Place → M (World T) Done
  report_early p = do
    o ← set_of p.identifier
    a ← peek p.identifier
    name ← ask (λ r. T.name_of r.context p.identifier)
    when is_some o && is_frozen a.kind
        then (do
          d ← intern_diagnostic (modified p name a)
          emit (MutateFrozen p d))
        else done

  -- a place that the own function mutates inside, if it is of that function's context
  unfoldable pub early_error : ℕ → Place → M (World T) Done
  early_error f p = do
    near ← ask (λ r. has p.identifier (identifiers (function_context f r)))
    when near then report_early p else done

  unfoldable pub early_errors : Option ℕ → M (World T) Done
  early_errors None = done
  early_errors (Some f) = do
    places ← ask (λ r. T.mutated_inside r.context f)
    each places (early_error f)

  -- "Last, an undefined lvalue becomes defined as its own value, Mutable {Other}."
  unfoldable pub define_lvalue : ℕ → M (World T) Done
  define_lvalue i = do
    o ← set_of i
    when is_some o then done else (do
      initialize (from_identifier i) default
      define i (from_identifier i))

  -- nothing initialized, listed or entered yet
  unfoldable pub start_instruction : M (World T) Done
  start_instruction = change (on_work λ k. record { initialized = T.none_initialized; listed = T.none_listed; freeze_entries = 0; entries = 0 })

  -- "Its walk entries are those of the last instruction that wasn't refused, over all its Freezes."
  abbrev pub keep_entries : Rest T → Rest T
  keep_entries r = record { session = record { next = r.session.next; access = r.session.access; span = r.session.span; entries = r.work.entries }; context = r.context; work = r.work }

  unfoldable pub run : Instruction → M (World T) Done
  run ins = do
    early_errors ins.own
    each ins.candidates (apply_effect 4)
    define_lvalue ins.lvalue.identifier
    change keep_entries

  -- the call for an instruction: "After a refusal state, context and session are as before; output list and scratch are zero."
  unfoldable pub apply_signature : Instruction → M (World T) Done
  apply_signature ins = start_instruction >> atomically (run ins)

-- "own function + 1 or 0"
abbrev pub own_of : ℕ → Option ℕ
own_of zero = None
own_of (suc f) = Some f
