-- The freeze walk (document 01, module 4; `freeze_function_captures_transitive`). Assumes nothing: these are definitions.
use Rattle.std.specs.Prelude.{ℕ, zero, suc, List}
use Rattle.def_effects.specs.declared.Place.{Place}
use Rattle.def_transfer.specs.Monad.{M, Done, ◌>>◌, refuse, each, ◌>>=◌}
use Rattle.def_transfer.specs.Tables.{Tables, World}
use Rattle.def_transfer.specs.State.{ask, to_freeze, freeze_value}
use Rattle.base_sets.specs.Members.{values_of}
use Rattle.def_transfer.specs.Context.{linked_context, start_freeze, count_entry}

module _ {T : Tables} where
  -- "the walk freezes and enters each of that set's values, ascending"
  unfoldable pub freeze_and_enter : (ℕ → M (World T) Done) → ℕ → ℕ → M (World T) Done
  freeze_and_enter further reason v = do
    freeze_value reason v
    further v

  -- "where a defined place there is Mutable, Context or MaybeFrozen"
  unfoldable pub enter_place : (ℕ → M (World T) Done) → ℕ → Place → M (World T) Done
  enter_place further reason p = do
    o ← to_freeze p.identifier
    each (values_of o) (freeze_and_enter further reason)

  -- "Entering a value with a function looks at that function's context in order"
  unfoldable pub enter_context : (ℕ → M (World T) Done) → ℕ → ℕ → M (World T) Done
  enter_context further reason v = do
    places ← ask (linked_context v)
    each places (enter_place further reason)

  -- "Each entry is counted, repeats too." An entry lies one deeper than the one it comes from, so a depth of 4,097 is never used up.
  unfoldable pub freeze_function_captures_transitive : ℕ → ℕ → ℕ → M (World T) Done
  freeze_function_captures_transitive zero reason v = refuse 11
  freeze_function_captures_transitive (suc d) reason v = count_entry >> enter_context (freeze_function_captures_transitive d reason) reason v

  -- "It enters each value of the frozen place."
  unfoldable pub walk : List ℕ → ℕ → M (World T) Done
  walk vs reason = start_freeze >> each vs (freeze_function_captures_transitive 4097 reason)
