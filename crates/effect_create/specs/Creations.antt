-- Parts of Assign under names of their own. Assumes nothing: these are definitions.
use Rattle.std.specs.Prelude.{ℕ}
use Rattle.def_kinds.specs.declared.AbstractValue.{AbstractValue}
use Rattle.def_kinds.specs.Kinds.{copied, is_frozen}
use Rattle.def_effects.specs.declared.Place.{Place}
use Rattle.def_effects.specs.Effects.{AliasingEffect, Assign, ImmutableCapture}
use Rattle.def_effects.specs.Keys.{two, AssignFrozen, AssignCopy}
use Rattle.def_transfer.specs.Monad.{M, Done, when◌then◌else◌, ◌>>=◌, ◌>>◌}
use Rattle.def_transfer.specs.Tables.{World}
use Rattle.def_transfer.specs.State as State
use Rattle.def_transfer.specs.Context.{get_or_create_value_id, emit}
use Rattle.def_transfer.specs.Step.{create}
use Rattle.lent_world.specs.World.{lent}

-- a place gets the number under a key of two places, with a value
-- the end of an Assign of what is frozen or copied
unfoldable pub numbered : ℕ → Place → Place → AbstractValue → M (World lent) Done
numbered code from into a = do
  v ← get_or_create_value_id (two code from into)
  create into v a

-- an Assign of what is not frozen, once its source was looked at
-- the definition's last two cases
unfoldable pub assigned : Place → Place → AbstractValue → M (World lent) Done
assigned from into a =
    when copied a.kind
    then numbered AssignCopy from into a
    else (do
      State.assign into.identifier from.identifier
      emit (Assign from into))

-- an Assign, once its source was looked at
-- what is frozen is captured first, and takes its number afterwards
unfoldable pub assigning : (AliasingEffect → M (World lent) Done) → Place → Place → AbstractValue → M (World lent) Done
assigning again from into a =
    when is_frozen a.kind
    then (do
      again (ImmutableCapture from into)
      numbered AssignFrozen from into a)
    else assigned from into a
