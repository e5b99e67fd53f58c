-- Capture, Alias and MaybeAlias as one. Assumes nothing: these are definitions.
use Rattle.std.specs.Prelude.{true, false}
use Rattle.def_effects.specs.declared.Place.{Place}
use Rattle.def_effects.specs.Effects.{AliasingEffect}
use Rattle.def_transfer.specs.Monad.{M, Done, refuse, when◌then◌else◌, ◌>>=◌}
use Rattle.def_transfer.specs.Tables.{World}
use Rattle.def_transfer.specs.Context.{is_initialized}
use Rattle.def_transfer.specs.Step.{flowing}
use Rattle.effect_acts.specs.declared.FlowKind.{FlowKind}
use Rattle.effect_acts.specs.declared.FlowKind.TheVariants as Kind
use Rattle.lent_world.specs.World.{lent}

-- a flow between two places; an Alias asks first that its destination was initialized in this instruction
-- "7 Alias into one not initialized in it": the cases of `act` for Capture, Alias and MaybeAlias, and an Alias that flows like a MaybeAlias
unfoldable pub flows : (AliasingEffect → M (World lent) Done) → FlowKind → AliasingEffect → Place → Place → M (World lent) Done
flows again Kind.Capture e from into = flowing again false e from into
flows again Kind.Alias e from into = do
  b ← is_initialized into.identifier
  when b then flowing again false e from into else refuse 7
flows again Kind.MaybeAlias e from into = flowing again true e from into
flows again Kind.AliasAsMaybe e from into = do
  b ← is_initialized into.identifier
  when b then flowing again true e from into else refuse 7
