-- What the step goes by, and what comes after the part of a step that is done. Assumes nothing: these are definitions.
use Rattle.std.specs.Prelude.{List}
use Rattle.def_effects.specs.declared.Place.{Place}
use Rattle.def_effects.specs.declared.MutateVariant.TheVariants as Variant
use Rattle.def_effects.specs.Effects.{AliasingEffect}
use Rattle.def_transfer.specs.Monad.{M, Done, done}
use Rattle.def_transfer.specs.Tables.{World}
use Rattle.def_transfer.specs.Context.{emit}
use Rattle.lent_effects.specs.declared.AliasingEffect.{AliasingEffect as Head}
use Rattle.lent_effects.specs.Records.{effect_with}
use Rattle.lent_world.specs.World.{lent}
use Rattle.effect_acts.specs.declared.Act.{Act}
use Rattle.effect_acts.specs.declared.Act.TheVariants.{Plain, Mutating, Flowing, Assigning, CreatingFrom, CreatingFunction}
use Rattle.effect_acts.specs.declared.FlowKind.TheVariants as Kind
use Rattle.effect_acts.specs.declared.Next.{Next}
use Rattle.effect_acts.specs.declared.Next.TheVariants.{Nothing, Itself, Derived}

-- what an effect does, by its kind
-- the cases of `act` that go alike
unfoldable pub act_of : Head → Act
act_of (Head.Freeze p r) = Plain
act_of (Head.Mutate p r) = Mutating Variant.Mutate p
act_of (Head.MutateConditionally p) = Mutating Variant.MutateConditionally p
act_of (Head.MutateTransitive p) = Mutating Variant.MutateTransitive p
act_of (Head.MutateTransitiveConditionally p) = Mutating Variant.MutateTransitiveConditionally p
act_of (Head.Capture f i) = Flowing Kind.Capture f i
act_of (Head.Alias f i) = Flowing Kind.Alias f i
act_of (Head.MaybeAlias f i) = Flowing Kind.MaybeAlias f i
act_of (Head.Assign f i) = Assigning f i
act_of (Head.Create i k r) = Plain
act_of (Head.CreateFrom f i) = CreatingFrom f i
act_of (Head.ImmutableCapture f i) = Plain
act_of (Head.CreateFunction f i) = CreatingFunction f i
act_of (Head.MutateFrozen p d) = Plain
act_of (Head.MutateGlobal p d) = Plain
act_of (Head.Impure p d) = Plain
act_of (Head.Render p) = Plain

-- what comes next, by the step of a derived effect: nothing, the effect itself is listed, or another is derived
-- "A derived effect goes through the same step as a candidate"
unfoldable pub follow : (AliasingEffect → M (World lent) Done) → AliasingEffect → List Place → Next → M (World lent) Done
follow again e cs Nothing = done
follow again e cs Itself = emit e
follow again e cs (Derived x) = again (effect_with x cs)
