-- What an effect does, by its kind, at the lent tables. Assumes nothing: these are definitions.
use Rattle.std.specs.Prelude.{Bool, true, false, List}
use Rattle.def_effects.specs.declared.Place.{Place}
use Rattle.def_effects.specs.Effects.{AliasingEffect}
use Rattle.def_transfer.specs.Monad.{M, Done}
use Rattle.def_transfer.specs.Tables.{World}
use Rattle.def_transfer.specs.Step as Step
use Rattle.lent_world.specs.World.{lent}
use Rattle.effect_acts.specs.declared.Act.{Act}
use Rattle.effect_acts.specs.declared.Act.TheVariants.{Plain, Mutating, Flowing, Assigning, CreatingFrom, CreatingFunction}
use Rattle.effect_flow.specs.Flows.{flows}

-- what an effect does, by its kind; the captures are those of a CreateFunction
-- `act` of the definition, its cases put together that go alike
unfoldable pub does : (AliasingEffect → M (World lent) Done) → AliasingEffect → List Place → Act → M (World lent) Done
does again e cs Plain = Step.act again e
does again e cs (Mutating v p) = Step.mutating again v e p
does again e cs (Flowing kind from into) = flows again kind e from into
does again e cs (Assigning from into) = Step.assigning again from into
does again e cs (CreatingFrom from into) = Step.creating_from again from into
does again e cs (CreatingFunction f into) = Step.creating_function again cs f into

-- whether an effect creates a function
abbrev pub creates : Act → Bool
creates Plain = false
creates (Mutating v p) = false
creates (Flowing kind from into) = false
creates (Assigning from into) = false
creates (CreatingFrom from into) = false
creates (CreatingFunction f into) = true
