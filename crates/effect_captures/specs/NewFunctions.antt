-- Parts of CreateFunction under names of their own. Assumes nothing: these are definitions.
use Rattle.std.specs.Prelude.{ℕ, Bool, true, false, ◌||◌, List}
use Rattle.def_kinds.specs.declared.ValueKind.{ValueKind}
use Rattle.def_kinds.specs.declared.ValueKind.TheVariants.{Mutable, Frozen}
use Rattle.def_kinds.specs.Values.{mk}
use Rattle.def_effects.specs.declared.Place.{Place}
use Rattle.def_effects.specs.Effects.{CreateFunction}
use Rattle.def_effects.specs.Keys.{effect_key}
use Rattle.def_transfer.specs.Monad.{M, Done, ◌>>=◌, ◌>>◌}
use Rattle.def_transfer.specs.Tables.{World}
use Rattle.def_transfer.specs.Context.{get_or_create_value_id, link_to}
use Rattle.def_transfer.specs.Step.{create}
use Rattle.lent_world.specs.World.{lent}

-- the kind of a new function
-- "Mutable: a capture defined and Mutable or Context, or a tracked side effect, or a ref in the function's context"
abbrev pub function_kind : Bool → Bool → Bool → ValueKind
function_kind written tracked refs = elim (written || (tracked || refs)) [ true ↦ Mutable | false ↦ Frozen ]

-- a new function gets its number, its link and its place
-- the definition's CreateFunction after its context places were updated
unfoldable pub linked : List Place → ℕ → Place → ValueKind → M (World lent) Done
linked captures f into k = do
  v ← get_or_create_value_id (effect_key (CreateFunction captures f into))
  link_to v f
  create into v (mk k 0)
