-- The context places of a function copied to a slice, and which of them become Read. Assumes nothing: these are definitions.
use Rattle.std.specs.Prelude.{ℕ, List, set, Bool, ◌&&◌, ◌||◌, eqb}
use Rattle.base_tests.specs.Tests.{is_some}
use Rattle.def_kinds.specs.declared.ValueKind.{ValueKind}
use Rattle.def_kinds.specs.Kinds.{copied, is_frozen}
use Rattle.def_effects.specs.declared.Place.{Place}
use Rattle.def_effects.specs.Places as Places
use Rattle.def_transfer.specs.State.{kind_of}
use Rattle.lent_values.specs.Cells.{value_at}
use Rattle.lent_sets.specs.Rows.{set_at}
use Rattle.lent_tables.specs.Words.{field, copied_words}
use Rattle.lent_layout.specs.Layout as Layout
use Rattle.lent_layout.specs.Context.{ContextWords}

-- the count, then all eighty words
-- the places change while they are gone through
unfoldable pub copied_context : ContextWords → ℕ → List ℕ → List ℕ
copied_context c f ws = copied_words Layout.contexts c.contexts f 0 80 (set ws 0 (field Layout.functions c.functions f 1)) 1

-- the kind of a place by what is lent
abbrev pub lent_kind : List ℕ → List ℕ → ℕ → ValueKind
lent_kind vs ss i = (kind_of (value_at vs) (set_at ss i)).kind

-- a Capture of a place that is defined and Primitive, Frozen or Global
-- what the definition's `update_context` asks
unfoldable pub becomes_read : List ℕ → List ℕ → Place → Bool
becomes_read vs ss p =
    eqb p.effect Places.Capture
    && (is_some (set_at ss p.identifier)
    && (copied (lent_kind vs ss p.identifier) || is_frozen (lent_kind vs ss p.identifier)))
