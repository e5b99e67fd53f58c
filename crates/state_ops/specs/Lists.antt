-- What the operations of a state do to the lists that it is lent as. Assumes nothing: these are definitions.
use Rattle.std.specs.Prelude.{ℕ, Bool, true, false, ◌&&◌, List, [], ◌∷◌, eqb, Option, None, Some}
use Rattle.base_sets.specs.Members.{singleton, union, values_of, bits_of}
use Rattle.def_kinds.specs.declared.ValueKind.TheVariants.{Frozen}
use Rattle.def_kinds.specs.declared.AbstractValue.{AbstractValue}
use Rattle.def_kinds.specs.Kinds.{freezable}
use Rattle.def_kinds.specs.Reasons.{single}
use Rattle.def_kinds.specs.Values.{mk, default}
use Rattle.def_transfer.specs.State.{kind_of, from_identifier}
use Rattle.base_tests.specs.Tests.{is_some}
use Rattle.lent_values.specs.Cells.{value_at, put_value}
use Rattle.lent_sets.specs.Rows.{set_at, put_set}

-- a value made Frozen with one reason, in the list of values
-- "every value of the set becomes Frozen with that one reason"
abbrev pub frozen : List ℕ → ℕ → ℕ → List ℕ
frozen vs v reason = put_value vs v (mk Frozen (single reason))

-- each of some values becomes Frozen with one reason
unfoldable pub freeze_all : ℕ → List ℕ → List ℕ → List ℕ
freeze_all reason [] vs = vs
freeze_all reason (m ∷ ms) vs = freeze_all reason ms (frozen vs m reason)

-- whether a freeze acts on a place
unfoldable pub freezes : List ℕ → List ℕ → ℕ → Bool
freezes vs ss i = is_some (set_at ss i) && freezable (kind_of (value_at vs) (set_at ss i)).kind

-- the values after a freeze of a place
unfoldable pub frozen_values : List ℕ → List ℕ → ℕ → ℕ → List ℕ
frozen_values vs ss i reason = elim (freezes vs ss i) [ true ↦ freeze_all reason (values_of (set_at ss i)) vs | false ↦ vs ]

-- an entry where none stands yet
abbrev pub inserted : List ℕ → ℕ → Option AbstractValue → List ℕ
inserted vs v None = put_value vs v default
inserted vs v (Some a) = vs

-- the own value of a place, Mutable {Other} where it had no entry
unfoldable pub own_inserted : List ℕ → ℕ → List ℕ
own_inserted vs from = inserted vs (from_identifier from) (value_at vs (from_identifier from))

abbrev pub own_value : List ℕ → ℕ → Option ℕ → List ℕ
own_value vs from None = own_inserted vs from
own_value vs from (Some s) = vs

-- the values after an assignment from a place: an undefined one gets its own value
unfoldable pub assigned_values : List ℕ → List ℕ → ℕ → List ℕ
assigned_values vs ss from = own_value vs from (set_at ss from)

-- the sets with the own value of a place as another's set
unfoldable pub own_sets : List ℕ → ℕ → ℕ → List ℕ
own_sets ss into from = put_set ss into (singleton (from_identifier from))

abbrev pub set_or_own : List ℕ → ℕ → ℕ → Option ℕ → List ℕ
set_or_own ss into from None = own_sets ss into from
set_or_own ss into from (Some s) = put_set ss into s

-- the sets after it
unfoldable pub assigned_sets : List ℕ → ℕ → ℕ → List ℕ
assigned_sets ss into from = set_or_own ss into from (set_at ss from)

-- the union of the sets of some places, onto one in hand
unfoldable pub unions : List ℕ → List ℕ → ℕ → ℕ
unions ss [] s = s
unions ss (i ∷ is) s = unions ss is (union s (bits_of (set_at ss i)))

-- the sets after a phi: a place whose union is empty stays
unfoldable pub phi_sets : List ℕ → ℕ → List ℕ → List ℕ
phi_sets ss place operands = elim (eqb (unions ss operands 0) 0) [ true ↦ ss | false ↦ put_set ss place (unions ss operands 0) ]
