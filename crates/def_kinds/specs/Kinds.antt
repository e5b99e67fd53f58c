-- Kinds, their numbers and their join (document 01, module 1). Assumes nothing: these are definitions.
use Rattle.std.specs.Prelude.{ℕ, Bool, true, false, List, [], ◌∷◌, get_or}
use Rattle.def_kinds.specs.declared.ValueKind.{ValueKind}
use Rattle.def_kinds.specs.declared.ValueKind.TheVariants.{Mutable, Frozen, Primitive, MaybeFrozen, Global, Context}

-- "Kinds 0..5: Mutable, Frozen, Primitive, MaybeFrozen, Global, Context."
abbrev pub code_of : ValueKind → ℕ
code_of Mutable = 0
code_of Frozen = 1
code_of Primitive = 2
code_of MaybeFrozen = 3
code_of Global = 4
code_of Context = 5

abbrev pub all_kinds : List ValueKind
all_kinds = Mutable ∷ Frozen ∷ Primitive ∷ MaybeFrozen ∷ Global ∷ Context ∷ []

-- the kind of a number; one above 5 is no kind, and reads as MaybeFrozen
unfoldable pub kind_at : ℕ → ValueKind
kind_at n = get_or all_kinds n MaybeFrozen

-- "kinds by the table below": a row for the first, a column for the second
unfoldable pub join_table : List (List ℕ)
join_table =
    (0 ∷ 3 ∷ 0 ∷ 3 ∷ 0 ∷ 5 ∷ [])
    ∷ (3 ∷ 1 ∷ 1 ∷ 3 ∷ 1 ∷ 3 ∷ [])
    ∷ (0 ∷ 1 ∷ 2 ∷ 3 ∷ 4 ∷ 5 ∷ [])
    ∷ (3 ∷ 3 ∷ 3 ∷ 3 ∷ 3 ∷ 3 ∷ [])
    ∷ (0 ∷ 1 ∷ 4 ∷ 3 ∷ 4 ∷ 5 ∷ [])
    ∷ (5 ∷ 3 ∷ 5 ∷ 3 ∷ 5 ∷ 5 ∷ [])
    ∷ []

unfoldable pub join_kind : ValueKind → ValueKind → ValueKind
join_kind a b = kind_at (get_or (get_or join_table (code_of a) []) (code_of b) 0)

-- "Freeze acts on defined places that are Mutable, Context or MaybeFrozen"
abbrev pub freezable : ValueKind → Bool
freezable Mutable = true
freezable Frozen = false
freezable Primitive = false
freezable MaybeFrozen = true
freezable Global = false
freezable Context = true

-- "yes if its kind is Mutable or Context, else no"
abbrev pub writable : ValueKind → Bool
writable Mutable = true
writable Frozen = false
writable Primitive = false
writable MaybeFrozen = false
writable Global = false
writable Context = true

-- copies of such a kind share nothing: no data flow is tracked
abbrev pub copied : ValueKind → Bool
copied Mutable = false
copied Frozen = false
copied Primitive = true
copied MaybeFrozen = false
copied Global = true
copied Context = false

abbrev pub is_frozen : ValueKind → Bool
is_frozen Mutable = false
is_frozen Frozen = true
is_frozen Primitive = false
is_frozen MaybeFrozen = false
is_frozen Global = false
is_frozen Context = false
