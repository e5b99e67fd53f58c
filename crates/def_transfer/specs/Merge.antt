-- Two states: merge, merge_from, and above or equal (document 01, module 2). Assumes nothing: these are definitions.
use Rattle.std.specs.Prelude.{ℕ, Bool, true, false, not, ◌&&◌, ◌||◌, eqb, Option, None, Some}
use Rattle.base_orders.specs.Options.{join_option, join_table}
use Rattle.base_sets.specs.Members.{union}
use Rattle.def_kinds.specs.declared.AbstractValue.{AbstractValue}
use Rattle.def_kinds.specs.Kinds.{code_of}
use Rattle.def_kinds.specs.Values as Values
use Rattle.def_effects.specs.declared.Session.{Session}
use Rattle.def_transfer.specs.Tables.{Tables, State}
use Rattle.base_tests.specs.Tests.{all_below, any_below}

-- the entries of a state, however it is held
pub record Entries : Type 0 where
  pub value : ℕ → Option AbstractValue
  pub set : ℕ → Option ℕ

abbrev pub entries_of : (T : Tables) → State T → Entries
entries_of T s = record { value = T.value_of s.values; set = T.set_of s.sets }

abbrev pub nothing : Entries
nothing = record { value = λ v. None; set = λ i. None }

-- ---- the joined state: an entry of either, or the join of both

unfoldable pub joined : Entries → Entries → Entries
joined s t = record { value = join_table Values.join s.value t.value; set = join_table union s.set t.set }

-- ---- above or equal: "it has each value entry and each defined identifier of the other, joining the other's kind onto its own leaves its own, and its reasons and sets contain the other's"

unfoldable pub value_above : Option AbstractValue → Option AbstractValue → Bool
value_above x None = true
value_above None (Some b) = false
value_above (Some a) (Some b) = Values.above a b

unfoldable pub set_above : Option ℕ → Option ℕ → Bool
set_above x None = true
set_above None (Some n) = false
set_above (Some m) (Some n) = eqb (union m n) m

unfoldable pub above : Entries → Entries → Bool
above s t = all_below 1024 (λ v. value_above (s.value v) (t.value v)) && all_below 512 (λ i. set_above (s.set i) (t.set i))

-- ---- merge: what the other adds, entry by entry, as the Rust tests it

-- the value is new, or the merged kind is another, or the merged reasons are not contained
unfoldable pub adds_value : Option AbstractValue → Option AbstractValue → Bool
adds_value x None = false
adds_value None (Some b) = true
adds_value (Some a) (Some b) = not (eqb (code_of (Values.join a b).kind) (code_of a.kind)) || not (Values.contains a (Values.join a b))

-- the place is newly defined, or the set has a new member
unfoldable pub adds_set : Option ℕ → Option ℕ → Bool
adds_set x None = false
adds_set None (Some n) = true
adds_set (Some m) (Some n) = not (eqb (union m n) m)

unfoldable pub adds : Entries → Entries → Bool
adds s t = any_below 1024 (λ v. adds_value (s.value v) (t.value v)) || any_below 512 (λ i. adds_set (s.set i) (t.set i))

-- "`merge` writes a third lent state, which is empty at None": none where the other adds nothing
unfoldable pub merge : Entries → Entries → Option Entries
merge s t = elim (adds s t) [ true ↦ Some (joined s t) | false ↦ None ]

-- `merge_from`: in place, an entry only where the other adds to it
abbrev pub merged_value : Option AbstractValue → Option AbstractValue → Option AbstractValue
merged_value x y = elim (adds_value x y) [ true ↦ join_option Values.join x y | false ↦ x ]

abbrev pub merged_set : Option ℕ → Option ℕ → Option ℕ
merged_set x y = elim (adds_set x y) [ true ↦ join_option union x y | false ↦ x ]

unfoldable pub merge_from : Entries → Entries → Entries
merge_from s t = record { value = λ v. merged_value (s.value v) (t.value v); set = λ i. merged_set (s.set i) (t.set i) }

-- "as in release, the access is cleared"
abbrev pub clear_access : Session → Session
clear_access s = record { next = s.next; access = 0; span = record { start = 0; end = 0 }; entries = s.entries }
