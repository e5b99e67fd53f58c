-- The operations of `InferenceState` on one state, and the first undefined access of the session. Assumes nothing: these are definitions.
use Rattle.std.specs.Prelude.{ℕ, ◌+◌, Bool, true, false, ◌&&◌, List, [], ◌∷◌, eqb, Option, None, Some}
use Rattle.base_orders.specs.Options.{join_option}
use Rattle.base_sets.specs.Members.{singleton, union, values_of, bits_of}
use Rattle.def_kinds.specs.declared.ValueKind.TheVariants.{Frozen}
use Rattle.def_kinds.specs.declared.AbstractValue.{AbstractValue}
use Rattle.def_kinds.specs.Kinds.{freezable, writable}
use Rattle.def_kinds.specs.Reasons as Reasons
use Rattle.def_kinds.specs.Values.{mk, join}
pub use Rattle.def_kinds.specs.Values.{default, or_default}
use Rattle.def_effects.specs.declared.Span.{Span}
use Rattle.def_effects.specs.declared.Place.{Place}
use Rattle.def_effects.specs.declared.Session.{Session}
use Rattle.def_effects.specs.Places.{no_span}
use Rattle.def_transfer.specs.Monad.{ok, M, Done, return, done, when◌then◌else◌, each, ◌>>=◌, ◌>>◌}
use Rattle.def_transfer.specs.Tables.{Tables, Rest, World}
use Rattle.base_tests.specs.Tests.{is_some}

-- "512 + i stands for the Rust's 0x80000000 | i": `from_identifier`
abbrev pub from_identifier : ℕ → ℕ
from_identifier i = 512 + i

-- "records the first such access only": 0 stands for none
abbrev pub first_access : ℕ → Span → Session → Session
first_access access span s = elim (eqb s.access 0) [
  | true ↦ record { next = s.next; access = access; span = span; entries = s.entries }
  | false ↦ s
]

-- "joins the values of its set that have an entry": from the lowest value on, onto what is joined already
unfoldable pub join_values : (ℕ → Option AbstractValue) → List ℕ → Option AbstractValue → Option AbstractValue
join_values value [] a = a
join_values value (v ∷ vs) a = join_values value vs (join_option join a (value v))

-- "A place's kind joins the values of its set that have an entry; with none, Mutable {Other}. An undefined place gives the same"
unfoldable pub kind_of : (ℕ → Option AbstractValue) → Option ℕ → AbstractValue
kind_of value o = or_default (join_values value (values_of o) None)

module _ {T : Tables} where
  -- ---- what touches the state: five computations, and no other

  unfoldable pub set_of : ℕ → M (World T) (Option ℕ)
  set_of i w = ok (T.set_of w.state.sets i) w

  unfoldable pub value_of : ℕ → M (World T) (Option AbstractValue)
  value_of v w = ok (T.value_of w.state.values v) w

  -- the kind of a place, and no access recorded
  unfoldable pub peek : ℕ → M (World T) AbstractValue
  peek i w = ok (kind_of (T.value_of w.state.values) (T.set_of w.state.sets i)) w

  unfoldable pub initialize : ℕ → AbstractValue → M (World T) Done
  initialize v a w = ok tt (record {
    state = record { values = T.put_value w.state.values v a; sets = w.state.sets; is_function_expression = w.state.is_function_expression };
    rest = w.rest;
  })

  -- the place points to just the values of a set
  unfoldable pub point : ℕ → ℕ → M (World T) Done
  point i s w = ok tt (record {
    state = record { values = w.state.values; sets = T.put_set w.state.sets i s; is_function_expression = w.state.is_function_expression };
    rest = w.rest;
  })

  -- ---- what touches the rest: two, and no other

  unfoldable pub ask : {A : Type 0} → (Rest T → A) → M (World T) A
  ask f w = ok (f w.rest) w

  unfoldable pub change : (Rest T → Rest T) → M (World T) Done
  change f w = ok tt (record { state = w.state; rest = f w.rest })

  -- ---- the session's first undefined access

  abbrev pub on_session : (Session → Session) → Rest T → Rest T
  on_session f r = record { session = f r.session; context = r.context; work = r.work }

  unfoldable pub record_access : ℕ → Span → M (World T) Done
  record_access i span = change (on_session (first_access (T.access_of i) span))

  -- ---- the operations, under the Rust's names

  unfoldable pub is_defined : ℕ → M (World T) Bool
  is_defined i = do
    o ← set_of i
    return (is_some o)

  unfoldable pub kind_with_span : ℕ → Span → M (World T) AbstractValue
  kind_with_span i span = do
    o ← set_of i
    when is_some o then done else record_access i span
    peek i

  -- the kind of a place, with its span
  abbrev pub kind_at : Place → M (World T) AbstractValue
  kind_at p = kind_with_span p.identifier p.span

  -- the same without a span
  unfoldable pub kind : ℕ → M (World T) AbstractValue
  kind i = kind_with_span i no_span

  -- "yes if its kind is Mutable or Context, else no, which records no access"
  unfoldable pub may_write : ℕ → M (World T) Bool
  may_write i = do
    a ← peek i
    return (writable a.kind)

  unfoldable pub define : ℕ → ℕ → M (World T) Done
  define i v = point i (singleton v)

  -- a value where none stands yet: the entry is kept
  unfoldable pub or_insert : ℕ → Option AbstractValue → M (World T) Done
  or_insert v None = initialize v default
  or_insert v (Some a) = done

  unfoldable pub assign_set : ℕ → ℕ → Option ℕ → M (World T) Done
  assign_set into from (Some s) = point into s
  assign_set into from None = do
    o ← value_of (from_identifier from)
    or_insert (from_identifier from) o
    define into (from_identifier from)

  unfoldable pub assign : ℕ → ℕ → M (World T) Done
  assign into from = do
    o ← set_of from
    assign_set into from o

  unfoldable pub append_sets : ℕ → Option ℕ → Option ℕ → M (World T) Done
  append_sets place None new = done
  append_sets place (Some s) None = done
  append_sets place (Some s) (Some t) = point place (union s t)

  unfoldable pub append_alias : ℕ → ℕ → M (World T) Done
  append_alias place value = do
    o ← set_of place
    n ← set_of value
    append_sets place o n

  -- "every value of the set becomes Frozen with that one reason"
  unfoldable pub freeze_value : ℕ → ℕ → M (World T) Done
  freeze_value reason v = initialize v (mk Frozen (Reasons.single reason))

  -- the set of a place that a freeze acts on: "defined places that are Mutable, Context or MaybeFrozen"
  unfoldable pub to_freeze : ℕ → M (World T) (Option ℕ)
  to_freeze i = do
    o ← set_of i
    a ← peek i
    when is_some o && freezable a.kind then return o else return None

  unfoldable pub freeze : ℕ → ℕ → M (World T) Bool
  freeze i reason = do
    o ← to_freeze i
    each (values_of o) (freeze_value reason)
    return (is_some o)

  -- ---- phi: the union of the operands' sets; a place whose union is empty stays

  unfoldable pub union_of : List ℕ → ℕ → M (World T) ℕ
  union_of [] s = return s
  union_of (i ∷ is) s = do
    o ← set_of i
    union_of is (union s (bits_of o))

  unfoldable pub infer_phi : ℕ → List ℕ → M (World T) Done
  infer_phi place operands = do
    s ← union_of operands 0
    when eqb s 0 then done else point place s
