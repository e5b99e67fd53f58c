-- Tables as functions and lists, where things compute quickly: the cases, the comparison with the Rust and the orders are about these.
-- Assumes nothing: these are definitions.
use Rattle.std.specs.Prelude.{ℕ, zero, suc, max, Bool, true, false, ◌&&◌, List, [], ◌∷◌, ◌++◌, eqb, length, Option, None, Some}
use Rattle.def_kinds.specs.declared.AbstractValue.{AbstractValue}
use Rattle.def_effects.specs.declared.Span.{Span}
use Rattle.def_effects.specs.declared.Place.{Place}
use Rattle.def_effects.specs.Places.{Capture, Read}
use Rattle.def_effects.specs.Effects.{AliasingEffect}
use Rattle.def_effects.specs.Keys.{EffectKey, effect_key, eq_key}
use Rattle.def_transfer.specs.Diagnostics.{Diagnostic, same_identity, same_labels}
use Rattle.def_transfer.specs.Instruction.{has}
use Rattle.def_transfer.specs.Tables.{Tables}

-- f with x at i
unfoldable pub at : {A : Type 0} → (ℕ → A) → ℕ → A → ℕ → A
at f i x j = elim (eqb i j) [ true ↦ x | false ↦ f j ]

-- ---- interned effects: in the order in which they came

unfoldable pub find_effect : List AliasingEffect → EffectKey → Option AliasingEffect
find_effect [] k = None
find_effect (e ∷ es) k = elim (eq_key k (effect_key e)) [ true ↦ Some e | false ↦ find_effect es k ]

-- ---- cached numbers: each fresh number with its key or none; the lowest that has a key

unfoldable pub is_key : EffectKey → Option EffectKey → Bool
is_key k None = false
is_key k (Some j) = eq_key k j

-- the lowest of n numbers from v on that is cached under a key
unfoldable pub first_cached : ℕ → ℕ → (ℕ → Option EffectKey) → EffectKey → Option ℕ
first_cached zero v c k = None
first_cached (suc n) v c k = elim (is_key k (c v)) [ true ↦ Some v | false ↦ first_cached n (suc v) c k ]

-- ---- functions

pub record Function : Type 0 where
  pub context : List Place
  pub inside : List Place
  pub tracked : Bool

-- the Capture places of an identifier made Read
unfoldable pub read_only : ℕ → List Place → List Place
read_only i [] = []
read_only i (p ∷ ps) =
    record { identifier = p.identifier; effect = elim (eqb p.identifier i && eqb p.effect Capture) [ true ↦ Read | false ↦ p.effect ]; reactive = p.reactive; span = p.span } ∷ read_only i ps

abbrev pub read_only_in : ℕ → Function → Function
read_only_in i f = record { context = read_only i f.context; inside = f.inside; tracked = f.tracked }

-- ---- identifiers

pub record Identifier : Type 0 where
  pub ref : Bool
  pub hoisted : Bool
  pub access : Span
  pub name : ℕ

-- ---- diagnostics: each record with its identity

pub record Interned : Type 0 where
  pub identity : ℕ
  pub diagnostic : Diagnostic

-- identities are numbered from 0 as they come
unfoldable pub identities : List Interned → ℕ
identities [] = 0
identities (d ∷ ds) = max (suc d.identity) (identities ds)

unfoldable pub find_identity : List Interned → Diagnostic → Option ℕ
find_identity [] d = None
find_identity (x ∷ xs) d = elim (same_identity d x.diagnostic) [ true ↦ Some x.identity | false ↦ find_identity xs d ]

-- the place of a record with that identity and those labels, counted from i
unfoldable pub find_instance : ℕ → List Interned → ℕ → Diagnostic → Option ℕ
find_instance i [] n d = None
find_instance i (x ∷ xs) n d = elim (eqb n x.identity && same_labels d x.diagnostic) [ true ↦ Some i | false ↦ find_instance (suc i) xs n d ]

-- ---- the context

pub record Context : Type 0 where
  pub interned : List AliasingEffect
  pub cached : ℕ → Option EffectKey
  pub links : ℕ → Option ℕ
  pub functions : ℕ → Function
  pub identifiers : ℕ → Identifier
  pub transitive : Bool
  pub diagnostics : List Interned

abbrev pub with_interned : List AliasingEffect → Context → Context
with_interned l c = record { interned = l; cached = c.cached; links = c.links; functions = c.functions; identifiers = c.identifiers; transitive = c.transitive; diagnostics = c.diagnostics }

abbrev pub with_cached : (ℕ → Option EffectKey) → Context → Context
with_cached l c = record { interned = c.interned; cached = l; links = c.links; functions = c.functions; identifiers = c.identifiers; transitive = c.transitive; diagnostics = c.diagnostics }

abbrev pub with_links : (ℕ → Option ℕ) → Context → Context
with_links l c = record { interned = c.interned; cached = c.cached; links = l; functions = c.functions; identifiers = c.identifiers; transitive = c.transitive; diagnostics = c.diagnostics }

abbrev pub with_functions : (ℕ → Function) → Context → Context
with_functions l c = record { interned = c.interned; cached = c.cached; links = c.links; functions = l; identifiers = c.identifiers; transitive = c.transitive; diagnostics = c.diagnostics }

abbrev pub with_diagnostics : List Interned → Context → Context
with_diagnostics l c = record { interned = c.interned; cached = c.cached; links = c.links; functions = c.functions; identifiers = c.identifiers; transitive = c.transitive; diagnostics = l }

abbrev pub pure : Tables
pure = record {
  Values = ℕ → Option AbstractValue;
  value_of = λ t v. t v;
  put_value = λ t v a. at t v (Some a);
  Sets = ℕ → Option ℕ;
  set_of = λ t i. t i;
  put_set = λ t i s. at t i (Some s);
  Context = Context;
  interned_count = λ c. length c.interned;
  find_effect = λ c. find_effect c.interned;
  add_effect = λ c e. with_interned (c.interned ++ (e ∷ [])) c;
  key_at = λ c n. c.cached n;
  find_number = λ c. first_cached 511 1 c.cached;
  put_key = λ c n k. with_cached (at c.cached n (Some k)) c;
  link_of = λ c v. c.links v;
  put_link = λ c v f. with_links (at c.links v (Some f)) c;
  context_of = λ c f. (c.functions f).context;
  mutated_inside = λ c f. (c.functions f).inside;
  has_tracked_side_effect = λ c f. (c.functions f).tracked;
  make_read = λ c f i. with_functions (at c.functions f (read_only_in i (c.functions f))) c;
  is_ref = λ c i. (c.identifiers i).ref;
  is_hoisted = λ c i. (c.identifiers i).hoisted;
  access_span = λ c i. (c.identifiers i).access;
  name_of = λ c i. (c.identifiers i).name;
  is_transitive = λ c. c.transitive;
  identity_count = λ c. identities c.diagnostics;
  instance_count = λ c. length c.diagnostics;
  find_identity = λ c. find_identity c.diagnostics;
  find_instance = λ c. find_instance 0 c.diagnostics;
  add_diagnostic = λ c n d. with_diagnostics (c.diagnostics ++ (record { identity = n; diagnostic = d } ∷ [])) c;
  Initialized = List ℕ;
  none_initialized = [];
  is_initialized = λ t i. has i t;
  put_initialized = λ t i. i ∷ t;
  Listed = List AliasingEffect;
  none_listed = [];
  put_listed = λ t e. t ++ (e ∷ []);
  one_more = λ n. suc n;
  access_of = λ i. suc i;
}
