-- What the transfer works on, over any tables: `Tables` says how their entries are read and written. Assumes nothing: these are definitions.
use Rattle.std.specs.Prelude.{ℕ, Bool, List, Option}
use Rattle.def_kinds.specs.declared.AbstractValue.{AbstractValue}
use Rattle.def_effects.specs.declared.Span.{Span}
use Rattle.def_effects.specs.declared.Place.{Place}
use Rattle.def_effects.specs.declared.Session.{Session}
use Rattle.def_effects.specs.Effects.{AliasingEffect}
use Rattle.def_effects.specs.Keys.{EffectKey}
use Rattle.def_transfer.specs.Diagnostics.{Diagnostic}

pub record Tables : Type 1 where
  -- the state: what each value number and each identifier has; a set is one number, bit v for value v
  pub Values : Type 0
  pub value_of : Values → ℕ → Option AbstractValue
  pub put_value : Values → ℕ → AbstractValue → Values
  pub Sets : Type 0
  pub set_of : Sets → ℕ → Option ℕ
  pub put_set : Sets → ℕ → ℕ → Sets
  -- "The context is all but state and session: interned effects, cached numbers, function links, functions, identifier flags, options, diagnostics."
  pub Context : Type 0
  -- interned effects: the first effect under a key
  pub interned_count : Context → ℕ
  pub find_effect : Context → EffectKey → Option AliasingEffect
  pub add_effect : Context → AliasingEffect → Context
  -- cached numbers: the key under which a fresh number was handed out
  pub key_at : Context → ℕ → Option EffectKey
  pub find_number : Context → EffectKey → Option ℕ
  pub put_key : Context → ℕ → EffectKey → Context
  -- function links: the function of a value
  pub link_of : Context → ℕ → Option ℕ
  pub put_link : Context → ℕ → ℕ → Context
  -- functions: context places, places mutated inside, a tracked side effect; the Capture places of an identifier made Read
  pub context_of : Context → ℕ → List Place
  pub mutated_inside : Context → ℕ → List Place
  pub has_tracked_side_effect : Context → ℕ → Bool
  pub make_read : Context → ℕ → ℕ → Context
  -- identifiers: the answer of `is_ref_or_ref_value`, the hoisted map with its access span, the name
  pub is_ref : Context → ℕ → Bool
  pub is_hoisted : Context → ℕ → Bool
  pub access_span : Context → ℕ → Span
  pub name_of : Context → ℕ → ℕ
  -- options: either of the two that make a freeze transitive
  pub is_transitive : Context → Bool
  -- diagnostics: the identity of an equal message, the place of an equal record
  pub identity_count : Context → ℕ
  pub instance_count : Context → ℕ
  pub find_identity : Context → Diagnostic → Option ℕ
  pub find_instance : Context → ℕ → Diagnostic → Option ℕ
  pub add_diagnostic : Context → ℕ → Diagnostic → Context
  -- what an instruction has done so far: places initialized in it, effects listed
  pub Initialized : Type 0
  pub none_initialized : Initialized
  pub is_initialized : Initialized → ℕ → Bool
  pub put_initialized : Initialized → ℕ → Initialized
  pub Listed : Type 0
  pub none_listed : Listed
  pub put_listed : Listed → AliasingEffect → Listed
  -- one more entry, as far as a count can go
  pub one_more : ℕ → ℕ
  -- how a session holds the identifier of an access: 1 + identifier, for the identifiers that there are
  pub access_of : ℕ → ℕ

module _ (T : Tables) where
  -- a state: its entries, and the function-expression flag
  pub record State : Type 0 where
    pub values : T.Values
    pub sets : T.Sets
    pub is_function_expression : Bool

  -- the instruction under way: places initialized in it, effects listed, entries of the Freeze under way, entries of all its Freezes
  pub record Work : Type 0 where
    pub initialized : T.Initialized
    pub listed : T.Listed
    pub freeze_entries : ℕ
    pub entries : ℕ

  pub record Rest : Type 0 where
    pub session : Session
    pub context : T.Context
    pub work : Work

  pub record World : Type 0 where
    pub state : State
    pub rest : Rest
