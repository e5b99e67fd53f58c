-- What the slices of a lent context hold, and that they stay the same slices. Assumes nothing: these are definitions.
use Rattle.std.specs.Prelude.{ℕ, ◌≡◌, Bool, ◌&&◌, List, eqb, length, replicate}
use Rattle.std.specs.Borrow.{MutBor}
use Rattle.def_transfer.specs.Pure.{Interned}
use Rattle.lent_layout.specs.declared.Context.{Context}
use Rattle.lent_layout.specs.declared.Numbered.{Numbered}

-- "The context is all but state and session: interned effects, cached numbers, function links, functions, identifier flags, options, diagnostics."
-- a list for each table, and how many of its records are in use; of identifiers there are as many as the state has
pub record ContextWords : Type 0 where
  pub options : ℕ
  pub function_count : ℕ
  pub effect_count : ℕ
  pub key_count : ℕ
  pub diagnostic_count : ℕ
  pub identifiers : List ℕ
  pub functions : List ℕ
  pub contexts : List ℕ
  pub links : List ℕ
  pub keys : List ℕ
  pub key_order : List ℕ
  pub effects : List ℕ
  pub effect_order : List ℕ
  pub diagnostics : List Numbered

-- what a lent context holds
abbrev pub held : Context → ContextWords
held c = record {
  options = c.options;
  function_count = c.function_count;
  effect_count = c.effect_count;
  key_count = c.key_count;
  diagnostic_count = c.diagnostic_count;
  identifiers = c.identifiers.now;
  functions = c.functions.now;
  contexts = c.contexts.now;
  links = c.links.now;
  keys = c.keys.now;
  key_order = c.key_order.now;
  effects = c.effects.now;
  effect_order = c.effect_order.now;
  diagnostics = c.diagnostics.now;
}

-- a slice is the same one, and as long as it was
abbrev pub Same : {A : Type 0} → MutBor (List A) → MutBor (List A) → Type 0
Same r s = (r.ghost_name ≡ s.ghost_name) × (length r.now ≡ length s.now)

-- the slices of a context are the same: what is written into them the host finds there
abbrev pub SameSlices : Context → Context → Type 0
SameSlices v w =
    Same v.identifiers w.identifiers
    × Same v.functions w.functions
    × Same v.contexts w.contexts
    × Same v.links w.links
    × Same v.keys w.keys
    × Same v.key_order w.key_order
    × Same v.effects w.effects
    × Same v.effect_order w.effect_order
    × Same v.diagnostics w.diagnostics

-- ---- a context with one table changed

-- other interned effects, their order, and how many there are
abbrev pub with_effects : List ℕ → List ℕ → ℕ → ContextWords → ContextWords
with_effects es os n c = record {
  options = c.options;
  function_count = c.function_count;
  effect_count = n;
  key_count = c.key_count;
  diagnostic_count = c.diagnostic_count;
  identifiers = c.identifiers;
  functions = c.functions;
  contexts = c.contexts;
  links = c.links;
  keys = c.keys;
  key_order = c.key_order;
  effects = es;
  effect_order = os;
  diagnostics = c.diagnostics;
}

-- other cached keys, their order, and how many there are
abbrev pub with_keys : List ℕ → List ℕ → ℕ → ContextWords → ContextWords
with_keys ks os n c = record {
  options = c.options;
  function_count = c.function_count;
  effect_count = c.effect_count;
  key_count = n;
  diagnostic_count = c.diagnostic_count;
  identifiers = c.identifiers;
  functions = c.functions;
  contexts = c.contexts;
  links = c.links;
  keys = ks;
  key_order = os;
  effects = c.effects;
  effect_order = c.effect_order;
  diagnostics = c.diagnostics;
}

-- other links
abbrev pub with_links : List ℕ → ContextWords → ContextWords
with_links ls c = record {
  options = c.options;
  function_count = c.function_count;
  effect_count = c.effect_count;
  key_count = c.key_count;
  diagnostic_count = c.diagnostic_count;
  identifiers = c.identifiers;
  functions = c.functions;
  contexts = c.contexts;
  links = ls;
  keys = c.keys;
  key_order = c.key_order;
  effects = c.effects;
  effect_order = c.effect_order;
  diagnostics = c.diagnostics;
}

-- other context places
abbrev pub with_contexts : List ℕ → ContextWords → ContextWords
with_contexts ps c = record {
  options = c.options;
  function_count = c.function_count;
  effect_count = c.effect_count;
  key_count = c.key_count;
  diagnostic_count = c.diagnostic_count;
  identifiers = c.identifiers;
  functions = c.functions;
  contexts = ps;
  links = c.links;
  keys = c.keys;
  key_order = c.key_order;
  effects = c.effects;
  effect_order = c.effect_order;
  diagnostics = c.diagnostics;
}

-- other diagnostics, and how many there are
abbrev pub with_diagnostics : List Numbered → ℕ → ContextWords → ContextWords
with_diagnostics ds n c = record {
  options = c.options;
  function_count = c.function_count;
  effect_count = c.effect_count;
  key_count = c.key_count;
  diagnostic_count = n;
  identifiers = c.identifiers;
  functions = c.functions;
  contexts = c.contexts;
  links = c.links;
  keys = c.keys;
  key_order = c.key_order;
  effects = c.effects;
  effect_order = c.effect_order;
  diagnostics = ds;
}

-- ---- records of diagnostics

-- a record as the definition has it: a diagnostic with its identity
abbrev pub interned_of : Numbered → Interned
interned_of x = record { identity = x.identity; diagnostic = x.diagnostic }

-- a record that is not in use: every number in it is zero
abbrev pub unused : Numbered
unused = record { identity = 0; diagnostic = record { identifier = 0; case = 0; sentence = 0; name = 0; access = record { start = 0; end = 0 }; own = record { start = 0; end = 0 } } }

-- ---- a context with room for all, and an empty one

-- whether each slice has as many records as its table can have
unfoldable pub is_full : ContextWords → Bool
is_full c =
    eqb (length c.identifiers) 2048
    && (eqb (length c.functions) 10432
    && (eqb (length c.contexts) 5120
    && (eqb (length c.links) 1024
    && (eqb (length c.keys) 14336
    && (eqb (length c.key_order) 512
    && (eqb (length c.effects) 200704 && (eqb (length c.effect_order) 2048 && eqb (length c.diagnostics) 256)))))))

-- a context of the same lengths in which every number is zero
abbrev pub emptied : ContextWords → ContextWords
emptied c = record {
  options = 0;
  function_count = 0;
  effect_count = 0;
  key_count = 0;
  diagnostic_count = 0;
  identifiers = replicate (length c.identifiers) 0;
  functions = replicate (length c.functions) 0;
  contexts = replicate (length c.contexts) 0;
  links = replicate (length c.links) 0;
  keys = replicate (length c.keys) 0;
  key_order = replicate (length c.key_order) 0;
  effects = replicate (length c.effects) 0;
  effect_order = replicate (length c.effect_order) 0;
  diagnostics = replicate (length c.diagnostics) unused;
}

-- the empty one with room for all
abbrev pub no_context : ContextWords
no_context = record {
  options = 0;
  function_count = 0;
  effect_count = 0;
  key_count = 0;
  diagnostic_count = 0;
  identifiers = replicate 2048 0;
  functions = replicate 10432 0;
  contexts = replicate 5120 0;
  links = replicate 1024 0;
  keys = replicate 14336 0;
  key_order = replicate 512 0;
  effects = replicate 200704 0;
  effect_order = replicate 2048 0;
  diagnostics = replicate 256 unused;
}
