-- What the slices of a lent context mean, as plain tables: read off the layout, without the operations that the transfer has on it.
-- Assumes nothing: these are definitions.
use Rattle.std.specs.Prelude.{ℕ, ◌/◌, ◌%◌, not, eqb}
use Rattle.def_transfer.specs.Pure.{Context, Function, Identifier}
use Rattle.lent_tables.specs.Words.{field, places_in}
use Rattle.lent_keys.specs.KeyRecords.{option_in, key_in}
use Rattle.lent_layout.specs.Layout as Layout
use Rattle.lent_layout.specs.Context.{ContextWords}
use Rattle.lent_context.specs.Lent.{effects_in, diagnostics_in}

-- flags 1 effects known, 2 tracked side effect; counts of context places and of places mutated inside; the latter
abbrev pub function_in : ContextWords → ℕ → Function
function_in c f = record {
  context = places_in Layout.contexts c.contexts f 0 0 (field Layout.functions c.functions f 1);
  inside = places_in Layout.functions c.functions f 3 0 (field Layout.functions c.functions f 2);
  tracked = eqb (field Layout.functions c.functions f 0 / 2 % 2) 1;
}

-- flags 1 ref, 2 hoisted; name; access start, end
abbrev pub identifier_in : ContextWords → ℕ → Identifier
identifier_in c i = record {
  ref = eqb (field Layout.identifiers c.identifiers i 0 % 2) 1;
  hoisted = eqb (field Layout.identifiers c.identifiers i 0 / 2 % 2) 1;
  access = record { start = field Layout.identifiers c.identifiers i 2; end = field Layout.identifiers c.identifiers i 3 };
  name = field Layout.identifiers c.identifiers i 1;
}

abbrev pub abstract : ContextWords → Context
abstract c = record {
  interned = effects_in Layout.interned c.effects 0 c.effect_count;
  cached = key_in Layout.cached c.keys;
  links = λ v. option_in Layout.links c.links v 0;
  functions = function_in c;
  identifiers = identifier_in c;
  transitive = not (eqb c.options 0);
  diagnostics = diagnostics_in c.diagnostics 0 c.diagnostic_count;
}
