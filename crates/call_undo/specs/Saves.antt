-- What is saved of a state and of a context, and what is put back. Assumes nothing: these are definitions.
use Rattle.std.specs.Prelude.{ℕ, ◌+◌, ◌-◌, ◌*◌, List, []}
use Rattle.lent_copies.specs.Copies.{copied, copied_or}
use Rattle.lent_layout.specs.declared.Numbered.{Numbered}
use Rattle.lent_layout.specs.Layout as Layout
use Rattle.lent_layout.specs.Context.{ContextWords, unused}
use Rattle.call_undo.specs.declared.Lengths.{Lengths}
use Rattle.call_undo.specs.declared.Used.{Used}

-- values and n words of sets, one after the other
-- in a list of 1,024 + n words
unfoldable pub saved_state : List ℕ → List ℕ → ℕ → List ℕ → List ℕ
saved_state vs ss n ws = copied ss 0 1024 n (copied vs 0 0 1024 ws)

-- ---- of a context, the tables that an instruction may write into, one after the other

-- where each but the first begins, and how many words they have in all
abbrev pub links_from : Lengths → ℕ
links_from l = l.contexts

abbrev pub keys_from : Lengths → ℕ
keys_from l = links_from l + l.links

abbrev pub key_order_from : Lengths → ℕ
key_order_from l = keys_from l + l.keys

abbrev pub effect_order_from : Lengths → ℕ
effect_order_from l = key_order_from l + l.key_order

abbrev pub saved_words : Lengths → ℕ
saved_words l = effect_order_from l + l.effect_order

-- context places, links, keys, and both orders
-- effects and diagnostics are only appended
unfoldable pub saved_context : Lengths → ContextWords → List ℕ → List ℕ
saved_context l c ws =
    copied c.effect_order 0 (effect_order_from l) l.effect_order
    (copied c.key_order 0 (key_order_from l) l.key_order
    (copied c.keys 0 (keys_from l) l.keys
    (copied c.links 0 (links_from l) l.links
    (copied c.contexts 0 0 l.contexts ws))))

-- interned effects from one record to before another become zero
-- as if they were copied from an empty list, past whose end every word is zero
unfoldable pub forgotten : ℕ → ℕ → List ℕ → List ℕ
forgotten from to es = copied [] 0 (from * Layout.effect_words) ((to - from) * Layout.effect_words) es

-- and so do diagnostics
unfoldable pub withdrawn : ℕ → ℕ → List Numbered → List Numbered
withdrawn from to ds = copied_or unused [] 0 from (to - from) ds

-- a context put back: what was appended since goes, the saved tables return, and with them how many records were in use
unfoldable pub restored_context : Lengths → Used → List ℕ → ContextWords → ContextWords
restored_context l u ws c = record {
  options = c.options;
  function_count = c.function_count;
  effect_count = u.effects;
  key_count = u.keys;
  diagnostic_count = u.diagnostics;
  identifiers = c.identifiers;
  functions = c.functions;
  contexts = copied ws 0 0 l.contexts c.contexts;
  links = copied ws (links_from l) 0 l.links c.links;
  keys = copied ws (keys_from l) 0 l.keys c.keys;
  key_order = copied ws (key_order_from l) 0 l.key_order c.key_order;
  effects = forgotten u.effects c.effect_count c.effects;
  effect_order = copied ws (effect_order_from l) 0 l.effect_order c.effect_order;
  diagnostics = withdrawn u.diagnostics c.diagnostic_count c.diagnostics;
}

-- how many records are in use
abbrev pub used : ContextWords → Used
used c = record { effects = c.effect_count; keys = c.key_count; diagnostics = c.diagnostic_count }
