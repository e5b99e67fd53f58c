-- The tables of a context over what its slices hold: how each is read and written. Assumes nothing: these are definitions.
use Rattle.std.specs.Prelude.{ℕ, zero, suc, ◌+◌, ◌*◌, ◌/◌, ◌%◌, Bool, not, ◌&&◌, List, [], ◌∷◌, eqb, ltb, get_or, set, Option, None, Some, Result, Ok, Err}
use Rattle.base_tests.specs.Tests.{ite}
use Rattle.base_search.specs.Search.{along}
use Rattle.def_effects.specs.declared.Span.{Span}
use Rattle.def_effects.specs.declared.Place.{Place}
use Rattle.def_effects.specs.Places as Places
use Rattle.def_effects.specs.Effects.{AliasingEffect}
use Rattle.def_effects.specs.Keys.{EffectKey, effect_key}
use Rattle.def_transfer.specs.Diagnostics.{Diagnostic}
use Rattle.def_transfer.specs.Pure as Pure
use Rattle.def_transfer.specs.Pure.{Interned, identities}
use Rattle.lent_tables.specs.declared.Table.{Table}
use Rattle.lent_tables.specs.Words.{field, put_field, places_in}
use Rattle.lent_effects.specs.Records.{effect_in, put_effect}
use Rattle.lent_keys.specs.KeyRecords.{numbers_in, option_in, put_option, key_head_in, key_in}
use Rattle.lent_keys.specs.KeyRecords as Keys
use Rattle.lent_layout.specs.declared.Numbered.{Numbered}
use Rattle.lent_layout.specs.Layout as Layout
use Rattle.lent_layout.specs.Context.{ContextWords, with_effects, with_keys, with_links, with_contexts, with_diagnostics, interned_of, unused}
use Rattle.lent_order.specs.Order.{order_at, inserted}
use Rattle.def_key_order.specs.KeyOrder.{compare_keys}

-- bit 0 and bit 1 of flags
-- any number is read; a flag out of range is refused before it is used
abbrev pub flag_one : ℕ → Bool
flag_one x = eqb (x % 2) 1

-- the second flag of a word
-- hoisted, or a tracked side effect
abbrev pub flag_two : ℕ → Bool
flag_two x = eqb (x / 2 % 2) 1

-- ---- interned effects

-- n effects of a table, from record k on
-- in the order in which they were interned
unfoldable pub effects_in : Table → List ℕ → ℕ → ℕ → List AliasingEffect
effects_in t c k zero = []
effects_in t c k (suc n) = effect_in t c k ∷ effects_in t c (suc k) n

-- how many effects are interned
-- they stand one after the other, in the order in which they came
abbrev pub interned_count : ContextWords → ℕ
interned_count c = c.effect_count

-- the key of an interned effect
abbrev pub interned_key : ContextWords → ℕ → EffectKey
interned_key c r = effect_key (effect_in Layout.interned c.effects r)

-- where the order of the interned effects has a key, or would have it
-- a search by halves, total on any words
unfoldable pub effect_spot : ContextWords → EffectKey → Result ℕ ℕ
effect_spot c k = along (λ j. compare_keys k (interned_key c (order_at Layout.effect_order c.effect_order j))) (interned_count c)

-- the interned effect at a place of the order, or none
-- code finds places, the definition effects
abbrev pub effect_at : ContextWords → Result ℕ ℕ → Option AliasingEffect
effect_at c (Ok j) = Some (effect_in Layout.interned c.effects (order_at Layout.effect_order c.effect_order j))
effect_at c (Err p) = None

-- "The first effect under a key of `effect_key` is used ever after"
-- where no two have one key and the order is right, the search finds it (`proofs/Laws/Ordered.antt`: `first_under_is`)
unfoldable pub find_effect : ContextWords → EffectKey → Option AliasingEffect
find_effect c k = effect_at c (effect_spot c k)

-- the place of the order where a search ended
abbrev pub place_of : Result ℕ ℕ → ℕ
place_of (Ok j) = j
place_of (Err p) = p

-- an effect is appended, comes p-th in the order, and is counted
unfoldable pub added_at : ContextWords → ℕ → AliasingEffect → ContextWords
added_at c p e =
    with_effects (put_effect Layout.interned c.effects (interned_count c) e) (inserted Layout.effect_order p (interned_count c) (interned_count c) c.effect_order) (interned_count c + 1) c

-- an effect is appended, takes its place in the order where the search for it ended, and is counted
-- "a 2,049th key to intern" is refused before
unfoldable pub add_effect : ContextWords → AliasingEffect → ContextWords
add_effect c e = added_at c (place_of (effect_spot c (effect_key e))) e

-- ---- cached numbers

-- the key under which a fresh number was handed out, if it was
-- document 01's cached numbers
unfoldable pub key_at : ContextWords → ℕ → Option EffectKey
key_at c n = key_in Layout.cached c.keys n

-- whether a number has a key
unfoldable pub is_keyed : ContextWords → ℕ → Bool
is_keyed c n = not (eqb (field Layout.cached c.keys n 0) 0)

-- the key that stands in the record of a number that has one
unfoldable pub key_here : ContextWords → ℕ → EffectKey
key_here c n = key_head_in Layout.cached c.keys n (numbers_in Layout.cached c.keys n 12 1 0 (field Layout.cached c.keys n 11))

-- how many numbers have a key
abbrev pub key_count : ContextWords → ℕ
key_count c = c.key_count

-- where the order of the cached keys has a key, or would have it
-- a search by halves, total on any words
unfoldable pub key_spot : ContextWords → EffectKey → Result ℕ ℕ
key_spot c k = along (λ j. compare_keys k (key_here c (order_at Layout.key_order c.key_order j))) (key_count c)

-- the number at a place of the order, or none
-- a number without a key is none, so that what is found on any words has the key
abbrev pub number_at : ContextWords → Result ℕ ℕ → Option ℕ
number_at c (Ok j) = ite (is_keyed c (order_at Layout.key_order c.key_order j)) (Some (order_at Layout.key_order c.key_order j)) None
number_at c (Err p) = None

-- the fresh number that is cached under a key
-- where no two have one key and the order is right, the search finds it (`proofs/Laws/Numbered.antt`: `number_is`)
unfoldable pub find_number : ContextWords → EffectKey → Option ℕ
find_number c k = number_at c (key_spot c k)

-- one more, as long as a word of 32 bits can count it
unfoldable pub one_more : ℕ → ℕ
one_more n = ite (ltb n 4294967295) (suc n) n

-- a fresh number is cached under a key, comes p-th in the order, and is counted
unfoldable pub cached_at : ContextWords → ℕ → ℕ → EffectKey → ContextWords
cached_at c p n k = with_keys (Keys.put_key Layout.cached c.keys n k) (inserted Layout.key_order p n (key_count c) c.key_order) (one_more (key_count c)) c

-- a fresh number is cached under a key, where the search for it ended
unfoldable pub put_key : ContextWords → ℕ → EffectKey → ContextWords
put_key c n k = cached_at c (place_of (key_spot c k)) n k

-- ---- function links

-- the function that a value stands for, if any
-- "each value in it with a function"; only fresh numbers have one
unfoldable pub link_of : ContextWords → ℕ → Option ℕ
link_of c v = option_in Layout.links c.links v 0

-- a value stands for a function from now on
unfoldable pub put_link : ContextWords → ℕ → ℕ → ContextWords
put_link c v f = with_links (put_option Layout.links c.links v 0 (Some f)) c

-- ---- functions

-- the context places of a function, in order
-- "each function has its own copy of its context places"; their count stands with the function
unfoldable pub context_of : ContextWords → ℕ → List Place
context_of c f = places_in Layout.contexts c.contexts f 0 0 (field Layout.functions c.functions f 1)

-- the places that a function mutates inside, in order
-- the early MutateFrozen asks for them
unfoldable pub mutated_inside : ContextWords → ℕ → List Place
mutated_inside c f = places_in Layout.functions c.functions f 3 0 (field Layout.functions c.functions f 2)

-- whether a function has a tracked side effect
-- "flags (1 effects known, 2 tracked side effect)"
unfoldable pub has_tracked_side_effect : ContextWords → ℕ → Bool
has_tracked_side_effect c f = flag_two (field Layout.functions c.functions f 0)

-- context place k of a function, made Read if it is a Capture of identifier i
unfoldable pub read_place : ℕ → ℕ → ℕ → List ℕ → List ℕ
read_place f i k ps =
    ite (eqb (field Layout.contexts ps f (k * 5)) i && eqb (field Layout.contexts ps f (k * 5 + 1)) Places.Capture) (put_field Layout.contexts ps f (k * 5 + 1) Places.Read) ps

-- so n context places from k on
unfoldable pub read_places : ℕ → ℕ → ℕ → ℕ → List ℕ → List ℕ
read_places f i k zero ps = ps
read_places f i k (suc n) ps = read_places f i (suc k) n (read_place f i k ps)

-- "turns a Capture context place of its function into Read"
-- each such place of one identifier, in the function's own copy
unfoldable pub make_read : ContextWords → ℕ → ℕ → ContextWords
make_read c f i = with_contexts (read_places f i 0 (field Layout.functions c.functions f 1) c.contexts) c

-- ---- identifiers and options

-- whether an identifier is a ref
-- "one flag per identifier, the answer of `is_ref_or_ref_value`"
unfoldable pub is_ref : ContextWords → ℕ → Bool
is_ref c i = flag_one (field Layout.identifiers c.identifiers i 0)

-- whether an identifier is hoisted
-- "The hoisted map: a flag and an access span per identifier"
unfoldable pub is_hoisted : ContextWords → ℕ → Bool
is_hoisted c i = flag_two (field Layout.identifiers c.identifiers i 0)

-- where a hoisted identifier is accessed
-- both words are zero if it is not hoisted
unfoldable pub access_span : ContextWords → ℕ → Span
access_span c i = record { start = field Layout.identifiers c.identifiers i 2; end = field Layout.identifiers c.identifiers i 3 }

-- the name number of an identifier
-- "name 1..512 or 0"
unfoldable pub name_of : ContextWords → ℕ → ℕ
name_of c i = field Layout.identifiers c.identifiers i 1

-- whether a freeze is transitive
-- "(either option on)"
unfoldable pub is_transitive : ContextWords → Bool
is_transitive c = not (eqb c.options 0)

-- ---- diagnostics

-- record k of the diagnostics, with its identity
-- past the end of the slice it is one that is not in use
unfoldable pub diagnostic_in : List Numbered → ℕ → Interned
diagnostic_in ds k = interned_of (get_or ds k unused)

-- n of them from record k on
unfoldable pub diagnostics_in : List Numbered → ℕ → ℕ → List Interned
diagnostics_in ds k zero = []
diagnostics_in ds k (suc n) = diagnostic_in ds k ∷ diagnostics_in ds (suc k) n

-- how many diagnostics there are
abbrev pub instance_count : ContextWords → ℕ
instance_count c = c.diagnostic_count

-- all diagnostics of a context
-- as the definition's own searches take them
abbrev pub diagnostics_of : ContextWords → List Interned
diagnostics_of c = diagnostics_in c.diagnostics 0 (instance_count c)

-- how many distinct diagnostics there are, spans apart
-- identities are numbered as they come
unfoldable pub identity_count : ContextWords → ℕ
identity_count c = identities (diagnostics_of c)

-- the identity of an equal diagnostic, if there is one
-- "Sharing of numbers follows `intern_aliasing_diagnostic`"
unfoldable pub find_identity : ContextWords → Diagnostic → Option ℕ
find_identity c d = Pure.find_identity (diagnostics_of c) d

-- the record of that identity with the same spans, if there is one
unfoldable pub find_instance : ContextWords → ℕ → Diagnostic → Option ℕ
find_instance c n d = Pure.find_instance 0 (diagnostics_of c) n d

-- a diagnostic is appended with its identity, and counted
-- "a 257th diagnostic or instance" is refused before
unfoldable pub add_diagnostic : ContextWords → ℕ → Diagnostic → ContextWords
add_diagnostic c n d = with_diagnostics (set c.diagnostics (instance_count c) (record { identity = n; diagnostic = d })) (instance_count c + 1) c
