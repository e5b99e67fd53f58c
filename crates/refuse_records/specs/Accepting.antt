-- Which class of refusal a lent context earns (document 01, 'Refused calls': "Order 1 to 5 over the whole input").
-- Every test gives the class that it earns, or 0; the whole earns the lowest class of any. Assumes nothing: these are definitions.
use Rattle.std.specs.Prelude.{ℕ, ◌+◌, ◌-◌, Bool, ◌&&◌, ◌||◌, List, eqb, ltb, Some}
use Rattle.base_tests.specs.Tests.{ite}
use Rattle.lent_tables.specs.Words.{field}
use Rattle.lent_layout.specs.Layout as Layout
use Rattle.lent_layout.specs.declared.Numbered.{Numbered}
use Rattle.lent_layout.specs.Context.{ContextWords}
use Rattle.lent_context.specs.Lent.{interned_count, instance_count, key_count, diagnostic_in}
use Rattle.refuse_class.specs.Class.{lower}
use Rattle.refuse_words.specs.Classes.{lowest_below, earns, word_class, stray_after}
use Rattle.refuse_instruction.specs.EffectClasses.{effect_class}
use Rattle.refuse_tables.specs.TableClasses.{identifier_class, function_class, link_class, key_class, no_key_class, message_class, unused_class}
use Rattle.refuse_repeats.specs.Repeats.{diagnostic_twice}
use Rattle.refuse_order.specs.Order.{order_class}
use Rattle.refuse_key_order.specs.KeyOrder.{key_order_class}

-- ---- records that may repeat one before them

-- whether a key has too many captures; only that of a CreateFunction has any
-- in another key the count is a word without use, and so earns 4 ("an unused word not zero")
unfoldable pub too_many_captures : List ℕ → ℕ → Bool
too_many_captures c v = eqb (field Layout.cached c v 1) 13 && ltb 16 (field Layout.cached c v 11)

-- a cached number: no key at all, or one that is right; that no other has it is the order's
-- value number 0 has none
unfoldable pub cached_class : ℕ → ℕ → List ℕ → ℕ → ℕ
cached_class identifiers functions c v =
    ite (eqb v 0 || eqb (field Layout.cached c v 0) 0) (no_key_class c v)
    (lower (earns 2 (too_many_captures c v)) (key_class identifiers functions c v))

-- a diagnostic: right, with the identity that it has to have, and no equal record before it
-- wrong order, or two entries of one key
unfoldable pub diagnostic_class : ℕ → List Numbered → ℕ → ℕ
diagnostic_class identifiers ds k = lower (message_class identifiers (diagnostic_in ds k)) (earns 4 (diagnostic_twice ds k))

-- an interned effect, by its words; that no other has its key is the order's
unfoldable pub interned_class : ℕ → ℕ → ContextWords → ℕ → ℕ
interned_class identifiers functions c k = effect_class identifiers functions c 3 Layout.interned c.effects k

-- ---- the tables: the records in use, and the words after them

-- the identifiers
unfoldable pub identifiers_class : ℕ → ContextWords → ℕ
identifiers_class identifiers c = lower (lowest_below identifiers (identifier_class c.identifiers)) (stray_after Layout.identifiers c.identifiers identifiers)

-- the functions with their context places
-- two tables of one number of records
unfoldable pub functions_class : ℕ → ℕ → ContextWords → ℕ
functions_class identifiers functions c =
    lower (lowest_below functions (function_class identifiers c.functions c.contexts)) (lower (stray_after Layout.functions c.functions functions) (stray_after Layout.contexts c.contexts functions))

-- how many fresh numbers there are below next
-- "1..511 are fresh", so no more than the tables have
abbrev pub handed_out : ℕ → ℕ
handed_out next = ite (ltb 512 next) 512 next

-- the links of numbers below next
-- "a fresh number not below next": a link of another is a word without use
unfoldable pub links_class : ℕ → ContextWords → ℕ → ℕ
links_class functions c next = lower (lowest_below (handed_out next) (link_class functions c.links)) (stray_after Layout.links c.links (handed_out next))

-- the keys of numbers below next, and their order
-- a key of another is a word without use
unfoldable pub keys_class : ℕ → ℕ → ContextWords → ℕ → ℕ
keys_class identifiers functions c next =
    lower (lowest_below (handed_out next) (cached_class identifiers functions c.keys)) (lower (stray_after Layout.cached c.keys (handed_out next)) (key_order_class c (handed_out next)))

-- the records of diagnostics from the n-th on, which are not in use
unfoldable pub unused_from : List Numbered → ℕ → ℕ
unused_from ds n = lowest_below (Layout.diagnostics - n) (λ k. unused_class (diagnostic_in ds (n + k)))

-- the diagnostics
unfoldable pub diagnostics_class : ℕ → ContextWords → ℕ
diagnostics_class identifiers c = lower (lowest_below (instance_count c) (diagnostic_class identifiers c.diagnostics)) (unused_from c.diagnostics (instance_count c))

-- the interned effects, and their order
unfoldable pub effects_class : ℕ → ℕ → ContextWords → ℕ
effects_class identifiers functions c = lower (lowest_below (interned_count c) (interned_class identifiers functions c)) (lower (stray_after Layout.interned c.effects (interned_count c)) (order_class c))

-- ---- the whole context

-- whether a count is above its limit
-- "2 .. a count is above its limit"; how many identifiers there are the state says
unfoldable pub counts_wrong : ContextWords → Bool
counts_wrong c = ltb 64 c.function_count || (ltb 2048 (interned_count c) || (ltb 256 (instance_count c) || ltb 511 (key_count c)))

-- the options and all tables
-- two options, so below 4
unfoldable pub tables_class : ℕ → ContextWords → ℕ → ℕ
tables_class identifiers c next =
    lower (word_class (Some 4) c.options)
    (lower (identifiers_class identifiers c)
    (lower (functions_class identifiers c.function_count c)
    (lower (links_class c.function_count c next)
    (lower (keys_class identifiers c.function_count c next)
    (lower (diagnostics_class identifiers c)
    (effects_class identifiers c.function_count c))))))

-- a context, for the identifiers of its state and the next number
-- "Order 1 to 5 over the whole input": a count is tested before the records are gone through
unfoldable pub context_class : ℕ → ContextWords → ℕ → ℕ
context_class identifiers c next = ite (counts_wrong c) 2 (tables_class identifiers c next)
