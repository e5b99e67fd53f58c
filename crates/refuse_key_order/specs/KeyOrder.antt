-- Which class of refusal the order of the cached keys earns (document 01, 'Refused calls': "an index lies outside its range",
-- "two entries of one key, wrong order, an unused word not zero"). Assumes nothing: these are definitions.
use Rattle.std.specs.Prelude.{ℕ, Bool, not, ◌||◌, eqb, Some}
use Rattle.base_search.specs.Counting.{how_many}
use Rattle.lent_layout.specs.Layout as Layout
use Rattle.lent_layout.specs.Context.{ContextWords}
use Rattle.lent_order.specs.Order.{order_at}
use Rattle.lent_context.specs.Lent.{is_keyed, key_here, key_count}
use Rattle.refuse_class.specs.Class.{lower}
use Rattle.refuse_words.specs.Classes.{lowest_below, earns, word_class, stray_after}
use Rattle.refuse_order.specs.Order.{descends}

-- whether the number at place j of an order of n has no key, or its key does not come before the next
unfoldable pub misplaced : ContextWords → ℕ → ℕ → Bool
misplaced c n j = not (is_keyed c (order_at Layout.key_order c.key_order j)) || descends (key_here c) (order_at Layout.key_order c.key_order) n j

-- a place of the order: one of the numbers below m, and in its place
unfoldable pub key_place_class : ContextWords → ℕ → ℕ → ℕ → ℕ
key_place_class c m n j = lower (word_class (Some m) (order_at Layout.key_order c.key_order j)) (earns 4 (misplaced c n j))

-- whether the order has another number of places than numbers below m have a key
unfoldable pub miscounted : ContextWords → ℕ → Bool
miscounted c m = not (eqb (how_many (is_keyed c) m) (key_count c))

-- the whole order, of numbers below m, and the words after it
unfoldable pub key_order_class : ContextWords → ℕ → ℕ
key_order_class c m = lower (earns 4 (miscounted c m)) (lower (lowest_below (key_count c) (key_place_class c m (key_count c))) (stray_after Layout.key_order c.key_order (key_count c)))
