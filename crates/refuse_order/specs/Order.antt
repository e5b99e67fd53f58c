-- Which class of refusal the order of the interned effects earns (document 01, 'Refused calls': "an index lies outside its range",
-- "two entries of one key, wrong order, an unused word not zero"). Assumes nothing: these are definitions.
use Rattle.std.specs.Prelude.{ℕ, suc, ◌<◌, ◌≡◌, Bool, true, false, not, ◌&&◌, ltb, Some}
use Rattle.std.specs.declared.cmp.Ordering.{Ordering}
use Rattle.std.specs.declared.cmp.Ordering.TheVariants.{Less, Equal, Greater}
use Rattle.def_effects.specs.Keys.{EffectKey}
use Rattle.def_key_order.specs.KeyOrder.{compare_keys}
use Rattle.lent_layout.specs.Layout as Layout
use Rattle.lent_layout.specs.Context.{ContextWords}
use Rattle.lent_order.specs.Order.{order_at}
use Rattle.lent_context.specs.Lent.{interned_count, interned_key}
use Rattle.refuse_class.specs.Class.{lower}
use Rattle.refuse_words.specs.Classes.{lowest_below, earns, word_class, stray_after}

-- whether what is compared comes before
abbrev pub is_less : Ordering → Bool
is_less Less = true
is_less Equal = false
is_less Greater = false

-- whether what stands at place j of an order of n does not come before what stands at the next place, if there is one
-- neighbours of one key are "two entries of one key"
unfoldable pub descends : (ℕ → EffectKey) → (ℕ → ℕ) → ℕ → ℕ → Bool
descends key ord n j = ltb (suc j) n && not (is_less (compare_keys (key (ord j)) (key (ord (suc j)))))

-- of two words a call can answer nothing but how their keys compare; `post` says what it can answer
abbrev pub Compares : (ℕ → ℕ → Ordering → Type 0) → (ℕ → EffectKey) → Type 0
Compares post key = (a b : ℕ) (o : Ordering) → a < 4294967296 → b < 4294967296 → post a b o → o ≡ compare_keys (key a) (key b)

-- a place of the order: the number of one of n effects, and its key before the next
unfoldable pub place_class : ContextWords → ℕ → ℕ → ℕ
place_class c n j = lower (word_class (Some n) (order_at Layout.effect_order c.effect_order j)) (earns 4 (descends (interned_key c) (order_at Layout.effect_order c.effect_order) n j))

-- the whole order, and the words after it
unfoldable pub order_class : ContextWords → ℕ
order_class c = lower (lowest_below (interned_count c) (place_class c (interned_count c))) (stray_after Layout.effect_order c.effect_order (interned_count c))
