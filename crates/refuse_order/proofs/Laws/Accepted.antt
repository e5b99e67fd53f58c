-- An order that earns no class is in order: each place names one of the effects, and their keys ascend. Assumes nothing.
use Rattle.std.specs.Prelude.{ℕ, suc, ◌<◌, ◌≡◌, refl, true, false, ltb}
use Rattle.std.proofs.Common.{arith, sym, ◌∙◌}
use borrow.Author.Tests.{ltb-true, lt-ltb}
use Rattle.base_tests.proofs.Laws.Bool.{not-false, and_first}
use Rattle.std.specs.declared.cmp.Ordering.{Ordering}
use Rattle.std.specs.declared.cmp.Ordering.TheVariants.{Less, Equal, Greater}
use Rattle.def_effects.specs.Keys.{EffectKey}
use Rattle.def_key_order.specs.KeyOrder.{compare_keys}
use Rattle.def_key_order.proofs.Laws.KeyOrder.{keys}
use Rattle.lent_layout.specs.Layout as Layout
use Rattle.lent_layout.specs.Context.{ContextWords}
use Rattle.lent_order.specs.Order.{order_at}
use Rattle.lent_context.specs.Lent.{interned_count, interned_key}
use Rattle.lent_context.proofs.Laws.Ordered.{Ordered}
use Rattle.refuse_class.proofs.Laws.Class.{lower_0}
use Rattle.refuse_words.specs.Classes.{word_class}
use Rattle.refuse_words.proofs.Laws.Class.{earns_none, lowest_0}
use Rattle.refuse_order.specs.Order.{is_less, descends, place_class, order_class}

-- what comes before
pub less_is : (o : Ordering) → is_less o ≡ true → o ≡ Less
less_is Less e = refl
less_is Equal e = cc
less_is Greater e = cc

-- neighbours that do not descend ascend
pub ascends_if : (key : ℕ → EffectKey) (ord : ℕ → ℕ) (n j : ℕ) → suc j < n → descends key ord n j ≡ false → compare_keys (key (ord j)) (key (ord (suc j))) ≡ Less
unfolding descends
ascends_if key ord n j l e = less_is _ (not-false _ (sym (and_first (ltb (suc j) n) _ (lt-ltb (suc j) n l)) ∙ e))

module _ (c : ContextWords) (h : order_class c ≡ 0) where
  place_0 : (j : ℕ) → j < interned_count c → place_class c (interned_count c) j ≡ 0
  unfolding order_class
  place_0 j l = lowest_0 (interned_count c) (place_class c (interned_count c)) (lower_0 _ _ h).0 j l

  named : (j : ℕ) → j < interned_count c → order_at Layout.effect_order c.effect_order j < interned_count c
  unfolding place_class word_class
  named j l = ltb-true (order_at Layout.effect_order c.effect_order j) (interned_count c) (not-false (ltb (order_at Layout.effect_order c.effect_order j) (interned_count c)) (earns_none 2 _ (lower_0 _ _ (place_0 j l)).0))

  rising : (j : ℕ) → suc j < interned_count c → compare_keys (interned_key c (order_at Layout.effect_order c.effect_order j)) (interned_key c (order_at Layout.effect_order c.effect_order (suc j))) ≡ Less
  unfolding place_class
  rising j l = ascends_if (interned_key c) (order_at Layout.effect_order c.effect_order) (interned_count c) j l (earns_none 3 _ (lower_0 _ _ (place_0 j (omega arith))).1)

  pub in_order_is : Ordered c
  unfolding keys
  in_order_is = record { inside = named; ascends = rising }
