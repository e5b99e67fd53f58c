-- An order of cached keys that earns no class is in order, where no number from m on has a key, nor number 0. Assumes nothing.
use Rattle.std.specs.Prelude.{ℕ, suc, ◌≤◌, ◌<◌, ◌≡◌, true, false, not, ltb}
use Rattle.std.proofs.Common.{arith, ◌∙◌}
use borrow.Author.Tests.{ltb-true, eqb-true}
use Rattle.base_tests.proofs.Laws.Bool.{not-false, or_no_first, or_no_second}
use Rattle.std.specs.declared.cmp.Ordering.TheVariants.{Less}
use Rattle.base_search.specs.Counting.{how_many}
use Rattle.base_search.proofs.Laws.Counting.{count_all_is}
use Rattle.def_key_order.specs.KeyOrder.{compare_keys}
use Rattle.def_key_order.proofs.Laws.KeyOrder.{keys}
use Rattle.lent_layout.specs.Layout as Layout
use Rattle.lent_layout.specs.Context.{ContextWords}
use Rattle.lent_order.specs.Order.{order_at}
use Rattle.lent_context.specs.Lent.{is_keyed, key_here, key_count}
use Rattle.lent_context.proofs.Laws.Numbered.{Numbered}
use Rattle.refuse_class.proofs.Laws.Class.{lower_0}
use Rattle.refuse_words.specs.Classes.{word_class}
use Rattle.refuse_words.proofs.Laws.Class.{earns_none, lowest_0}
use Rattle.refuse_order.proofs.Laws.Accepted.{ascends_if}
use Rattle.refuse_key_order.specs.KeyOrder.{misplaced, key_place_class, miscounted, key_order_class}

module _ (c : ContextWords) (m : ℕ) (few : m ≤ 512) (h : key_order_class c m ≡ 0) where
  place_0 : (j : ℕ) → j < key_count c → key_place_class c m (key_count c) j ≡ 0
  unfolding key_order_class
  place_0 j l = lowest_0 (key_count c) (key_place_class c m (key_count c)) (lower_0 _ _ (lower_0 _ _ h).1).0 j l

  below : (j : ℕ) → j < key_count c → order_at Layout.key_order c.key_order j < m
  unfolding key_place_class word_class
  below j l = ltb-true (order_at Layout.key_order c.key_order j) m (not-false (ltb (order_at Layout.key_order c.key_order j) m) (earns_none 2 _ (lower_0 _ _ (place_0 j l)).0))

  in_place : (j : ℕ) → j < key_count c → misplaced c (key_count c) j ≡ false
  unfolding key_place_class
  in_place j l = earns_none 3 _ (lower_0 _ _ (place_0 j l)).1

  keyed : (j : ℕ) → j < key_count c → is_keyed c (order_at Layout.key_order c.key_order j) ≡ true
  unfolding misplaced
  keyed j l = not-false _ (or_no_first _ _ (in_place j l))

  rising : (j : ℕ) → suc j < key_count c → compare_keys (key_here c (order_at Layout.key_order c.key_order j)) (key_here c (order_at Layout.key_order c.key_order (suc j))) ≡ Less
  unfolding misplaced
  rising j l = ascends_if (key_here c) (order_at Layout.key_order c.key_order) (key_count c) j l (or_no_second (not (is_keyed c (order_at Layout.key_order c.key_order j))) _ (in_place j (omega arith)))

  as_many : how_many (is_keyed c) m ≡ key_count c
  unfolding key_order_class miscounted
  as_many = eqb-true (how_many (is_keyed c) m) (key_count c) (not-false _ (earns_none 3 _ (lower_0 _ _ h).0))

  pub in_order_is : ((v : ℕ) → m ≤ v → is_keyed c v ≡ false) → is_keyed c 0 ≡ false → Numbered c
  unfolding keys
  in_order_is none_after none_first = record {
    inside = λ j l. let z = below j l in omega arith;
    there = keyed;
    ascends = rising;
    counted = count_all_is (is_keyed c) m 512 few (λ x a b. none_after x a) ∙ as_many;
    zero_none = none_first;
  }
