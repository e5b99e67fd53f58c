-- Interned effects in order: each place of the order names one of them, and their keys ascend. Then no two have one key, and the search by halves
-- finds the first effect under a key, as the definition does. Assumes nothing.
use Prim.Native.Nat.{ℕ, zero, suc, ◌+◌, ◌≤◌, ◌<◌}
use native.Mathlib.Omega.{arith}
use Rattle.std.specs.Prelude.{◌≡◌, refl, Bool, true, false, List, None, Some, Result, Ok, Err}
use Rattle.std.proofs.Math.Path.{sym, ap}
use Rattle.std.proofs.Common.{◌∙◌, subst}
use Rattle.std.proofs.Math.Logic.{⊎_elim}
use Rattle.base_tests.proofs.Laws.Order.{same_or_not}
use Rattle.base_search.proofs.Laws.Search.{Between, Finds, along_finds}
use Rattle.base_search.proofs.Laws.Ascending.{Ascends, Says, search_says}
use Rattle.def_effects.specs.Effects.{AliasingEffect}
use Rattle.def_effects.specs.Keys.{EffectKey, effect_key, eq_key}
use Rattle.def_effects.proofs.Laws.Key.{eq_key_eq}
use Rattle.def_key_order.proofs.Laws.EqualKeys.{eq_eq_key}
use Rattle.def_key_order.specs.KeyOrder.{compare_keys}
use Rattle.def_key_order.proofs.Laws.KeyOrder.{keys}
use Rattle.def_transfer.specs.Pure.{pure, find_effect as first_under}
use Rattle.lent_tables.specs.declared.Table.{Table}
use Rattle.lent_effects.specs.Records.{effect_in}
use Rattle.lent_order.specs.Order.{order_at}
use Rattle.lent_layout.specs.Layout as Layout
use Rattle.lent_layout.specs.Context.{ContextWords}
use Rattle.lent_context.specs.Lent.{effects_in, interned_count, interned_key, effect_spot, effect_at, find_effect}
use Rattle.lent_context.specs.Abstract.{abstract}
use Rattle.lent_context.proofs.Laws.Search.{search_ends, search_goes, search_none}

-- what the order of n effects has to be: each place names one of them, neighbours ascend
-- "wrong order" earns 4
pub record OrderedTo (n : ℕ) (c : ContextWords) : Type 0 where
  pub inside : (j : ℕ) → j < n → order_at Layout.effect_order c.effect_order j < n
  pub ascends : Ascends keys (interned_key c) (order_at Layout.effect_order c.effect_order) n

abbrev pub Ordered : ContextWords → Type 0
Ordered c = OrderedTo (interned_count c) c

-- ---- on any words: what is found under a key has that key

pub found_under : (c : ContextWords) (k : EffectKey) (e : AliasingEffect) → find_effect c k ≡ Some e → k ≡ effect_key e
unfolding find_effect effect_spot keys
found_under c k e h = go (effect_spot c k) (along_finds (λ j. compare_keys k (interned_key c (order_at Layout.effect_order c.effect_order j))) (interned_count c)) h
  where
    some_eq : (a b : AliasingEffect) → Some a ≡ Some b → a ≡ b
    some_eq a b e = cc

    go : (s : Result ℕ ℕ) → Finds (λ j. compare_keys k (interned_key c (order_at Layout.effect_order c.effect_order j))) 0 (interned_count c) s → effect_at c s ≡ Some e → k ≡ effect_key e
    go (Ok j) f q = keys.equal k (interned_key c (order_at Layout.effect_order c.effect_order j)) f.0 ∙ ap effect_key (some_eq _ e q)
    go (Err p) f q = cc

-- ---- the first of some effects under a key

module _ (t : Table) (c : List ℕ) (key : EffectKey) where
  -- an effect under another key
  under_other : (r : ℕ) → (effect_key (effect_in t c r) ≡ key → ⊥) → eq_key key (effect_key (effect_in t c r)) ≡ false
  under_other r n = go (eq_key key (effect_key (effect_in t c r))) refl
    where
      go : (b : Bool) → eq_key key (effect_key (effect_in t c r)) ≡ b → b ≡ false
      go true e = absurd (n (sym (eq_key_eq key (effect_key (effect_in t c r)) (subst lib.Dec.T (sym e) tt))))
      go false e = refl

  -- the only one under a key is the first
  first_at : (k n r : ℕ) → k ≤ r → r < k + n → effect_key (effect_in t c r) ≡ key → ((s : ℕ) → s < k + n → effect_key (effect_in t c s) ≡ key → s ≡ r) → first_under (effects_in t c k n) key ≡ Some (effect_in t c r)
  unfolding effects_in
  first_at k zero r l m e one = absurd (let z : ⊥ = omega arith in z)
  first_at k (suc n) r l m e one = ⊎_elim here (there (first_at (suc k) n r)) (same_or_not k r)
    where
      here : k ≡ r → first_under (effects_in t c k (suc n)) key ≡ Some (effect_in t c r)
      here q =
          search_ends (effect_in t c k) (effects_in t c (suc k) n) key (eq_eq_key key (effect_key (effect_in t c k)) (sym e ∙ ap (λ (x : ℕ). effect_key (effect_in t c x)) (sym q)))
          ∙ ap (λ (x : ℕ). Some (effect_in t c x)) q

      there : (suc k ≤ r → r < suc k + n → effect_key (effect_in t c r) ≡ key → ((s : ℕ) → s < suc k + n → effect_key (effect_in t c s) ≡ key → s ≡ r) → first_under (effects_in t c (suc k) n) key ≡ Some (effect_in t c r))
          → (k ≡ r → ⊥) → first_under (effects_in t c k (suc n)) key ≡ Some (effect_in t c r)
      there again q =
          search_goes (effect_in t c k) (effects_in t c (suc k) n) key (under_other k (λ x. q (one k (omega arith) x)))
          ∙ again (after q) (omega arith) e (λ s x y. one s (omega arith) y)
        where
          after : (k ≡ r → ⊥) → suc k ≤ r
          after q = ⊎_elim (λ x. x) (λ x. absurd (q (omega arith))) (Rattle.base_tests.proofs.Laws.Order.lt_or_ge k r)

  -- none under a key
  first_none : (k n : ℕ) → ((s : ℕ) → s < k + n → effect_key (effect_in t c s) ≡ key → ⊥) → first_under (effects_in t c k n) key ≡ None
  unfolding effects_in
  first_none k zero h = search_none key
  first_none k (suc n) h = search_goes (effect_in t c k) (effects_in t c (suc k) n) key (under_other k (h k (omega arith))) ∙ first_none (suc k) n (λ s l. h s (omega arith))

-- ---- the search by halves finds it

module _ (c : ContextWords) (o : Ordered c) (k : EffectKey) where
  says : Says keys (interned_key c) (order_at Layout.effect_order c.effect_order) (interned_count c) o.ascends o.inside k (effect_spot c k)
  unfolding effect_spot keys
  says = search_says keys (interned_key c) (order_at Layout.effect_order c.effect_order) (interned_count c) o.ascends o.inside k

  pub first_under_is : find_effect c k ≡ first_under (effects_in Layout.interned c.effects 0 (interned_count c)) k
  unfolding find_effect
  first_under_is = go (effect_spot c k) says
    where
      go : (s : Result ℕ ℕ) → Says keys (interned_key c) (order_at Layout.effect_order c.effect_order) (interned_count c) o.ascends o.inside k s → effect_at c s ≡ first_under (effects_in Layout.interned c.effects 0 (interned_count c)) k
      go (Ok j) h = sym (first_at Layout.interned c.effects k 0 (interned_count c) (order_at Layout.effect_order c.effect_order j) (omega arith) (let z = o.inside j h.1 in omega arith) h.0 (λ s l e. h.2 s (omega arith) e))
      go (Err p) h = sym (first_none Layout.interned c.effects k 0 (interned_count c) (λ s l e. h.1 s (omega arith) e))

  -- the search of a context in order is the plain one
  pub effect_is : find_effect c k ≡ pure.find_effect (abstract c) k
  effect_is = first_under_is

  -- where it finds nothing, the key stands between two neighbours
  abbrev pub Parts : Result ℕ ℕ → Type 0
  Parts (Ok j) = Unit {0}
  Parts (Err p) = (p ≤ interned_count c) × Between (λ j. compare_keys k (interned_key c (order_at Layout.effect_order c.effect_order j))) (interned_count c) p

  pub parts : Parts (effect_spot c k)
  unfolding keys
  parts = go (effect_spot c k) says
    where
      go : (s : Result ℕ ℕ) → Says keys (interned_key c) (order_at Layout.effect_order c.effect_order) (interned_count c) o.ascends o.inside k s → Parts s
      go (Ok j) h = tt
      go (Err p) h = (h.0, h.2)
