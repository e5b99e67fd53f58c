-- Cached keys in order: each place of the order names a number that has a key, the keys ascend, and there are as many places as numbers with a key.
-- Then no two have one key, and the search by halves finds the number under a key, as the definition does. Assumes nothing.
use Prim.Native.Nat.{ℕ, zero, suc, ◌+◌, ◌≤◌, ◌<◌}
use native.Mathlib.Omega.{arith}
use Rattle.std.proofs.Math.Path.{◌≡◌, refl, sym, ap}
use Rattle.std.proofs.Common.{◌∙◌, subst}
use Rattle.std.specs.Prelude.{Bool, Option, None, Some, Result, Ok, Err}
use Rattle.std.proofs.Math.Bool.{true, false}
use Rattle.std.proofs.Math.Logic.{⊎_elim}
use lib.Dec.{eqb}
use Rattle.base_tests.specs.Tests.{ite}
use Rattle.base_tests.proofs.Laws.Bool.{not_true, not-false, never}
use Rattle.base_tests.proofs.Laws.Choice.{ite_yes, ite_no}
use Rattle.base_tests.proofs.Laws.Order.{lt_or_ge, same_or_not}
use Rattle.base_search.specs.Counting.{how_many}
use Rattle.base_search.proofs.Laws.Search.{Between, Finds, along_finds}
use Rattle.base_search.proofs.Laws.Ascending.{Place, Ascends, Tells, places_distinct, search_tells}
use Rattle.base_search.proofs.Laws.Counting.{all_counted}
use Rattle.def_effects.specs.Keys.{EffectKey}
use Rattle.def_key_order.proofs.Laws.EqualKeys.{eq_eq_key}
use Rattle.def_key_order.specs.KeyOrder.{compare_keys}
use Rattle.def_key_order.proofs.Laws.KeyOrder.{keys}
use Rattle.def_transfer.specs.Pure.{pure, is_key, first_cached}
use Rattle.def_transfer.proofs.Laws.Pure.{is_key_is}
use Rattle.lent_tables.specs.Words.{field}
use Rattle.lent_keys.specs.KeyRecords.{key_in}
use Rattle.lent_order.specs.Order.{order_at}
use Rattle.lent_layout.specs.Layout as Layout
use Rattle.lent_layout.specs.Context.{ContextWords}
use Rattle.lent_context.specs.Lent.{key_at, is_keyed, key_here, key_count, key_spot, number_at, find_number}
use Rattle.lent_context.specs.Abstract.{abstract}

-- what the order of n cached keys has to be; number 0 is no value number and has none
-- "two entries of one key, wrong order" earn 4
pub record NumberedTo (n : ℕ) (c : ContextWords) : Type 0 where
  pub inside : (j : ℕ) → j < n → order_at Layout.key_order c.key_order j < 512
  pub there : (j : ℕ) → j < n → is_keyed c (order_at Layout.key_order c.key_order j) ≡ true
  pub ascends : Ascends keys (key_here c) (order_at Layout.key_order c.key_order) n
  pub counted : how_many (is_keyed c) 512 ≡ n
  pub zero_none : is_keyed c 0 ≡ false

abbrev pub Numbered : ContextWords → Type 0
Numbered c = NumberedTo (key_count c) c

-- ---- on any words

module _ (c : ContextWords) (v : ℕ) where
  -- a number with a key
  pub keyed_at : is_keyed c v ≡ true → key_at c v ≡ Some (key_here c v)
  unfolding is_keyed key_at key_in key_here
  keyed_at e = ite_no (eqb (field Layout.cached c.keys v 0) 0) None (Some _) (not_true _ e)

  -- a number without one
  pub keyless_at : is_keyed c v ≡ false → key_at c v ≡ None
  unfolding is_keyed key_at key_in
  keyless_at e = ite_yes (eqb (field Layout.cached c.keys v 0) 0) None (Some _) (not-false _ e)

  -- whether it has one, by what is read
  pub keyed_if : (k : EffectKey) → key_at c v ≡ Some k → is_keyed c v ≡ true
  keyed_if k e = go (is_keyed c v) refl
    where
      go : (b : Bool) → is_keyed c v ≡ b → b ≡ true
      go true q = refl
      go false q = let z : None ≡ Some k = sym (keyless_at q) ∙ e in cc

  pub keyless_if : key_at c v ≡ None → is_keyed c v ≡ false
  keyless_if e = go (is_keyed c v) refl
    where
      go : (b : Bool) → is_keyed c v ≡ b → b ≡ false
      go true q = let z : None ≡ Some (key_here c v) = sym e ∙ keyed_at q in cc
      go false q = refl

some_eq : {A : Type 0} (a b : A) → Some a ≡ Some b → a ≡ b
some_eq a b e = cc

-- what is found under a key has that key
pub number_found : (c : ContextWords) (k : EffectKey) (n : ℕ) → find_number c k ≡ Some n → key_at c n ≡ Some k
unfolding find_number key_spot keys
number_found c k n h = go (key_spot c k) (along_finds (λ j. compare_keys k (key_here c (order_at Layout.key_order c.key_order j))) (key_count c)) h
  where
    go : (s : Result ℕ ℕ) → Finds (λ j. compare_keys k (key_here c (order_at Layout.key_order c.key_order j))) 0 (key_count c) s → number_at c s ≡ Some n → key_at c n ≡ Some k
    go (Ok j) f q = by (is_keyed c (order_at Layout.key_order c.key_order j)) refl q
      where
        r : ℕ
        r = order_at Layout.key_order c.key_order j

        by : (b : Bool) → is_keyed c r ≡ b → ite b (Some r) None ≡ Some n → key_at c n ≡ Some k
        by true e x = ap (key_at c) (sym (some_eq r n x)) ∙ keyed_at c r e ∙ ap Some (sym (keys.equal k (key_here c r) f.0))
        by false e x = cc
    go (Err p) f q = cc

-- ---- the lowest of some numbers under a key

module _ (f : ℕ → Option EffectKey) (k : EffectKey) where
  passed_by : (v : ℕ) → (f v ≡ Some k → ⊥) → is_key k (f v) ≡ false
  passed_by v n = go (is_key k (f v)) refl
    where
      go : (b : Bool) → is_key k (f v) ≡ b → b ≡ false
      go true e = absurd (n (is_key_is k (f v) (subst lib.Dec.T (sym e) tt)))
      go false e = refl

  stopped_at : (v : ℕ) → f v ≡ Some k → is_key k (f v) ≡ true
  unfolding is_key
  stopped_at v e = ap (is_key k) e ∙ eq_eq_key k k refl

  first_number : (m i r : ℕ) → i ≤ r → r < i + m → f r ≡ Some k → ((s : ℕ) → i ≤ s → s < i + m → f s ≡ Some k → s ≡ r) → first_cached m i f k ≡ Some r
  unfolding first_cached
  first_number zero i r l h e one = absurd (let z : ⊥ = omega arith in z)
  first_number (suc m) i r l h e one = ⊎_elim here (there (first_number m (suc i) r)) (same_or_not i r)
    where
      here : i ≡ r → first_cached (suc m) i f k ≡ Some r
      here q = ap (λ (b : Bool). elim b as (λ _. Option ℕ) [ true ↦ Some i | false ↦ first_cached m (suc i) f k ]) (stopped_at i (ap f q ∙ e)) ∙ ap Some q

      there : (suc i ≤ r → r < suc i + m → f r ≡ Some k → ((s : ℕ) → suc i ≤ s → s < suc i + m → f s ≡ Some k → s ≡ r) → first_cached m (suc i) f k ≡ Some r) → (i ≡ r → ⊥) → first_cached (suc m) i f k ≡ Some r
      there again q =
          ap (λ (b : Bool). elim b as (λ _. Option ℕ) [ true ↦ Some i | false ↦ first_cached m (suc i) f k ]) (passed_by i (λ x. q (one i (omega arith) (omega arith) x)))
          ∙ again (⊎_elim (λ x. x) (λ x. absurd (q (omega arith))) (lt_or_ge i r)) (omega arith) e (λ s a b x. one s (omega arith) (omega arith) x)

  none_number : (m i : ℕ) → ((s : ℕ) → i ≤ s → s < i + m → f s ≡ Some k → ⊥) → first_cached m i f k ≡ None
  unfolding first_cached
  none_number zero i h = refl
  none_number (suc m) i h =
      ap (λ (b : Bool). elim b as (λ _. Option ℕ) [ true ↦ Some i | false ↦ first_cached m (suc i) f k ]) (passed_by i (h i (omega arith) (omega arith)))
      ∙ none_number m (suc i) (λ s a b. h s (omega arith) (omega arith))

-- ---- the search by halves finds it

module _ (c : ContextWords) (o : Numbered c) (k : EffectKey) where
  abbrev ord : ℕ → ℕ
  ord = order_at Layout.key_order c.key_order

  -- a number that has a key
  pub record Keyed (v : ℕ) : Type 0 where
    pub below : v < 512
    pub here : is_keyed c v ≡ true

  placed : (r : ℕ) → Keyed r → Place ord (key_count c) r
  placed r h = all_counted (key_count c) ord (is_keyed c) 512 o.inside o.there (places_distinct keys (key_here c) ord (key_count c) o.ascends) o.counted r h.below h.here

  named : (j : ℕ) → j < key_count c → Keyed (ord j)
  named j l = record { below = o.inside j l; here = o.there j l }

  says : Tells keys (key_here c) ord (key_count c) o.ascends Keyed placed named k (key_spot c k)
  unfolding key_spot keys
  says = search_tells keys (key_here c) ord (key_count c) o.ascends Keyed placed named k

  -- a number with a key is not 0
  not_zero : (r : ℕ) → is_keyed c r ≡ true → 1 ≤ r
  not_zero r e = ⊎_elim (λ h. absurd (never (is_keyed c 0) (ap (is_keyed c) (let z : 0 ≡ r = omega arith in z) ∙ e) o.zero_none)) (λ h. h) (lt_or_ge r 1)

  -- and the key under which it is found is the one that stands there
  key_there : (s : ℕ) → key_at c s ≡ Some k → key_here c s ≡ k
  key_there s e = some_eq (key_here c s) k (sym (keyed_at c s (keyed_if c s k e)) ∙ e)

  pub first_numbered : find_number c k ≡ first_cached 511 1 (key_at c) k
  unfolding find_number
  first_numbered = go (key_spot c k) says
    where
      go : (s : Result ℕ ℕ) → Tells keys (key_here c) ord (key_count c) o.ascends Keyed placed named k s → number_at c s ≡ first_cached 511 1 (key_at c) k
      go (Ok j) h =
          ite_yes (is_keyed c (ord j)) (Some (ord j)) None (o.there j h.1)
          ∙ sym (first_number (key_at c) k 511 1 (ord j) (not_zero (ord j) (o.there j h.1)) (let z = o.inside j h.1 in omega arith) (keyed_at c (ord j) (o.there j h.1) ∙ ap Some h.0)
          (λ s a b e. h.2 s (record { below = omega arith; here = keyed_if c s k e }) (key_there s e)))
      go (Err p) h = sym (none_number (key_at c) k 511 1 (λ s a b e. h.1 s (record { below = omega arith; here = keyed_if c s k e }) (key_there s e)))

  -- the search of a context in order is the plain one
  pub number_is : find_number c k ≡ pure.find_number (abstract c) k
  unfolding key_at
  number_is = first_numbered

  -- where it finds nothing, the key stands between two neighbours
  abbrev pub Apart : Result ℕ ℕ → Type 0
  Apart (Ok j) = ⊥
  Apart (Err p) = (p ≤ key_count c) × Between (λ j. compare_keys k (key_here c (order_at Layout.key_order c.key_order j))) (key_count c) p

  pub stands_apart : find_number c k ≡ None → Apart (key_spot c k)
  unfolding find_number keys
  stands_apart e = go (key_spot c k) says e
    where
      go : (s : Result ℕ ℕ) → Tells keys (key_here c) ord (key_count c) o.ascends Keyed placed named k s → number_at c s ≡ None → Apart s
      go (Ok j) h q = let z : Some (ord j) ≡ None = sym (ite_yes (is_keyed c (ord j)) (Some (ord j)) None (o.there j h.1)) ∙ q in let y : ◌≡◌ {A = ℕ} 0 1 = cc in omega arith
      go (Err p) h q = (h.0, h.2)
