-- Laws by which the key of a cached number and the search by halves meet the definitions. Assumes nothing.
use Rattle.std.specs.Prelude.{ℕ, ◌+◌, ◌-◌, ◌≤◌, ◌<◌, ◌≡◌, List, Result, Ok, Err, None, Some}
use Rattle.std.proofs.Math.Path.{sym, ap}
use Rattle.std.proofs.Common.{◌∙◌}
use Rattle.std.specs.declared.cmp.Ordering.{Ordering}
use Rattle.std.specs.declared.cmp.Ordering.TheVariants.{Less, Equal, Greater}
use Rattle.base_search.specs.Search.{middle, halving, along}
use Rattle.base_search.proofs.Laws.Search.{goes_down, goes_up, is_there, is_over}
use Rattle.lent_tables.specs.Words.{field}
use Rattle.lent_keys.specs.declared.Key.{Key}
use Rattle.lent_keys.specs.KeyRecords.{key_with, numbers_in, key_head_in}
use Rattle.lent_order.specs.Order.{order_at}
use Rattle.lent_layout.specs.Layout as Layout
use Rattle.lent_layout.specs.Context.{ContextWords}
use Rattle.lent_context.specs.Lent.{key_here, number_at}
use Rattle.lent_context.proofs.Laws.Search.{number_there, number_nowhere}

-- ---- the key of a cached number

-- with the captures that stand in its record
pub cached_key_is : (c : ContextWords) (v : ℕ) (key : Key) (is : List ℕ) → ((js : List ℕ) → key_with key js ≡ key_head_in Layout.cached c.keys v js)
    → is ≡ numbers_in Layout.cached c.keys v 12 1 0 (field Layout.cached c.keys v 11) → key_with key is ≡ key_here c v
unfolding key_here
cached_key_is c v key is h e = h is ∙ ap (key_head_in Layout.cached c.keys v) e

-- ---- the search

module _ (c : ℕ → Ordering) (n lo hi mid : ℕ) (o : Ordering) (l : lo < hi) (m : mid ≡ middle lo hi) (q : o ≡ c mid) (inv : along c n ≡ halving (hi - lo) c lo hi) where
  looked : (x : Ordering) → o ≡ x → c (middle lo hi) ≡ x
  looked x e = ap c (sym m) ∙ sym q ∙ e

  pub search_down : o ≡ Less → along c n ≡ halving (mid - lo) c lo mid
  search_down e = inv ∙ goes_down c lo hi l (looked Less e) ∙ ap (λ (x : ℕ). halving (x - lo) c lo x) (sym m)

  pub search_up : o ≡ Greater → along c n ≡ halving (hi - (mid + 1)) c (mid + 1) hi
  search_up e = inv ∙ goes_up c lo hi l (mid + 1) (ap (λ (x : ℕ). x + 1) m) (looked Greater e)

  pub search_at : o ≡ Equal → Ok mid ≡ along c n
  search_at e = sym (inv ∙ is_there c lo hi l (looked Equal e) ∙ ap (λ (x : ℕ). Ok x) (sym m))

-- nothing is left
pub search_over : (c : ℕ → Ordering) (n lo hi : ℕ) → hi ≤ lo → along c n ≡ halving (hi - lo) c lo hi → Err lo ≡ along c n
search_over c n lo hi h inv = sym (inv ∙ is_over c lo hi h)

-- ---- the number where a search ended

module _ (c : ContextWords) (s : Result ℕ ℕ) (j v i w : ℕ) (ends : s ≡ Ok j) (hv : v ≡ order_at Layout.key_order c.key_order j) (hi : i ≡ v) (hw : w ≡ field Layout.cached c.keys i 0) where
  -- the word that says whether it has a key
  word_there : w ≡ field Layout.cached c.keys v 0
  word_there = hw ∙ ap (λ (r : ℕ). field Layout.cached c.keys r 0) hi

  pub ends_keyless : w ≡ 0 → None ≡ number_at c s
  ends_keyless z = number_nowhere c j v w hv word_there z ∙ ap (number_at c) (sym ends)

  pub ends_keyed : (w ≡ 0 → ⊥) → Some v ≡ number_at c s
  ends_keyed n = number_there c j v w hv word_there n ∙ ap (number_at c) (sym ends)
