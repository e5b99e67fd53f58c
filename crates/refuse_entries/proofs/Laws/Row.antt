-- The ways through the tests of a row: what `next_member` finds, and what it passes. Assumes nothing.
use Rattle.std.specs.Prelude.{◌≡◌, refl, Bool, true, false, not, List, ℕ, zero, suc, ◌+◌, ◌-◌, ◌≤◌, ◌<◌, ltb, max, Option, None, Some}
use Rattle.std.proofs.Common.{sym, ap, ◌∙◌, subst, ⊎_elim, lt_irrefl, arith, lt-ltb, le-ltb}
use Rattle.base_sets.specs.Members.{members, bits_of, values_of}
use Rattle.lent_sets.specs.Rows.{bit, pick, seek, set_at, member, next_member}
use Rattle.base_tests.specs.Tests.{is_some, any_of}
use Rattle.base_tests.proofs.Laws.Order.{lt_or_ge, same_or_not}
use Rattle.lent_sets.proofs.Laws.Set.{bits_of_is, all_bits}
use Rattle.lent_sets.proofs.Laws.Row.{some_of, set_bit, set_values, next_ge, next_is}
use Rattle.def_transfer.specs.Accepted.{not_anumber, not_yet_handed_out}
use Rattle.refuse_entries.specs.Words.{row_out_of_range, row_in_use, row_too_new, row_unfit}
use Rattle.base_tests.proofs.Laws.Bool.{never}
use Rattle.base_tests.proofs.Laws.Below.{list_no, list_all_is}
use Rattle.base_tests.proofs.Laws.Choice.{ite_yes, ite_no}
use Rattle.refuse_entries.proofs.Laws.Word.{number_past, number_in, new_past, new_below}

-- ---- what a search passes

pub seek_passed : (f : ℕ → ℕ) (n v k : ℕ) → v ≤ k → k < seek f n v → f k ≡ 0
unfolding seek
seek_passed f zero v k l h = absurd (omega arith)
seek_passed f (suc n) v k l h = go (seek_passed f n (suc v) k) (f v) refl h
  where
    go : (suc v ≤ k → k < seek f n (suc v) → f k ≡ 0) → (b : ℕ) → f v ≡ b → k < pick b v (seek f n (suc v)) → f k ≡ 0
    go ih zero q h = ⊎_elim (λ p. ih p h) (λ p. let e : k ≡ v = omega arith in ap f e ∙ q) (lt_or_ge v k)
    go ih (suc b) q h = absurd (omega arith)

pub next_passed : (ss : List ℕ) (i v u k : ℕ) → u ≡ next_member ss i v → v ≤ k → k < u → member ss i k ≡ 0
unfolding next_member
next_passed ss i v u k e l h = seek_passed (member ss i) (1024 - v) v k l (subst (λ (x : ℕ). k < x) e h)

-- ---- any member of a row that is defined

module _ (f : ℕ → Bool) (ss : List ℕ) (i s : ℕ) (h : set_at ss i ≡ Some s) where
  -- one that passes the test
  any_member : (u : ℕ) → 0 < u → u < 1024 → 0 < member ss i u → f u ≡ true → any_of f (members s) ≡ true
  any_member u p l m t = go (any_of f (members s)) refl
    where
      go : (b : Bool) → any_of f (members s) ≡ b → b ≡ true
      go true q = refl
      go false q =
          never (f u) t
          (bits_of_is (λ (v : ℕ). f v ≡ false) s (list_all_is f (members s) q) u (subst (λ (x : ℕ). 0 < x) (sym (set_bit ss i s h u p l)) m))

  -- none that does
  no_member : ((v : ℕ) → 0 < v → v < 1024 → 0 < member ss i v → f v ≡ false) → any_of f (members s) ≡ false
  no_member g = list_no f (members s) (all_bits (λ (v : ℕ). f v ≡ false) s at)
    where
      at : (v : ℕ) → 0 < bit s v → f v ≡ false
      at v p =
          let r = bits_of_is (λ (v : ℕ). (0 < v) × (v < 1024)) s (set_values ss i s h) v p in
          g v r.0 r.1 (subst (λ (x : ℕ). 0 < x) (set_bit ss i s h v r.0 r.1) p)

-- a search from `from` on, up to `end`: it finds a member below `end` just where a member passes the test
-- the test holds of the numbers from `from` on and below `end`, and of no others
module _ (f : ℕ → Bool) (ss : List ℕ) (i from end : ℕ) where
  search_is : (s u : ℕ) → set_at ss i ≡ Some s → u ≡ next_member ss i from → 0 < from → from ≤ 1024 → end ≤ 1024
      → ((v : ℕ) → from ≤ v → v < end → f v ≡ true) → ((v : ℕ) → 0 < v → v < from → f v ≡ false) → ((v : ℕ) → v < 1024 → end ≤ v → f v ≡ false)
      → ltb u end ≡ any_of f (members s)
  search_is s u h e p q r yes' low high = ⊎_elim found passed (lt_or_ge u end)
    where
      above : from ≤ u
      above = next_ge ss i from u e

      found : u < end → ltb u end ≡ any_of f (members s)
      found l = lt-ltb u end l ∙ sym (any_member f ss i s h u (omega (arith, above)) (omega arith) (next_is ss i from u e q (omega arith)) (yes' u above l))

      at : end ≤ u → (v : ℕ) → 0 < v → v < 1024 → 0 < member ss i v → f v ≡ false
      at l v a b m = ⊎_elim
          (λ k. low v a k)
          (λ k. ⊎_elim
          (λ j. absurd (lt_irrefl 0 (subst (λ (x : ℕ). 0 < x) (next_passed ss i from u v e k (omega arith)) m)))
          (λ j. high v b j)
          (lt_or_ge v end))
          (lt_or_ge v from)

      passed : end ≤ u → ltb u end ≡ any_of f (members s)
      passed l = le-ltb u end l ∙ sym (no_member f ss i s h (at l))

-- a row that is not defined has no members
none_has : (f : ℕ → Bool) (o : Option ℕ) → is_some o ≡ false → any_of f (values_of o) ≡ false
unfolding any_of
none_has f None e = refl
none_has f (Some s) e = never true refl e

values_some : (f : ℕ → Bool) (o : Option ℕ) → is_some o ≡ true → any_of f (members (bits_of o)) ≡ any_of f (values_of o)
values_some f None e = never false e refl
values_some f (Some s) e = refl

-- ---- row_out_of_range

pub out_undefined : (n : ℕ) (ss : List ℕ) (i : ℕ) → is_some (set_at ss i) ≡ false → row_out_of_range n ss i ≡ false
unfolding row_out_of_range
out_undefined n ss i e = none_has (not_anumber n) (set_at ss i) e

-- the list is full: each member is a number
pub out_full : (n : ℕ) (ss : List ℕ) (i : ℕ) → is_some (set_at ss i) ≡ true → 512 ≤ n → row_out_of_range n ss i ≡ false
unfolding row_out_of_range
out_full n ss i e h =
    sym (values_some (not_anumber n) (set_at ss i) e)
    ∙ no_member (not_anumber n) ss i (bits_of (set_at ss i)) (some_of (set_at ss i) e) (λ v a b m. number_in n v a (omega arith))

pub out_search : (n : ℕ) (ss : List ℕ) (i u : ℕ) → is_some (set_at ss i) ≡ true → n < 512 → u ≡ next_member ss i (512 + n) → ltb u 1024 ≡ row_out_of_range n ss i
unfolding row_out_of_range
out_search n ss i u e h q =
    search_is (not_anumber n) ss i (512 + n) 1024 (bits_of (set_at ss i)) u (some_of (set_at ss i) e) q (omega arith) (omega arith) (omega arith)
    (λ v a b. number_past n v a) (λ v a b. number_in n v a b) (λ v a b. absurd (omega arith))
    ∙ values_some (not_anumber n) (set_at ss i) e

-- ---- row_too_new

pub new_undefined : (next : ℕ) (ss : List ℕ) (i : ℕ) → is_some (set_at ss i) ≡ false → row_too_new next ss i ≡ false
unfolding row_too_new
new_undefined next ss i e = none_has (not_yet_handed_out next) (set_at ss i) e

-- a number below next is handed out
new_early : (next v : ℕ) → v < next → not_yet_handed_out next v ≡ false
new_early next v h = ⊎_elim (λ j. new_below next v j ∙ ap not (lt-ltb v next h)) (λ j. new_past next v j) (lt_or_ge v 512)

-- the search starts at next, or at 1 where next is 0
new_from : (next from : ℕ) (ss : List ℕ) (i u : ℕ) → is_some (set_at ss i) ≡ true → u ≡ next_member ss i from → 0 < from → from ≤ 1024 → next ≤ from → ((v : ℕ) → 0 < v → v < from → v < next) → ltb u 512 ≡ row_too_new next ss i
unfolding row_too_new
new_from next from ss i u e q p l k below =
    search_is (not_yet_handed_out next) ss i from 512 (bits_of (set_at ss i)) u (some_of (set_at ss i) e) q p l (omega arith)
    (λ v a b. new_below next v b ∙ ap not (le-ltb v next (omega arith)))
    (λ v a b. new_early next v (below v a b))
    (λ v a b. new_past next v b)
    ∙ values_some (not_yet_handed_out next) (set_at ss i) e

pub new_zero : (next : ℕ) (ss : List ℕ) (i u : ℕ) → is_some (set_at ss i) ≡ true → next ≡ 0 → u ≡ next_member ss i 1 → ltb u 512 ≡ row_too_new next ss i
new_zero next ss i u e z q = new_from next 1 ss i u e q (omega arith) (omega arith) (omega arith) (λ v a b. absurd (omega arith))

-- past 1,024 there is nothing to search, and no fresh number is too new
new_past_all : (next : ℕ) (ss : List ℕ) (i u : ℕ) → is_some (set_at ss i) ≡ true → 1024 < next → next ≤ u → ltb u 512 ≡ row_too_new next ss i
unfolding row_too_new
new_past_all next ss i u e l g =
    le-ltb u 512 (omega arith)
    ∙ sym (no_member (not_yet_handed_out next) ss i (bits_of (set_at ss i)) (some_of (set_at ss i) e) (λ v a b m. new_early next v (omega arith)))
    ∙ values_some (not_yet_handed_out next) (set_at ss i) e

pub new_search : (next : ℕ) (ss : List ℕ) (i u : ℕ) → is_some (set_at ss i) ≡ true → (next ≡ 0 → ⊥) → u ≡ next_member ss i next → ltb u 512 ≡ row_too_new next ss i
new_search next ss i u e z q = ⊎_elim
    (λ l. new_past_all next ss i u e l (next_ge ss i next u q))
    (λ l. new_from next next ss i u e q (omega arith) l (omega arith) (λ v a b. b))
    (lt_or_ge 1024 next)

-- the same, where the search starts at the larger of next and 1
pub new_max : (next m : ℕ) (ss : List ℕ) (i u : ℕ) → is_some (set_at ss i) ≡ true → m ≡ max next 1 → u ≡ next_member ss i m → ltb u 512 ≡ row_too_new next ss i
new_max next m ss i u e h q = ⊎_elim
    (λ z. new_zero next ss i u e z (q ∙ ap (next_member ss i) (let k : m ≡ 1 = omega arith in k)))
    (λ z. new_search next ss i u e z (q ∙ ap (next_member ss i) (let k : m ≡ next = omega arith in k)))
    (same_or_not next 0)

-- ---- row_unfit

pub unfit_defined : (next : ℕ) (ss : List ℕ) (i : ℕ) → is_some (set_at ss i) ≡ true → row_unfit next ss i ≡ row_too_new next ss i
unfolding row_unfit
unfit_defined next ss i e = ite_yes (is_some (set_at ss i)) _ _ e

pub unfit_undefined : (next : ℕ) (ss : List ℕ) (i : ℕ) → is_some (set_at ss i) ≡ false → row_unfit next ss i ≡ row_in_use ss i
unfolding row_unfit
unfit_undefined next ss i e = ite_no (is_some (set_at ss i)) _ _ e
