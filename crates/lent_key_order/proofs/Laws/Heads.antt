-- Keys are compared by their heads, then by the captures that they take. Assumes nothing.
use Rattle.std.specs.Prelude.{ℕ, suc, ◌≡◌, List, Option, None, Some}
use Rattle.std.proofs.Common.{arith, sym, ap, ap₂, ◌∙◌, ⊎_elim}
use Rattle.base_tests.proofs.Laws.Order.{lt_or_ge}
use Rattle.std.specs.Option.{option_cmp}
use Rattle.std.specs.Ordering.{nat_cmp, ordering_then, MatchOrdering}
use Rattle.std.specs.declared.cmp.Ordering.{Ordering}
use Rattle.std.specs.declared.cmp.Ordering.TheVariants.{Less, Equal, Greater}
use Rattle.base_search.specs.Comparings.{compare_numbers, first, compare_lists}
use Rattle.base_search.proofs.Laws.Comparings.{less_is, more_is, same_is, first_assoc, numbers_compared}
use Rattle.def_key_order.specs.KeyOrder.{optional, compare_keys}
use Rattle.lent_keys.specs.declared.Key.{Key}
use Rattle.lent_keys.specs.KeyRecords.{key_with}
use Rattle.lent_key_order.specs.Heads.{compare_heads}

-- ---- numbers that may be absent

pub both_suc : (x y : ℕ) → compare_numbers (suc x) (suc y) ≡ compare_numbers x y
both_suc x y = ⊎_elim
    (λ h. less_is (suc x) (suc y) (omega arith) ∙ sym (less_is x y h))
    (λ h. ⊎_elim
    (λ k. more_is (suc x) (suc y) (omega arith) ∙ sym (more_is x y k))
    (λ k. let e : x ≡ y = omega arith in ap (λ (z : ℕ). compare_numbers (suc z) (suc y)) e ∙ same_is (suc y) ∙ sym (ap (λ (z : ℕ). compare_numbers z y) e ∙ same_is y))
    (lt_or_ge y x))
    (lt_or_ge x y)

-- `cmp` of the code
pub options_compared : (a b : Option ℕ) → option_cmp nat_cmp a b ≡ compare_numbers (optional a) (optional b)
options_compared None None = sym (same_is 0)
options_compared None (Some y) = sym (less_is 0 (suc y) (omega arith))
options_compared (Some x) None = sym (more_is (suc x) 0 (omega arith))
options_compared (Some x) (Some y) = numbers_compared x y ∙ sym (both_suc x y)

-- ---- whole keys

seven : (a b c d e f g r : Ordering) → first a (first b (first c (first d (first e (first f (first g r)))))) ≡ first (first a (first b (first c (first d (first e (first f g)))))) r
seven a b c d e f g r = sym (
    first_assoc a (first b (first c (first d (first e (first f g))))) r ∙ ap (first a)
    (first_assoc b (first c (first d (first e (first f g)))) r ∙ ap (first b)
    (first_assoc c (first d (first e (first f g))) r ∙ ap (first c)
    (first_assoc d (first e (first f g)) r ∙ ap (first d)
    (first_assoc e (first f g) r ∙ ap (first e)
    (first_assoc f g r))))))

-- heads first
pub keys_parts : (a b : Key) (is js : List ℕ) → compare_keys (key_with a is) (key_with b js) ≡ first (compare_heads a b) (compare_lists (key_with a is).captures (key_with b js).captures)
unfolding compare_keys key_with compare_heads compare_lists
keys_parts a b is js =
    seven (compare_numbers a.code b.code) (compare_numbers (optional a.from) (optional b.from)) (compare_numbers (optional a.into) (optional b.into))
    (compare_numbers a.kind b.kind) (compare_numbers a.reason b.reason) (compare_numbers (optional a.function) (optional b.function)) (compare_numbers a.identity b.identity)
    (compare_lists (key_with a is).captures (key_with b js).captures)

-- captures decide where the heads do not
pub heads_decide : (a b : Key) (is js : List ℕ) (h r : Ordering) → h ≡ compare_heads a b
    → MatchOrdering h (r ≡ Less) (r ≡ compare_lists (key_with a is).captures (key_with b js).captures) (r ≡ Greater) → r ≡ compare_keys (key_with a is) (key_with b js)
heads_decide a b is js h r heads m = decides h m ∙ ap (λ (o : Ordering). first o rest) heads ∙ sym (keys_parts a b is js)
  where
    rest : Ordering
    rest = compare_lists (key_with a is).captures (key_with b js).captures

    decides : (o : Ordering) → MatchOrdering o (r ≡ Less) (r ≡ rest) (r ≡ Greater) → r ≡ first o rest
    decides Less e = e
    decides Equal e = e
    decides Greater e = e

-- the heads, part by part
pub heads_are : (a b : Key)
    → ordering_then (nat_cmp a.code b.code)
    (ordering_then (option_cmp nat_cmp a.from b.from)
    (ordering_then (option_cmp nat_cmp a.into b.into)
    (ordering_then (nat_cmp a.kind b.kind)
    (ordering_then (nat_cmp a.reason b.reason)
    (ordering_then (option_cmp nat_cmp a.function b.function)
    (nat_cmp a.identity b.identity))))))
    ≡ compare_heads a b
unfolding compare_heads
heads_are a b =
    both (numbers_compared a.code b.code)
    (both (options_compared a.from b.from)
    (both (options_compared a.into b.into)
    (both (numbers_compared a.kind b.kind)
    (both (numbers_compared a.reason b.reason)
    (both (options_compared a.function b.function)
    (numbers_compared a.identity b.identity))))))
  where
    both : {p q s t : Ordering} → p ≡ q → s ≡ t → first p s ≡ first q t
    both x y = ap₂ first x y
