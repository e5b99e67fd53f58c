-- What a search of the numbers below n finds that goes down from the highest is what `any_below` finds. Assumes nothing.
use Rattle.std.specs.Prelude.{ℕ, zero, suc, ◌+◌, ◌-◌, ◌≡◌, refl, Bool, true, false, ◌||◌, List, [], ◌∷◌, length, Option}
use Rattle.std.specs.List.{list_any}
use Rattle.std.specs.Range.{range_steps_back}
use Rattle.std.specs.Iterator.Adapters.{rev_source, rev_steps}
use Rattle.std.specs.declared.iter.Rev.{Rev}
use Rattle.std.specs.declared.ops.Range.{Range}
use Rattle.std.proofs.Common.{arith, sym, ap, subst, ◌∙◌}
use Rattle.std.proofs.lemmas.Iterator.{YieldsList}
use Rattle.std.proofs.lemmas.Iterator.Splits.{YieldsList-from_shown_while}
use Rattle.base_tests.specs.Tests.{any_below}

-- the numbers below n, from the highest down
unfoldable pub down_from : ℕ → List ℕ
down_from zero = []
down_from (suc n) = n ∷ down_from n

abbrev steps_down : Rev (Range ℕ) → Option ℕ → Rev (Range ℕ) → Type 0
steps_down = rev_steps (range_steps_back (λ a b. b - a) (λ a b. b ≡ a + 1))

-- a range from 0 on, turned round, yields them
pub YieldsList-down : {s : Rev (Range ℕ)} (n : ℕ) → rev_source s ≡ record { start = 0; end = n } → YieldsList steps_down (λ x. x) s (down_from n)
unfolding down_from
YieldsList-down {s} n e = subst (λ (r : Range ℕ). YieldsList steps_down (λ x. x) s (down_from r.end)) e
    (YieldsList-from_shown_while steps_down (λ x. x) (λ u. down_from (rev_source u).end) (λ u. (rev_source u).start ≡ 0)
    (λ u t z h. let m : (rev_source u).end ≡ 0 = omega arith in ap (λ k. length (down_from k)) m)
    (λ u x t z h. let m : (rev_source u).end ≡ suc (rev_source t).end = omega arith in (h.0 ∙ z, ap down_from m ∙ ap (λ k. k ∷ down_from (rev_source t).end) (sym h.1.1)))
    s (ap (λ (r : Range ℕ). r.start) e))

-- and one of them passes just where `any_below` says so
pub any_down : (n : ℕ) (f : ℕ → Bool) → list_any f (down_from n) ≡ any_below n f
unfolding down_from any_below
any_down zero f = refl
any_down (suc n) f = go (any_down n f) (f n)
  where
    go : list_any f (down_from n) ≡ any_below n f → (b : Bool) → (b || list_any f (down_from n)) ≡ elim b [ true ↦ true | false ↦ any_below n f ]
    go h true = refl
    go h false = h
