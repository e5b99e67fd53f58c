-- What is put into an ascending order where the search for its key ended keeps the order ascending. Assumes nothing.
use Prim.Native.Nat.{ℕ, zero, suc, ◌-◌, ◌≤◌, ◌<◌}
use native.Mathlib.Omega.{arith}
use Rattle.std.specs.Prelude.{◌≡◌, ltb, eqb}
use Rattle.std.proofs.Math.Path.{refl, ap}
use Rattle.std.proofs.Common.{sym, ap₂, ◌∙◌, subst, ⊎_elim}
use Rattle.base_tests.specs.Tests.{ite}
use Rattle.base_tests.proofs.Laws.Choice.{ite_lt, ite_ge, ite_eq, ite_ne}
use Rattle.std.specs.declared.cmp.Ordering.TheVariants.{Less, Greater}
use Rattle.base_search.proofs.Laws.Search.{Between}
use Rattle.base_tests.proofs.Laws.Order.{lt_or_ge}
use Rattle.base_search.proofs.Laws.Ascending.{Comparing, Ascends}

-- an order with record r put in at place p; what stood there and after it moves up
unfoldable pub inserted : (ℕ → ℕ) → ℕ → ℕ → ℕ → ℕ
inserted ord p r j = ite (ltb j p) (ord j) (ite (eqb j p) r (ord (j - 1)))

module _ (ord : ℕ → ℕ) (p r : ℕ) where
  pub inserted_before : (j : ℕ) → j < p → inserted ord p r j ≡ ord j
  unfolding inserted
  inserted_before j h = ite_lt j p _ _ h

  pub inserted_there : inserted ord p r p ≡ r
  unfolding inserted
  inserted_there = ite_ge p p _ _ (omega arith) ∙ ite_eq p p _ _ refl

  pub inserted_after : (j : ℕ) → p ≤ j → inserted ord p r (suc j) ≡ ord j
  unfolding inserted
  inserted_after j h = ite_ge (suc j) p _ _ (omega arith) ∙ ite_ne (suc j) p _ _ (λ e. omega arith) ∙ ap ord (let z : suc j - 1 ≡ j = omega arith in z)

module _ {K : Type 0} (C : Comparing K) (key : ℕ → K) (ord : ℕ → ℕ) (n p r : ℕ) (within : p ≤ n) (up : Ascends C key ord n) (b : Between (λ j. C.compare (key r) (key (ord j))) n p) where
  -- two neighbours, by the numbers that stand there
  at_two : (x y j : ℕ) → inserted ord p r j ≡ x → inserted ord p r (suc j) ≡ y → C.compare (key x) (key y) ≡ Less → C.compare (key (inserted ord p r j)) (key (inserted ord p r (suc j))) ≡ Less
  at_two x y j e f h = ap₂ (λ (u v : ℕ). C.compare (key u) (key v)) e f ∙ h

  pub inserted_ascends : Ascends C key (inserted ord p r) (suc n)
  inserted_ascends j l = ⊎_elim low (λ h. high j h l) (lt_or_ge j p)
    where
      low : j < p → C.compare (key (inserted ord p r j)) (key (inserted ord p r (suc j))) ≡ Less
      low h = ⊎_elim
          (λ m. at_two (ord j) (ord (suc j)) j (inserted_before ord p r j h) (inserted_before ord p r (suc j) m) (⊎_elim (λ q. up j q) (λ q. C.more_less (key (ord (suc j))) (key (ord j)) (flip m q)) (lt_or_ge (suc j) n)))
          (λ m. let e : suc j ≡ p = omega arith in at_two (ord j) r j (inserted_before ord p r j h) (subst (λ (q : ℕ). inserted ord p r q ≡ r) (sym e) (inserted_there ord p r)) (C.more_less (key r) (key (ord j)) (b.lower j h)))
          (lt_or_ge (suc j) p)
        where
          -- past the end of the order nothing is asked
          flip : suc j < p → n ≤ suc j → C.compare (key (ord (suc j))) (key (ord j)) ≡ Greater
          flip m q = absurd (let z : ⊥ = omega arith in z)

      high : (i : ℕ) → p ≤ i → suc i < suc n → C.compare (key (inserted ord p r i)) (key (inserted ord p r (suc i))) ≡ Less
      high i h m = ⊎_elim
          (λ q. past i q m)
          (λ q. let e : i ≡ p = omega arith in at_two r (ord i) i (subst (λ (x : ℕ). inserted ord p r x ≡ r) (sym e) (inserted_there ord p r)) (inserted_after ord p r i h) (b.upper i h (omega arith)))
          (lt_or_ge p i)
        where
          past : (i : ℕ) → p < i → suc i < suc n → C.compare (key (inserted ord p r i)) (key (inserted ord p r (suc i))) ≡ Less
          past zero q m = absurd (let z : ⊥ = omega arith in z)
          past (suc i) q m = at_two (ord i) (ord (suc i)) (suc i) (inserted_after ord p r i (omega arith)) (inserted_after ord p r (suc i) (omega arith)) (up i (omega arith))
