-- What a search by halves finds, and what it says where it finds nothing; the laws by which a loop meets it. Assumes nothing.
use Rattle.std.specs.Prelude.{ℕ, zero, suc, ◌+◌, ◌-◌, ◌≤◌, ◌<◌, ◌≡◌, refl, Result, Ok, Err}
use Rattle.std.proofs.Common.{arith, sym, ap, ◌∙◌, subst, ⊎_elim}
use Rattle.base_tests.proofs.Laws.Choice.{ite_lt, ite_ge}
use Rattle.base_tests.proofs.Laws.Order.{lt_or_ge}
use Rattle.std.specs.declared.cmp.Ordering.{Ordering}
use Rattle.std.specs.declared.cmp.Ordering.TheVariants.{Less, Equal, Greater}
use Rattle.base_search.specs.Search.{middle, turn, halving, along}

-- ---- one turn

module _ (cmp : ℕ → Ordering) (d lo hi : ℕ) where
  pub ended : hi ≤ lo → halving (suc d) cmp lo hi ≡ Err lo
  unfolding halving
  ended h = ite_ge lo hi _ _ h

  pub turned : lo < hi → halving (suc d) cmp lo hi ≡ turn (cmp (middle lo hi)) (halving d cmp lo (middle lo hi)) (Ok (middle lo hi)) (halving d cmp (suc (middle lo hi)) hi)
  unfolding halving
  turned h = ite_lt lo hi _ _ h

-- ---- as many turns as there are places are enough: more change nothing

pub enough : (cmp : ℕ → Ordering) (d e lo hi : ℕ) → hi ≤ lo + d → hi ≤ lo + e → halving d cmp lo hi ≡ halving e cmp lo hi
unfolding halving
enough cmp zero zero lo hi p q = refl
enough cmp zero (suc e) lo hi p q = sym (ended cmp e lo hi (omega arith))
enough cmp (suc d) zero lo hi p q = ended cmp d lo hi (omega arith)
enough cmp (suc d) (suc e) lo hi p q =
    ⊎_elim
    (λ h. turned cmp d lo hi h ∙ both (λ a b x y. enough cmp d e a b x y) (cmp (middle lo hi)) h ∙ sym (turned cmp e lo hi h))
    (λ h. ended cmp d lo hi h ∙ sym (ended cmp e lo hi h))
    (lt_or_ge lo hi)
  where
    both : ((a b : ℕ) → b ≤ a + d → b ≤ a + e → halving d cmp a b ≡ halving e cmp a b) → (o : Ordering) → lo < hi
        → turn o (halving d cmp lo (middle lo hi)) (Ok (middle lo hi)) (halving d cmp (suc (middle lo hi)) hi) ≡ turn o (halving e cmp lo (middle lo hi)) (Ok (middle lo hi)) (halving e cmp (suc (middle lo hi)) hi)
    both again Less h = again lo (middle lo hi) (omega arith) (omega arith)
    both again Equal h = refl
    both again Greater h = again (suc (middle lo hi)) hi (omega arith) (omega arith)

-- ---- what is found was sought, whatever the comparison says elsewhere

-- a place inside, and equal; or a place inside or at the end
abbrev pub Finds : (ℕ → Ordering) → ℕ → ℕ → Result ℕ ℕ → Type 0
Finds cmp lo hi (Ok j) = (cmp j ≡ Equal) × (lo ≤ j) × (j < hi)
Finds cmp lo hi (Err p) = (lo ≤ p) × (p ≤ hi)

-- a search of fewer places finds what a search of more may
wider : (cmp : ℕ → Ordering) (lo hi lo2 hi2 : ℕ) (s : Result ℕ ℕ) → lo ≤ lo2 → hi2 ≤ hi → Finds cmp lo2 hi2 s → Finds cmp lo hi s
wider cmp lo hi lo2 hi2 (Ok j) p q h = (h.0, omega arith, omega arith)
wider cmp lo hi lo2 hi2 (Err k) p q h = (omega arith, omega arith)

pub finds : (cmp : ℕ → Ordering) (d lo hi : ℕ) → lo ≤ hi → Finds cmp lo hi (halving d cmp lo hi)
unfolding halving
finds cmp zero lo hi l = (omega arith, l)
finds cmp (suc d) lo hi l =
    ⊎_elim
    (λ h. subst (Finds cmp lo hi) (sym (turned cmp d lo hi h)) (go (λ a b x. finds cmp d a b x) (cmp (middle lo hi)) refl h))
    (λ h. subst (Finds cmp lo hi) (sym (ended cmp d lo hi h)) (omega arith, l))
    (lt_or_ge lo hi)
  where
    go : ((a b : ℕ) → a ≤ b → Finds cmp a b (halving d cmp a b)) → (o : Ordering) → cmp (middle lo hi) ≡ o → lo < hi → Finds cmp lo hi (turn o (halving d cmp lo (middle lo hi)) (Ok (middle lo hi)) (halving d cmp (suc (middle lo hi)) hi))
    go again Less e h = wider cmp lo hi lo (middle lo hi) (halving d cmp lo (middle lo hi)) (omega arith) (omega arith) (again lo (middle lo hi) (omega arith))
    go again Equal e h = (e, omega arith, omega arith)
    go again Greater e h = wider cmp lo hi (suc (middle lo hi)) hi (halving d cmp (suc (middle lo hi)) hi) (omega arith) (omega arith) (again (suc (middle lo hi)) hi (omega arith))

-- ---- along an ascending order a search that finds nothing has what is sought between two neighbours

-- more than everything before, less than everything from there on
pub record Between (cmp : ℕ → Ordering) (n p : ℕ) : Type 0 where
  pub lower : (j : ℕ) → j < p → cmp j ≡ Greater
  pub upper : (j : ℕ) → p ≤ j → j < n → cmp j ≡ Less

-- the comparison goes from More by Same to Less
pub record Falls (cmp : ℕ → Ordering) (n : ℕ) : Type 0 where
  pub more : (i j : ℕ) → i ≤ j → j < n → cmp j ≡ Greater → cmp i ≡ Greater
  pub less : (i j : ℕ) → i ≤ j → j < n → cmp i ≡ Less → cmp j ≡ Less

-- what an end says that is no find
abbrev pub Splits : (ℕ → Ordering) → ℕ → Result ℕ ℕ → Type 0
Splits cmp n (Ok j) = Unit {0}
Splits cmp n (Err p) = Between cmp n p

pub splits : (cmp : ℕ → Ordering) (n : ℕ) → Falls cmp n → (d lo hi : ℕ) → hi ≤ lo + d → hi ≤ n → lo ≤ hi
    → ((j : ℕ) → j < lo → cmp j ≡ Greater) → ((j : ℕ) → hi ≤ j → j < n → cmp j ≡ Less) → Splits cmp n (halving d cmp lo hi)
unfolding halving
splits cmp n f zero lo hi p q l a b = record { lower = a; upper = λ j x y. b j (omega arith) y }
splits cmp n f (suc d) lo hi p q l a b =
    ⊎_elim
    (λ h. subst (Splits cmp n) (sym (turned cmp d lo hi h)) (go (λ x y. splits cmp n f d x y) (cmp (middle lo hi)) refl h))
    (λ h. subst (Splits cmp n) (sym (ended cmp d lo hi h)) (record { lower = a; upper = λ j x y. b j (omega arith) y }))
    (lt_or_ge lo hi)
  where
    go : ((x y : ℕ) → y ≤ x + d → y ≤ n → x ≤ y → ((j : ℕ) → j < x → cmp j ≡ Greater) → ((j : ℕ) → y ≤ j → j < n → cmp j ≡ Less) → Splits cmp n (halving d cmp x y))
        → (o : Ordering) → cmp (middle lo hi) ≡ o → lo < hi → Splits cmp n (turn o (halving d cmp lo (middle lo hi)) (Ok (middle lo hi)) (halving d cmp (suc (middle lo hi)) hi))
    go again Less e h = again lo (middle lo hi) (omega arith) (omega arith) (omega arith) a (λ j x y. f.less (middle lo hi) j x y e)
    go again Equal e h = tt
    go again Greater e h = again (suc (middle lo hi)) hi (omega arith) q (omega arith) (λ j x. f.more j (middle lo hi) (omega arith) (omega arith) e) b

pub along_splits : (cmp : ℕ → Ordering) (n : ℕ) → Falls cmp n → Splits cmp n (along cmp n)
along_splits cmp n f = splits cmp n f n 0 n (omega arith) (omega arith) (omega arith) (λ j x. nothing (cmp j ≡ Greater) (omega arith)) (λ j x y. nothing (cmp j ≡ Less) (omega arith))
  where
    nothing : (A : Type 0) → ⊥ → A
    nothing A z = absurd z

pub along_finds : (cmp : ℕ → Ordering) (n : ℕ) → Finds cmp 0 n (along cmp n)
along_finds cmp n = finds cmp n 0 n (omega arith)

-- ---- the laws by which a loop meets the search

module _ (cmp : ℕ → Ordering) (lo hi : ℕ) (l : lo < hi) where
  -- one turn, of as many as there are places
  one_turn : halving (hi - lo) cmp lo hi ≡ turn (cmp (middle lo hi)) (halving (hi - lo - 1) cmp lo (middle lo hi)) (Ok (middle lo hi)) (halving (hi - lo - 1) cmp (suc (middle lo hi)) hi)
  one_turn =
      let m : hi - lo ≡ suc (hi - lo - 1) = omega arith in
      ap (λ (d : ℕ). halving d cmp lo hi) m ∙ turned cmp (hi - lo - 1) lo hi l

  look : (o : Ordering) → cmp (middle lo hi) ≡ o → halving (hi - lo) cmp lo hi ≡ turn o (halving (hi - lo - 1) cmp lo (middle lo hi)) (Ok (middle lo hi)) (halving (hi - lo - 1) cmp (suc (middle lo hi)) hi)
  look o e = one_turn ∙ ap (λ (x : Ordering). turn x (halving (hi - lo - 1) cmp lo (middle lo hi)) (Ok (middle lo hi)) (halving (hi - lo - 1) cmp (suc (middle lo hi)) hi)) e

  -- what is sought stands before the middle
  pub goes_down : cmp (middle lo hi) ≡ Less → halving (hi - lo) cmp lo hi ≡ halving (middle lo hi - lo) cmp lo (middle lo hi)
  goes_down e = look Less e ∙ enough cmp (hi - lo - 1) (middle lo hi - lo) lo (middle lo hi) (omega arith) (omega arith)

  -- or after it
  pub goes_up : (m : ℕ) → m ≡ middle lo hi + 1 → cmp (middle lo hi) ≡ Greater → halving (hi - lo) cmp lo hi ≡ halving (hi - m) cmp m hi
  goes_up m q e =
      let s : suc (middle lo hi) ≡ m = omega arith in
      look Greater e ∙ enough cmp (hi - lo - 1) (hi - suc (middle lo hi)) (suc (middle lo hi)) hi (omega arith) (omega arith) ∙ ap (λ (x : ℕ). halving (hi - x) cmp x hi) s

  -- or there
  pub is_there : cmp (middle lo hi) ≡ Equal → halving (hi - lo) cmp lo hi ≡ Ok (middle lo hi)
  is_there e = look Equal e

-- nothing is left
pub is_over : (cmp : ℕ → Ordering) (lo hi : ℕ) → hi ≤ lo → halving (hi - lo) cmp lo hi ≡ Err lo
unfolding halving
is_over cmp lo hi h = let m : hi - lo ≡ 0 = omega arith in ap (λ (d : ℕ). halving d cmp lo hi) m

-- the loop begins with all n
pub starts : (cmp : ℕ → Ordering) (n : ℕ) → along cmp n ≡ halving (n - 0) cmp 0 n
starts cmp n = let m : n ≡ n - 0 = omega arith in ap (λ (d : ℕ). halving d cmp 0 n) m
