-- The least of two refusals has the lower of their numbers: the derived order compares the numbers that the variants are declared with. Assumes nothing.
use denote.Enum.Declared.{tag_of}
use Rattle.std.specs.Prelude.{ℤ, pos, [], ◌∷◌, get_or, ◌≡◌}
use Rattle.std.specs.Ordering.{MatchOrdering, int_cmp, ord_min}
use Rattle.std.specs.Cmp.{int_ranks}
use Rattle.std.proofs.lemmas.Int.{ints}
use Rattle.std.proofs.Common.{Ordering, Less, Equal, Greater, ◌<ℤ◌, arith, refl, ap, ap₂, ◌∙◌}
use Rattle.def_refusals.specs.declared.Refusal.{Refusal}
use Rattle.def_refusals.specs.declared.Refusal.TheVariants as R
use Rattle.def_refusals.specs.contracts.Refusal.{the_type}
use Rattle.def_refusals.specs.contracts.RefusalOrd.TheImpl as order
use Rattle.def_refusals.specs.Verdicts.{number_of}
use Rattle.def_refusals.proofs.Laws.Verdicts.{number_some}
use Rattle.refuse_class.specs.Class.{lower}
use Rattle.refuse_class.proofs.Laws.Class.{lower_second, lower_first}

-- the number that a variant is declared with
declared : Refusal → ℤ
declared r = get_or (pos 1 ∷ pos 2 ∷ pos 3 ∷ pos 4 ∷ pos 5 ∷ pos 6 ∷ pos 7 ∷ pos 8 ∷ pos 9 ∷ pos 10 ∷ pos 11 ∷ pos 99 ∷ []) (tag_of the_type r) (pos 0)

declared_is : (r : Refusal) → declared r ≡ pos (number_of r)
unfolding declared
declared_is R.Length = refl
declared_is R.Count = refl
declared_is R.Range = refl
declared_is R.Order = refl
declared_is R.Apply = refl
declared_is R.Begun = refl
declared_is R.NotBegun = refl
declared_is R.Interned = refl
declared_is R.Numbers = refl
declared_is R.Diagnostics = refl
declared_is R.Entries = refl
declared_is R.Depth = refl

compared : (x y : Refusal) → order.cmp-value.it x y ≡ int_cmp (pos (number_of x)) (pos (number_of y))
unfolding declared
compared x y = ap₂ int_cmp (declared_is x) (declared_is y)

module _ (x y : Refusal) where
  chosen : (o : Ordering) → MatchOrdering o (pos (number_of y) <ℤ pos (number_of x)) (pos (number_of y) ≡ pos (number_of x)) (pos (number_of x) <ℤ pos (number_of y))
      → number_of (ord_min (λ (a b : Refusal). o) x y) ≡ lower (number_of x) (number_of y)
  chosen Less h = let l : pos (number_of y) <ℤ pos (number_of x) = h in lower_second _ _ (number_some x) (number_some y) (omega (arith, ints))
  chosen Equal h = let e : pos (number_of y) ≡ pos (number_of x) = h in lower_first _ _ (number_some x) (number_some y) (omega (arith, ints))
  chosen Greater h = let l : pos (number_of x) <ℤ pos (number_of y) = h in lower_first _ _ (number_some x) (number_some y) (omega (arith, ints))

  pub least : number_of (ord_min order.cmp-value.it x y) ≡ lower (number_of x) (number_of y)
  least = ap (λ (o : Ordering). number_of (ord_min (λ (a b : Refusal). o) x y)) (compared y x) ∙ chosen _ (int_ranks (pos (number_of y)) (pos (number_of x)))
