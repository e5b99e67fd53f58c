-- What the candidates of an instruction list and walk at the most. Assumes nothing.
use Rattle.std.specs.Prelude.{◌*◌, ◌≤◌, Bool, true, false, List, [], ◌∷◌, length}
use native.Mathlib.Omega.{arith}
use lib.Dec.{eqb}
use Rattle.base_tests.specs.Tests.{ite, All}
use Rattle.def_effects.specs.Effects.{AliasingEffect}
use Rattle.def_effects.specs.Keys.{EffectKey, effect_key}
use Rattle.laws_counts.proofs.Laws.Grows.{total}
use Rattle.laws_counts.proofs.Laws.Steps.{weight, freezes}

-- what holds of both holds of a choice
pub choice : {A : Type 0} (P : A → Type 0) (b : Bool) {x y : A} → P x → P y → P (ite b x y)
choice P true p q = p
choice P false p q = q

-- a candidate lists 17 effects at the most
-- a CreateFunction of 16 captures does
pub weight_most : (k : EffectKey) → length k.captures ≤ 16 → weight k ≤ 17
weight_most k h = choice (λ n. n ≤ 17) (eqb k.code 10) (omega arith) (omega arith)

-- the candidates list 17 times their number at the most
pub candidates_most : (l : List AliasingEffect) → All (λ e. length (effect_key e).captures ≤ 16) l → total (λ e. weight (effect_key e)) l ≤ 17 * length l
unfolding total
candidates_most [] a = omega arith
candidates_most (e ∷ l) a = let h = weight_most (effect_key e) a.0 in let k = candidates_most l a.1 in omega arith

-- an effect makes one walk at the most
-- so an instruction makes no more than it has candidates
pub walks_most : (l : List AliasingEffect) → total (λ e. freezes (effect_key e)) l ≤ length l
unfolding total
walks_most [] = omega arith
walks_most (e ∷ l) = let k = walks_most l in let h = choice (λ n. n ≤ 1) (eqb (effect_key e).code 0) {x = 1} {y = 0} (omega arith) (omega arith) in omega arith
