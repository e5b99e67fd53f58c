-- Keys that test equal are equal. Assumes nothing.
use Rattle.std.specs.Prelude.{ℕ, ◌≡◌, refl, List, [], ◌∷◌, eqb, T, Option, None, Some}
use Rattle.std.proofs.Common.{ap, ap₂, eqb→eq}
use Rattle.base_tests.proofs.Laws.Bool.{both_left, both_right}
use Rattle.def_effects.specs.Keys.{EffectKey, eq_option, eq_list, eq_key}

eq_option_eq : (a b : Option ℕ) → T (eq_option a b) → a ≡ b
unfolding eq_option
eq_option_eq None None t = refl
eq_option_eq None (Some b) t = absurd t
eq_option_eq (Some a) None t = absurd t
eq_option_eq (Some a) (Some b) t = ap Some (eqb→eq a b t)

eq_list_eq : (a b : List ℕ) → T (eq_list a b) → a ≡ b
unfolding eq_list
eq_list_eq [] [] t = refl
eq_list_eq [] (y ∷ ys) t = absurd t
eq_list_eq (x ∷ xs) [] t = absurd t
eq_list_eq (x ∷ xs) (y ∷ ys) t = ap₂ (λ (u : ℕ) (v : List ℕ). u ∷ v) (eqb→eq x y (both_left (eqb x y) (eq_list xs ys) t)) (eq_list_eq xs ys (both_right (eqb x y) (eq_list xs ys) t))

pub eq_key_eq : (a b : EffectKey) → T (eq_key a b) → a ≡ b
unfolding eq_key
eq_key_eq a b t =
    let t1 = both_right (eqb a.code b.code) _ t in
    let t2 = both_right (eq_option a.from b.from) _ t1 in
    let t3 = both_right (eq_option a.into b.into) _ t2 in
    let t4 = both_right (eqb a.kind b.kind) _ t3 in
    let t5 = both_right (eqb a.reason b.reason) _ t4 in
    let t6 = both_right (eq_option a.function b.function) _ t5 in
    λ x. record {
      code = eqb→eq a.code b.code (both_left (eqb a.code b.code) _ t) x;
      from = eq_option_eq a.from b.from (both_left (eq_option a.from b.from) _ t1) x;
      into = eq_option_eq a.into b.into (both_left (eq_option a.into b.into) _ t2) x;
      kind = eqb→eq a.kind b.kind (both_left (eqb a.kind b.kind) _ t3) x;
      reason = eqb→eq a.reason b.reason (both_left (eqb a.reason b.reason) _ t4) x;
      function = eq_option_eq a.function b.function (both_left (eq_option a.function b.function) _ t5) x;
      identity = eqb→eq a.identity b.identity (both_left (eqb a.identity b.identity) _ t6) x;
      captures = eq_list_eq a.captures b.captures (both_right (eqb a.identity b.identity) _ t6) x;
    }
