-- Equal keys test equal. (That keys which test equal are equal: `def_effects` `proofs/Laws/Key.antt`.) Assumes nothing.
use Rattle.std.specs.Prelude.{ℕ, ◌≡◌, refl, true, List, [], ◌∷◌, eqb, Option, None, Some}
use Rattle.std.proofs.Common.{sym, ap, ◌∙◌, eq-eqb}
use Rattle.base_tests.proofs.Laws.Bool.{and_true}
use Rattle.def_effects.specs.Keys.{EffectKey, eq_option, eq_list, eq_key}

option_same : (a : Option ℕ) → eq_option a a ≡ true
unfolding eq_option
option_same None = refl
option_same (Some n) = eq-eqb n n refl

list_same : (xs : List ℕ) → eq_list xs xs ≡ true
unfolding eq_list
list_same [] = refl
list_same (x ∷ xs) = and_true (eqb x x) (eq_list xs xs) (eq-eqb x x refl) (list_same xs)

key_same : (a : EffectKey) → eq_key a a ≡ true
unfolding eq_key
key_same a =
    and_true _ _ (eq-eqb a.code a.code refl)
    (and_true _ _ (option_same a.from)
    (and_true _ _ (option_same a.into)
    (and_true _ _ (eq-eqb a.kind a.kind refl)
    (and_true _ _ (eq-eqb a.reason a.reason refl)
    (and_true _ _ (option_same a.function)
    (and_true _ _ (eq-eqb a.identity a.identity refl) (list_same a.captures)))))))

pub eq_eq_key : (a b : EffectKey) → a ≡ b → eq_key a b ≡ true
eq_eq_key a b e = ap (eq_key a) (sym e) ∙ key_same a
