-- The order of keys is one: equal only of equals, strict, transitive. Assumes nothing.
use Rattle.std.specs.Prelude.{ℕ, ◌≡◌, refl, List, Option, None, Some}
use Rattle.std.proofs.Common.{arith, ap}
use Rattle.base_search.proofs.Laws.Ascending.{Comparing}
use Rattle.base_search.proofs.Laws.Comparings.{lists_same, lists_equal, lists_less_more, lists_more_less, lists_less_trans}
use Rattle.def_effects.specs.Keys.{EffectKey}
use Rattle.def_key_order.specs.KeyOrder.{optional, numbers_of, compare_keys}

optional_one : (a b : Option ℕ) → optional a ≡ optional b → a ≡ b
optional_one None None e = refl
optional_one None (Some n) e = absurd (let z : ⊥ = omega arith in z)
optional_one (Some n) None e = absurd (let z : ⊥ = omega arith in z)
optional_one (Some n) (Some m) e = let z : n ≡ m = omega arith in ap {B = Option ℕ} Some z

-- a key from its parts
unfoldable made : (code : ℕ) (from into : Option ℕ) (kind reason : ℕ) (function : Option ℕ) (identity : ℕ) (captures : List ℕ) → EffectKey
made code from into kind reason function identity captures =
    record { code = code; from = from; into = into; kind = kind; reason = reason; function = function; identity = identity; captures = captures }

made_cong : (a b : EffectKey) → a.code ≡ b.code → a.from ≡ b.from → a.into ≡ b.into → a.kind ≡ b.kind → a.reason ≡ b.reason → a.function ≡ b.function → a.identity ≡ b.identity → a.captures ≡ b.captures
    → a ≡ b
unfolding made
made_cong a b p q r s t u v w =
    let z : made a.code a.from a.into a.kind a.reason a.function a.identity a.captures ≡ made b.code b.from b.into b.kind b.reason b.function b.identity b.captures = cc in z

-- keys with the same numbers are the same
pub numbers_one : (a b : EffectKey) → numbers_of a ≡ numbers_of b → a ≡ b
numbers_one a b e = made_cong a b (cc) (optional_one _ _ (cc)) (optional_one _ _ (cc)) (cc) (cc) (optional_one _ _ (cc)) (cc) (cc)

-- the order of keys
unfoldable pub keys : Comparing EffectKey
unfolding compare_keys
keys = record {
  compare = compare_keys;
  same = λ a. lists_same (numbers_of a);
  equal = λ a b e. numbers_one a b (lists_equal (numbers_of a) (numbers_of b) e);
  less_more = λ a b. lists_less_more (numbers_of a) (numbers_of b);
  more_less = λ a b. lists_more_less (numbers_of a) (numbers_of b);
  less_trans = λ a b c. lists_less_trans (numbers_of a) (numbers_of b) (numbers_of c);
}
