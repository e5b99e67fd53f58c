-- Laws by which the code of the order's class meets the definition: a law for each way through a function. Assumes nothing.
use Rattle.std.specs.Prelude.{ℕ, suc, ◌≤◌, ◌<◌, ◌≡◌, refl, Bool, false, ◌&&◌}
use Rattle.std.proofs.Common.{◌∙◌, lt-ltb, le-ltb}
use Rattle.std.proofs.Math.Path.{sym, ap, ap₂}
use Rattle.std.proofs.Math.Bool.{not}
use Rattle.std.specs.Ordering.{is_ge}
use Rattle.std.specs.declared.cmp.Ordering.{Ordering}
use Rattle.std.specs.declared.cmp.Ordering.TheVariants.{Less, Equal, Greater}
use Rattle.def_effects.specs.Keys.{EffectKey}
use Rattle.def_key_order.specs.KeyOrder.{compare_keys}
use Rattle.refuse_order.specs.Order.{is_less, descends}

-- ---- a place of the order

-- what is not below does not come before
not_before : (o : Ordering) → is_ge o ≡ not (is_less o)
not_before Less = refl
not_before Equal = refl
not_before Greater = refl

module _ (key : ℕ → EffectKey) (ord : ℕ → ℕ) (n j : ℕ) where
  -- the last place has no next one
  pub last_place : n ≤ suc j → false ≡ descends key ord n j
  unfolding descends
  last_place h = sym (ap (λ (b : Bool). b && not (is_less (compare_keys (key (ord j)) (key (ord (suc j)))))) (le-ltb (suc j) n h))

  -- any other is compared with it
  pub next_place : (a b k : ℕ) (o : Ordering) (x : Bool) → suc j < n → a ≡ ord j → k ≡ suc j → b ≡ ord k → o ≡ compare_keys (key a) (key b) → x ≡ is_ge o → x ≡ descends key ord n j
  unfolding descends
  next_place a b k o x l ha hk hb ho hx =
      hx ∙ not_before o ∙ ap (λ (r : Ordering). not (is_less r)) (ho ∙ ap₂ (λ (u v : ℕ). compare_keys (key u) (key v)) ha (hb ∙ ap ord hk))
      ∙ sym (ap (λ (b : Bool). b && not (is_less (compare_keys (key (ord j)) (key (ord (suc j)))))) (lt-ltb (suc j) n l))
