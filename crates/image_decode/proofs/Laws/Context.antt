-- A run of places of an image put into a table: a law for each turn of the loop. Assumes nothing.
use Prim.Native.Nat.{ℕ, suc, ◌+◌, ◌-◌, ◌*◌, ◌≤◌, ◌<◌}
use Rattle.std.specs.Prelude.{◌≡◌}
use Rattle.std.proofs.Math.Path.{ap, ap₂}
use Rattle.std.proofs.Common.{◌∙◌}
use mathlib.Core.List.{List}
use native.Mathlib.Omega.{arith}
use Rattle.def_effects.specs.declared.Place.{Place}
use Rattle.lent_tables.specs.declared.Table.{Table}
use Rattle.lent_tables.specs.Words.{put_place, put_places}
use Rattle.def_image.specs.Decode.{list_from, place_at, places_from}

-- ---- a run of places

module _ (t : Table) (im : List ℕ) (i w first : ℕ) where
  -- a loop that writes a run begins with all of it
  pub run_start : (c : List ℕ) (n : ℕ) → put_places t c i w 0 (list_from (n - 0) (first + 0) (place_at im)) ≡ put_places t c i w 0 (places_from im first n)
  unfolding places_from
  run_start c n = ap₂ (λ (x y : ℕ). put_places t c i w 0 (list_from x y (place_at im))) (let z : n - 0 ≡ n = omega arith in z) (let z : first + 0 ≡ first = omega arith in z)

  -- a turn writes one of them
  pub run_more : (c d : List ℕ) (k n : ℕ) (p : Place) → k < n → p ≡ place_at im (first + k) → d ≡ put_place t c i (w + k * 5) p
      → put_places t d i w (k + 1) (list_from (n - (k + 1)) (first + (k + 1)) (place_at im)) ≡ put_places t c i w k (list_from (n - k) (first + k) (place_at im))
  unfolding put_places list_from
  run_more c d k n p l e g =
      ap₂ (λ (x y : ℕ). put_places t d i w x (list_from (n - (k + 1)) y (place_at im))) (let z : k + 1 ≡ suc k = omega arith in z) (let z : first + (k + 1) ≡ suc (first + k) = omega arith in z)
      ∙ ap (λ (x : List ℕ). put_places t x i w (suc k) (list_from (n - (k + 1)) (suc (first + k)) (place_at im))) (g ∙ ap (put_place t c i (w + k * 5)) e)
      ∙ ap (λ (m : ℕ). put_places t c i w k (list_from m (first + k) (place_at im))) (let z : suc (n - (k + 1)) ≡ n - k = omega arith in z)

  -- at the end none is left
  pub run_none : (c : List ℕ) (k n : ℕ) → n ≤ k → c ≡ put_places t c i w k (list_from (n - k) (first + k) (place_at im))
  unfolding put_places list_from
  run_none c k n l = ap (λ (m : ℕ). put_places t c i w k (list_from m (first + k) (place_at im))) (let z : 0 ≡ n - k = omega arith in z)
