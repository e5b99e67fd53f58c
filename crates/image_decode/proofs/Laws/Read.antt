-- A loop over the records of an image. Assumes nothing.
use Rattle.std.specs.Prelude.{ℕ, suc, ◌+◌, ◌≡◌, List}
use Rattle.std.proofs.Common.{refl, ap, arith}
use Rattle.image_decode.specs.Decoded.{after}

-- one more record is done
pub after_more : (g : ℕ → List ℕ → List ℕ) (k : ℕ) (c : List ℕ) → after g (k + 1) c ≡ g k (after g k c)
unfolding after
after_more g k c = ap (λ (n : ℕ). after g n c) (let z : k + 1 ≡ suc k = omega arith in z)

-- before the first
pub after_none : (g : ℕ → List ℕ → List ℕ) (c : List ℕ) → after g 0 c ≡ c
unfolding after
after_none g c = refl
