-- Laws of a loop that counts up and of one that seeks, and of a loop that changes one word in each turn. Assumes nothing.
use Rattle.std.specs.Prelude.{◌≡◌, set}
use Rattle.std.proofs.Math.Path.{refl, ap}
use Rattle.std.proofs.Common.{sym, ap₂, ◌∙◌, zero-lt-suc, add-zero, zero-add, add-suc, suc-add, eq-or-lt_of_le, add-one, arith, get_or-set_same}
use Rattle.std.proofs.Math.Logic.{⊎_elim}
use mathlib.Core.List.{List}
use Prim.Native.Nat.{ℕ, zero, suc, ◌+◌, ◌-◌, ◌≤◌, ◌<◌, suc-le-suc}
use Rattle.std.proofs.Math.ListN.{length, get_or, length-set}
use Rattle.std.proofs.Math.Seq.{get_or-set_other, set_out}
use Rattle.lent_sets.specs.Rows.{pick, seek, upto}

-- ---- seek

-- f is 0 at d numbers: they are skipped
pub seek_skip : (f : ℕ → ℕ) (d n v : ℕ) → ((k : ℕ) → k < d → f (v + k) ≡ 0) → seek f (d + n) v ≡ seek f n (v + d)
unfolding seek
seek_skip f zero n v h = ap₂ (seek f) (zero-add n) (sym (add-zero v))
seek_skip f (suc d) n v h =
    ap (λ (m : ℕ). seek f m v) (suc-add d n)
    ∙ ap (λ (b : ℕ). pick b v (seek f (d + n) (suc v))) (ap f (sym (add-zero v)) ∙ h 0 (zero-lt-suc d))
    ∙ seek_skip f d n (suc v) (λ k l. ap f (suc-add v k ∙ sym (add-suc v k)) ∙ h (suc k) (suc-le-suc l))
    ∙ ap (seek f n) (suc-add v d ∙ sym (add-suc v d))

pub seek_here : (f : ℕ → ℕ) (n v : ℕ) → f v ≡ 1 → seek f (suc n) v ≡ v
unfolding seek
seek_here f n v h = ap (λ (b : ℕ). pick b v (seek f n (suc v))) h

pub seek_ge : (f : ℕ → ℕ) (n v : ℕ) → v ≤ seek f n v
unfolding seek
seek_ge f zero v = omega arith
seek_ge f (suc n) v = go (seek_ge f n (suc v)) (f v)
  where
    go : suc v ≤ seek f n (suc v) → (b : ℕ) → v ≤ pick b v (seek f n (suc v))
    go ih zero = omega arith
    go ih (suc b) = omega arith

pub seek_at : (f : ℕ → ℕ) (n v : ℕ) → seek f n v < v + n → 0 < f (seek f n v)
unfolding seek
seek_at f zero v h = omega arith
seek_at f (suc n) v h = go (seek_at f n (suc v)) (f v) refl h
  where
    go : (seek f n (suc v) < suc v + n → 0 < f (seek f n (suc v))) → (b : ℕ) → f v ≡ b → pick b v (seek f n (suc v)) < v + suc n → 0 < f (pick b v (seek f n (suc v)))
    go ih zero e l = ih (omega arith)
    go ih (suc b) e l = omega arith

-- ---- upto

-- a turn of the loop, of which N - v are left
pub upto_step : {S : Type 0} (g : ℕ → S → S) (N v : ℕ) (s : S) → v < N → upto g (N - v) v s ≡ upto g (N - (v + 1)) (v + 1) (g v s)
unfolding upto
upto_step g N v s h =
    let p : N - v ≡ suc (N - (v + 1)) = omega arith in
    ap (λ (n : ℕ). upto g n v s) p ∙ ap (λ (u : ℕ). upto g (N - (v + 1)) u (g v s)) (sym (add-one v))

pub upto_end : {S : Type 0} (g : ℕ → S → S) (N v : ℕ) (s : S) → N ≤ v → upto g (N - v) v s ≡ s
unfolding upto
upto_end g N v s h =
    let p : N - v ≡ 0 = omega arith in
    ap (λ (n : ℕ). upto g n v s) p

-- two loops whose turns are the same
pub upto_same : {S : Type 0} (g h : ℕ → S → S) (n v : ℕ) (s : S) → ((w : ℕ) → w < v + n → (s : S) → g w s ≡ h w s) → upto g n v s ≡ upto h n v s
unfolding upto
upto_same g h zero v s e = refl
upto_same g h (suc n) v s e = ap (upto g n (suc v)) (e v (omega arith) s) ∙ upto_same g h n (suc v) (h v s) (λ w l. e w (omega arith))

-- a loop whose turns do nothing
pub upto_none : {S : Type 0} (g : ℕ → S → S) (n v : ℕ) (s : S) → ((w : ℕ) → w < v + n → g w s ≡ s) → upto g n v s ≡ s
unfolding upto
upto_none g zero v s h = refl
upto_none g (suc n) v s h = ap (upto g n (suc v)) (h v (omega arith)) ∙ upto_none g n (suc v) s (λ w l. h w (omega arith))

-- ---- a loop whose turn w changes the element at a + w, by f w
-- a loop over the words of a row, or over those of a set in hand
module _ (g : ℕ → List ℕ → List ℕ) (a : ℕ) (f : ℕ → ℕ → ℕ) (is : (w : ℕ) (l : List ℕ) → g w l ≡ set l (a + w) (f w (get_or l (a + w) 0))) where
  pub words_length : (n w : ℕ) (l : List ℕ) → length (upto g n w l) ≡ length l
  unfolding upto
  words_length zero w l = refl
  words_length (suc n) w l = words_length n (suc w) (g w l) ∙ ap length (is w l) ∙ length-set l (a + w) (f w (get_or l (a + w) 0))

  -- an element that is not among those changed
  pub words_other : (n w : ℕ) (l : List ℕ) (k : ℕ) → ((u : ℕ) → w ≤ u → u < w + n → k ≡ a + u → ⊥) → get_or (upto g n w l) k 0 ≡ get_or l k 0
  unfolding upto
  words_other zero w l k h = refl
  words_other (suc n) w l k h =
      words_other n (suc w) (g w l) k (λ u p q. h u (omega arith) (omega arith))
      ∙ ap (λ (m : List ℕ). get_or m k 0) (is w l)
      ∙ get_or-set_other l (a + w) k (f w (get_or l (a + w) 0)) 0 (h w (omega arith) (omega arith))

  -- one that is
  pub words_at : (n w : ℕ) (l : List ℕ) (u : ℕ) → w ≤ u → u < w + n → a + u < length l → get_or (upto g n w l) (a + u) 0 ≡ f u (get_or l (a + u) 0)
  unfolding upto
  words_at zero w l u p q h = absurd (omega arith)
  words_at (suc n) w l u p q h = ⊎_elim here (there (words_at n (suc w) (g w l) u)) (eq-or-lt_of_le p)
    where
      x : ℕ
      x = f w (get_or l (a + w) 0)

      here : w ≡ u → get_or (upto g n (suc w) (g w l)) (a + u) 0 ≡ f u (get_or l (a + u) 0)
      here e =
          words_other n (suc w) (g w l) (a + u) (λ k b c d. omega arith)
          ∙ ap₂ (λ (m : List ℕ) (k : ℕ). get_or m (a + k) 0) (is w l) (sym e)
          ∙ get_or-set_same l (a + w) x 0 (omega arith)
          ∙ ap (λ (k : ℕ). f k (get_or l (a + k) 0)) e

      there : (suc w ≤ u → u < suc w + n → a + u < length (g w l) → get_or (upto g n (suc w) (g w l)) (a + u) 0 ≡ f u (get_or (g w l) (a + u) 0)) → w < u → get_or (upto g n (suc w) (g w l)) (a + u) 0 ≡ f u (get_or l (a + u) 0)
      there ih r =
          let len : length (g w l) ≡ length l = ap length (is w l) ∙ length-set l (a + w) x in
          ih r (omega arith) (omega arith)
          ∙ ap (f u) (ap (λ (m : List ℕ). get_or m (a + u) 0) (is w l) ∙ get_or-set_other l (a + w) (a + u) x 0 (λ d. omega arith))

  -- past the end nothing changes
  pub words_out : (n w : ℕ) (l : List ℕ) → length l ≤ a → upto g n w l ≡ l
  words_out n w l h = upto_none g n w l (λ u p. is u l ∙ set_out l (a + u) (f u (get_or l (a + u) 0)) (omega arith))
