-- Two computations, run from two worlds: a relation that each step keeps. `Sim 𝓕 Q m n` says: from worlds in the relation, m and n answer the same,
-- or are refused with the same number, one that is allowed; the worlds stay in the relation, and the answer has Q.
-- Assumes nothing.
use Rattle.std.specs.Prelude.{ℕ, ◌≡◌, Bool}
use Rattle.std.proofs.Math.Path.{refl, subst}
use Rattle.std.proofs.Math.Bool.{true, false}
use mathlib.Core.List.{List, [], ◌∷◌}
use Rattle.base_tests.specs.Tests.{All}
use Rattle.def_transfer.specs.Monad.{Res, ok, refused, M, Done, and_then, ◌>>=◌, ◌>>◌, return, refuse, done, when◌then◌else◌, each}

-- nothing to say of an answer
abbrev pub Any : {A : Type 0} → A → Type 0
Any a = Unit {0}

pub record Frame (W : Type 0) : Type 1 where
  pub Related : W → W → Type 0
  pub Allowed : ℕ → Type 0

module _ {W : Type 0} (𝓕 : Frame W) {A : Type 0} (Q : A → Type 0) where
  abbrev pub Rel : Res W A → Res W A → Type 0
  Rel (ok a w) (ok b u) = (a ≡ b) × Q a × 𝓕.Related w u
  Rel (ok a w) (refused n u) = ⊥
  Rel (refused m w) (ok b u) = ⊥
  Rel (refused m w) (refused n u) = (m ≡ n) × 𝓕.Allowed m × 𝓕.Related w u

  pub record Sim (m n : M W A) : Type 0 where
    pub runs : (w u : W) → 𝓕.Related w u → Rel (m w) (n u)

module _ {W : Type 0} {𝓕 : Frame W} where
  rel_bind : {A B : Type 0} (P : A → Type 0) (Q : B → Type 0) (f g : A → M W B) → ((a : A) → P a → Sim 𝓕 Q (f a) (g a))
      → (x y : Res W A) → Rel 𝓕 P x y → Rel 𝓕 Q (and_then x f) (and_then y g)
  unfolding and_then
  rel_bind P Q f g h (ok a w) (ok b u) r = subst (λ (c : _). Rel 𝓕 Q (f a w) (g c u)) r.0 ((h a r.1).runs w u r.2)
  rel_bind P Q f g h (ok a w) (refused n u) r = absurd r
  rel_bind P Q f g h (refused m w) (ok b u) r = absurd r
  rel_bind P Q f g h (refused m w) (refused n u) r = r

  pub bind_sim : {A B : Type 0} {P : A → Type 0} {Q : B → Type 0} {m n : M W A} {f g : A → M W B} → Sim 𝓕 P m n → ((a : A) → P a → Sim 𝓕 Q (f a) (g a)) → Sim 𝓕 Q (m >>= f) (n >>= g)
  unfolding ◌>>=◌
  bind_sim {P = P} {Q = Q} {m = m} {n = n} {f = f} {g = g} h k = record { runs = λ w u i. rel_bind P Q f g k (m w) (n u) (h.runs w u i) }

  -- the forms of bind that `search` can apply: each says what it knows of the answer, so nothing is left to guess
  pub then_sim : {B : Type 0} {Q : B → Type 0} {m n : M W Done} {f g : M W B} → Sim 𝓕 Any m n → Sim 𝓕 Q f g → Sim 𝓕 Q (m >> f) (n >> g)
  unfolding ◌>>◌
  then_sim h k = bind_sim h (λ a p. k)

  pub bind_any : {A B : Type 0} {Q : B → Type 0} {m n : M W A} {f g : A → M W B} → Sim 𝓕 Any m n → ((a : A) → Sim 𝓕 Q (f a) (g a)) → Sim 𝓕 Q (m >>= f) (n >>= g)
  bind_any h k = bind_sim h (λ a _. k a)

  pub return_sim : {A : Type 0} {Q : A → Type 0} (a : A) → Q a → Sim 𝓕 Q (return a) (return a)
  unfolding return
  return_sim a q = record { runs = λ w u i. (refl, q, i) }

  pub done_sim : Sim 𝓕 Any done done
  unfolding done
  done_sim = return_sim tt tt

  pub refuse_sim : {A : Type 0} {Q : A → Type 0} (n : ℕ) → 𝓕.Allowed n → Sim 𝓕 Q (refuse n) (refuse n)
  unfolding refuse
  refuse_sim n a = record { runs = λ w u i. (refl, a, i) }

  pub if_sim : {A : Type 0} {Q : A → Type 0} {m n f g : M W A} (b : Bool) → Sim 𝓕 Q m f → Sim 𝓕 Q n g → Sim 𝓕 Q (when b then m else n) (when b then f else g)
  unfolding when◌then◌else◌
  if_sim true h k = h
  if_sim false h k = k

  -- the same, with the test's outcome in each branch
  pub test_sim : {A : Type 0} {Q : A → Type 0} {m n f g : M W A} (b : Bool) → (b ≡ true → Sim 𝓕 Q m f) → (b ≡ false → Sim 𝓕 Q n g) → Sim 𝓕 Q (when b then m else n) (when b then f else g)
  unfolding when◌then◌else◌
  test_sim true h k = h refl
  test_sim false h k = k refl

  pub each_sim : {A : Type 0} {P : A → Type 0} {f g : A → M W Done} (l : List A) → All P l → ((x : A) → P x → Sim 𝓕 Any (f x) (g x)) → Sim 𝓕 Any (each l f) (each l g)
  unfolding each
  each_sim [] a h = done_sim
  each_sim (x ∷ xs) a h = then_sim (h x a.0) (each_sim xs a.1 h)

pub ruleset plain = (then_sim, bind_any, if_sim, done_sim, refuse_sim, return_sim)
