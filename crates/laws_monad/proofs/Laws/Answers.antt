-- A law for each thing that code does with an answer. Assumes nothing.
use Prim.Native.Nat.{ℕ, zero, suc, ◌≤◌, ◌<◌}
use Rattle.std.proofs.Math.Path.{◌≡◌, refl, ap}
use Rattle.std.proofs.Common.{◌∙◌, arith, le-leb}
use Rattle.std.specs.Prelude.{Bool, leb, Result, Ok, Err}
use Rattle.std.proofs.Math.Bool.{true, false}
use Rattle.std.proofs.lemmas.Bool.{lt-leb}
use Rattle.std.specs.Result.{IsErrAnd}
use Rattle.def_transfer.specs.Monad.{Res, ok, refused, M, and_then, ◌>>=◌, ◌>>◌, return, refuse, done, when◌then◌else◌}
use Rattle.def_refusals.specs.declared.Refusal.{Refusal}
use Rattle.laws_monad.specs.Answers.{answer}

module _ {W A : Type 0} where
  -- an answer of 0 goes on, any other is refused
  -- contracts say `answer`, definitions `ok` and `refused`
  pub answer_ok : (r : ℕ) (a : A) (w : W) → r ≡ 0 → answer r a w ≡ ok a w
  unfolding answer
  answer_ok zero a w h = refl
  answer_ok (suc r) a w h = absurd (omega arith)

  pub answer_refused : (r : ℕ) (a : A) (w : W) → ¬ (r ≡ 0) → answer r a w ≡ refused r w
  unfolding answer
  answer_refused zero a w h = absurd (h refl)
  answer_refused (suc r) a w h = refl

  -- the answer of a refusal is not looked at
  -- so a refusal of one part is a refusal of the whole
  pub refused_any : (r : ℕ) (a : A) (w : W) (m : Res W A) → ¬ (r ≡ 0) → m ≡ answer r a w → m ≡ refused r w
  refused_any r a w m h e = e ∙ answer_refused r a w h

  pub return_ok : (a : A) (w : W) → return a w ≡ ok a w
  unfolding return
  return_ok a w = refl

  pub refuse_at : (n : ℕ) (w : W) → refuse {A = A} n w ≡ refused n w
  unfolding refuse
  refuse_at n w = refl

-- what `?` returns is the refusal that it met
pub passes : {A : Type 0} (r : Result A Refusal) (q : Refusal) → IsErrAnd r (λ y. y ≡ q) → r ≡ Err q
passes (Ok a) q h = absurd h
passes (Err y) q h = ap Err h

-- nothing is done
pub done_ok : {W : Type 0} (w : W) → done w ≡ ok tt w
unfolding done return
done_ok w = refl

module _ {W A B : Type 0} where
  -- one after the other: the first is refused
  pub bind_refused : (m : M W A) (k : A → M W B) (r : ℕ) (w u : W) (a : A) (b : B) → m w ≡ answer r a u → ¬ (r ≡ 0) → (m >>= k) w ≡ answer r b u
  unfolding ◌>>=◌ and_then answer
  bind_refused m k zero w u a b e h = absurd (h refl)
  bind_refused m k (suc r) w u a b e h = ap (λ (y : Res W A). and_then y k) e

  -- the first goes on
  pub bind_goes : (m : M W A) (k : A → M W B) (r : ℕ) (w u : W) (a : A) (x : Res W B) → m w ≡ answer r a u → r ≡ 0 → k a u ≡ x → (m >>= k) w ≡ x
  unfolding ◌>>=◌ and_then answer
  bind_goes m k zero w u a x e h g = ap (λ (y : Res W A). and_then y k) e ∙ g
  bind_goes m k (suc r) w u a x e h g = absurd (omega arith)

  -- the first is refused, and so is the whole, in that world
  pub bind_fails : (m : M W A) (k : A → M W B) (n : ℕ) (w u : W) → m w ≡ refused n u → (m >>= k) w ≡ refused n u
  unfolding ◌>>=◌ and_then
  bind_fails m k n w u e = ap (λ (y : Res W A). and_then y k) e

  pub then_fails : (m : M W A) (k : M W B) (n : ℕ) (w u : W) → m w ≡ refused n u → (m >> k) w ≡ refused n u
  unfolding ◌>>◌
  then_fails m k n w u e = bind_fails m (λ _. k) n w u e

  -- the first is never refused
  pub bind_ok : (m : M W A) (k : A → M W B) (w u : W) (a : A) (x : Res W B) → m w ≡ ok a u → k a u ≡ x → (m >>= k) w ≡ x
  unfolding ◌>>=◌ and_then
  bind_ok m k w u a x e g = ap (λ (y : Res W A). and_then y k) e ∙ g

  -- the same three where the answer says nothing
  pub then_refused : (m : M W A) (n : M W B) (r : ℕ) (w u : W) (a : A) (b : B) → m w ≡ answer r a u → ¬ (r ≡ 0) → (m >> n) w ≡ answer r b u
  unfolding ◌>>◌
  then_refused m n r w u a b e h = bind_refused m (λ _. n) r w u a b e h

  pub then_goes : (m : M W A) (n : M W B) (r : ℕ) (w u : W) (a : A) (x : Res W B) → m w ≡ answer r a u → r ≡ 0 → n u ≡ x → (m >> n) w ≡ x
  unfolding ◌>>◌
  then_goes m n r w u a x e h g = bind_goes m (λ _. n) r w u a x e h g

  pub then_ok : (m : M W A) (n : M W B) (w u : W) (a : A) (x : Res W B) → m w ≡ ok a u → n u ≡ x → (m >> n) w ≡ x
  unfolding ◌>>◌
  then_ok m n w u a x e g = bind_ok m (λ _. n) w u a x e g

-- the test of a branch is known
module _ {W A : Type 0} where
  pub if_true : (b : Bool) (m n : M W A) (w : W) (x : Res W A) → b ≡ true → m w ≡ x → (when b then m else n) w ≡ x
  unfolding when◌then◌else◌
  if_true true m n w x h e = e
  if_true false m n w x h e = let z : ◌≡◌ {A = ℕ} 0 1 = cc in absurd (omega arith)

  pub if_false : (b : Bool) (m n : M W A) (w : W) (x : Res W A) → b ≡ false → n w ≡ x → (when b then m else n) w ≡ x
  unfolding when◌then◌else◌
  if_false false m n w x h e = e
  if_false true m n w x h e = let z : ◌≡◌ {A = ℕ} 0 1 = cc in absurd (omega arith)

  pub if_le : (a b : ℕ) (m n : M W A) (w : W) (x : Res W A) → a ≤ b → m w ≡ x → (when leb a b then m else n) w ≡ x
  if_le a b m n w x h e = if_true _ m n w x (le-leb a b h) e

  pub if_gt : (a b : ℕ) (m n : M W A) (w : W) (x : Res W A) → b < a → n w ≡ x → (when leb a b then m else n) w ≡ x
  if_gt a b m n w x h e = if_false _ m n w x (lt-leb a b h) e
