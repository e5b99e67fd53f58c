-- A list of steps, from its first on. Assumes nothing.
use Prim.Native.Nat.{ℕ}
use Rattle.std.proofs.Math.Path.{◌≡◌, refl, ap}
use Rattle.std.proofs.Common.{◌∙◌}
use mathlib.Core.List.{List, [], ◌∷◌}
use Rattle.def_transfer.specs.Monad.{ok, refused, M, Done, return, done, each}
use Rattle.laws_monad.specs.Answers.{answer}
use Rattle.laws_monad.proofs.Laws.Answers.{then_ok, then_goes, then_refused, then_fails}

-- a list, from its first element on
module _ {W A : Type 0} where
  pub each_refused : (f : A → M W Done) (x : A) (l xs : List A) (r : ℕ) (w u : W) → l ≡ x ∷ xs → f x w ≡ answer r tt u → ¬ (r ≡ 0) → each l f w ≡ answer r tt u
  unfolding each
  each_refused f x l xs r w u c e h = ap (λ (k : List A). each k f w) c ∙ then_refused (f x) (each xs f) r w u tt tt e h

  pub each_goes : (f : A → M W Done) (x : A) (l xs : List A) (r : ℕ) (w u : W) → l ≡ x ∷ xs → f x w ≡ answer r tt u → r ≡ 0 → each l f w ≡ each xs f u
  unfolding each
  each_goes f x l xs r w u c e h = ap (λ (k : List A). each k f w) c ∙ then_goes (f x) (each xs f) r w u tt (each xs f u) e h refl

  pub each_ok : (f : A → M W Done) (x : A) (l xs : List A) (w u : W) → l ≡ x ∷ xs → f x w ≡ ok tt u → each l f w ≡ each xs f u
  unfolding each
  each_ok f x l xs w u c e = ap (λ (k : List A). each k f w) c ∙ then_ok (f x) (each xs f) w u tt (each xs f u) e refl

  pub each_fails : (f : A → M W Done) (x : A) (l xs : List A) (n : ℕ) (w u : W) → l ≡ x ∷ xs → f x w ≡ refused n u → each l f w ≡ refused n u
  unfolding each
  each_fails f x l xs n w u c e = ap (λ (k : List A). each k f w) c ∙ then_fails (f x) (each xs f) n w u e

  pub each_done : (f : A → M W Done) (l : List A) (w : W) → l ≡ [] → each l f w ≡ ok tt w
  unfolding each done return
  each_done f l w c = ap (λ (k : List A). each k f w) c

  pub each_ends : (f : A → M W Done) (l : List A) (w : W) → l ≡ [] → each l f w ≡ answer 0 tt w
  unfolding each answer done return
  each_ends f l w c = ap (λ (k : List A). each k f w) c
