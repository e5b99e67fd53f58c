-- THEOREM 1: an instruction, refused or not, adds at most what its candidates need to what the interned effects take, and takes nothing back.
-- Assumes nothing.
use Rattle.std.specs.Prelude.{ℕ, ◌+◌, ◌*◌, ◌≤◌, ◌≡◌, List, [], ◌∷◌, length}
use Rattle.std.proofs.Common.{arith}
use Rattle.std.proofs.Math.Path.{refl, ap}
use Rattle.base_tests.specs.Tests.{All}
use Rattle.def_effects.specs.Effects.{AliasingEffect, Freeze, Mutate, MutateConditionally, MutateTransitive, MutateTransitiveConditionally, Capture, Alias, MaybeAlias, Assign, Create, CreateFrom, ImmutableCapture, CreateFunction, MutateFrozen, MutateGlobal, Impure, Render}
use Rattle.def_effects.specs.Keys.{effect_key}
use Rattle.def_transfer.specs.Monad.{Res, ok, refused, M}
use Rattle.def_transfer.specs.Tables.{Tables, World}
use Rattle.def_transfer.specs.Context.{intern_effect}
use Rattle.def_transfer.specs.Step.{apply_effect}
use Rattle.def_transfer.specs.Instruction.{Instruction, run, apply_signature}
use Rattle.laws_room.specs.Room.{need, needs}
use Rattle.laws_room.proofs.Laws.Near.{Measured, Padded, ended, Holds, Near}
use Rattle.laws_room.proofs.Laws.Parts.{intern_key}
use Rattle.laws_room.proofs.Laws.Steps.{step_near, run_near, signature_near}

-- a context beside itself: what holds of two runs holds of one
-- an effect is added to both whether there is room or not, so that any number will do
unfoldable pub alone : {T : Tables} → Measured T → ℕ → Padded T
alone {T = T} 𝓜 n = record {
  measured = 𝓜;
  room = n;
  Pad = λ c d. d ≡ c;
  interned_count = λ p. ap T.interned_count p;
  find_effect = λ p k. ap (λ (c : T.Context). T.find_effect c k) p;
  key_at = λ p n. ap (λ (c : T.Context). T.key_at c n) p;
  find_number = λ p k. ap (λ (c : T.Context). T.find_number c k) p;
  link_of = λ p v. ap (λ (c : T.Context). T.link_of c v) p;
  context_of = λ p f. ap (λ (c : T.Context). T.context_of c f) p;
  mutated_inside = λ p f. ap (λ (c : T.Context). T.mutated_inside c f) p;
  has_tracked_side_effect = λ p f. ap (λ (c : T.Context). T.has_tracked_side_effect c f) p;
  is_ref = λ p i. ap (λ (c : T.Context). T.is_ref c i) p;
  is_hoisted = λ p i. ap (λ (c : T.Context). T.is_hoisted c i) p;
  access_span = λ p i. ap (λ (c : T.Context). T.access_span c i) p;
  name_of = λ p i. ap (λ (c : T.Context). T.name_of c i) p;
  is_transitive = λ p. ap T.is_transitive p;
  identity_count = λ p. ap T.identity_count p;
  instance_count = λ p. ap T.instance_count p;
  find_identity = λ p x. ap (λ (c : T.Context). T.find_identity c x) p;
  find_instance = λ p n x. ap (λ (c : T.Context). T.find_instance c n x) p;
  add_effect = λ p e l. ap (λ (c : T.Context). T.add_effect c e) p;
  put_key = λ p n k. ap (λ (c : T.Context). T.put_key c n k) p;
  put_link = λ p v f. ap (λ (c : T.Context). T.put_link c v f) p;
  make_read = λ p f i. ap (λ (c : T.Context). T.make_read c f i) p;
  add_diagnostic = λ p n x. ap (λ (c : T.Context). T.add_diagnostic c n x) p;
}

module _ {T : Tables} (𝓜 : Measured T) where
  -- used at most b more at the end, and no less
  pub record Bounded {A : Type 0} (b : ℕ) (m : M (World T) A) : Type 0 where
    pub most : (w : World T) → 𝓜.used (ended (m w)) ≤ 𝓜.used w.rest.context + b
    pub least : (w : World T) → 𝓜.used w.rest.context ≤ 𝓜.used (ended (m w))

  -- whatever does the same with more room is bounded: every computation of the text
  -- there is room for just b more
  pub bounded : {A : Type 0} {b : ℕ} {m : M (World T) A} → ((n : ℕ) → Near (alone 𝓜 n) b m) → Bounded b m
  unfolding alone
  bounded {b = b} h = record {
    most = λ w. let x = (h (𝓜.used w.rest.context + b)).near w w.rest.context refl (omega arith) in let p = ap 𝓜.used x.pad in let i = x.most in omega arith;
    least = λ w. let x = (h (𝓜.used w.rest.context + b)).near w w.rest.context refl (omega arith) in let p = ap 𝓜.used x.pad in let i = x.least in omega arith;
  }

  -- the effect that interning hands out needs what the one given needs: a need is of the key alone
  pub intern_need : (e : AliasingEffect) (w : World T) → Holds (λ x. need (effect_key e) ≡ need (effect_key x)) (intern_effect e w)
  intern_need e w = go (intern_effect e w) (intern_key 𝓜 e w)
    where
      go : (r : Res (World T) AliasingEffect) → Holds (λ x. effect_key e ≡ effect_key x) r → Holds (λ x. need (effect_key e) ≡ need (effect_key x)) r
      go (ok x u) h = ap need h
      go (refused n u) h = tt

  -- the step of an effect, at any depth
  pub step_bound : (d : ℕ) (e : AliasingEffect) → Bounded (need (effect_key e)) (apply_effect d e)
  step_bound d e = bounded (λ n. step_near d e)

  -- the run of an instruction: a refused one as well, whose context is as far as it came
  pub run_bound : (ins : Instruction) → Bounded (needs ins.candidates) (run ins)
  run_bound ins = bounded (λ n. run_near ins)

  -- the call for an instruction
  pub signature_bound : (ins : Instruction) → Bounded (needs ins.candidates) (apply_signature ins)
  signature_bound ins = bounded (λ n. signature_near ins)

-- ---- what candidates of the document's sizes need

-- "captures (16)": a candidate needs 65 at the most
-- a CreateFunction of 16 captures does
pub need_most : (e : AliasingEffect) → length (effect_key e).captures ≤ 16 → need (effect_key e) ≤ 65
need_most (Freeze p r) h = omega arith
need_most (Mutate p r) h = omega arith
need_most (MutateConditionally p) h = omega arith
need_most (MutateTransitive p) h = omega arith
need_most (MutateTransitiveConditionally p) h = omega arith
need_most (Capture f i) h = omega arith
need_most (Alias f i) h = omega arith
need_most (MaybeAlias f i) h = omega arith
need_most (Assign f i) h = omega arith
need_most (Create i k r) h = omega arith
need_most (CreateFrom f i) h = omega arith
need_most (ImmutableCapture f i) h = omega arith
need_most (CreateFunction cs f i) h = omega arith
need_most (MutateFrozen p d) h = omega arith
need_most (MutateGlobal p d) h = omega arith
need_most (Impure p d) h = omega arith
need_most (Render p) h = omega arith

-- 65 for each candidate
pub needs_most : (l : List AliasingEffect) → All (λ e. length (effect_key e).captures ≤ 16) l → needs l ≤ 65 * length l
unfolding needs
needs_most [] a = omega arith
needs_most (e ∷ es) a = let h = need_most e a.0 in let k = needs_most es a.1 in omega arith

-- "candidates (64)": 64 × 65 is 4,160
pub needs_all : (l : List AliasingEffect) → All (λ e. length (effect_key e).captures ≤ 16) l → length l ≤ 64 → needs l ≤ 4160
needs_all l a h = let k = needs_most l a in omega arith
