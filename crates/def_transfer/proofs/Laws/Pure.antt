-- The tables of functions are lawful, so the definition over them is isolated. Assumes nothing.
use Rattle.std.specs.Prelude.{ℕ, zero, suc, Bool, List, [], ◌∷◌, ◌⊎◌, Option, None, Some}
use Rattle.std.proofs.Math.Path.{◌≡◌, refl}
use Rattle.std.proofs.Common.{sym, ap, ◌∙◌, subst, inl, inr}
use Rattle.std.proofs.Math.Bool.{true, false}
use lib.Dec.{eqb, eqb→eq}
use Rattle.base_tests.specs.Tests.{All}
use Rattle.def_effects.specs.declared.Place.{Place}
use Rattle.def_effects.specs.Places.{identifiers}
use Rattle.def_effects.specs.Effects.{AliasingEffect}
use Rattle.def_effects.specs.Keys.{EffectKey, effect_key, eq_key}
use Rattle.def_effects.proofs.Laws.Key.{eq_key_eq}
use Rattle.def_transfer.specs.Tables.{World}
use Rattle.base_sets.specs.Members.{values_of}
use Rattle.def_transfer.specs.Instruction.{Instruction, apply_signature}
use Rattle.def_transfer.specs.Reach.{Reach, Agree, Alike}
use Rattle.def_transfer.specs.Pure.{at, find_effect, is_key, first_cached, Function, Context, read_only, read_only_in, pure}
use Rattle.def_transfer.specs.Lawful.{Lawful}
use Rattle.def_transfer.proofs.Laws.Isolation.{isolation}

module _ {A : Type 0} where
  at_cong : (f g : ℕ → A) (i : ℕ) (x : A) (j : ℕ) → f j ≡ g j → at f i x j ≡ at g i x j
  unfolding at
  at_cong f g i x j p = go (eqb i j)
    where
      go : (b : Bool) → ◌≡◌ {A = A} (elim b [ true ↦ x | false ↦ f j ]) (elim b [ true ↦ x | false ↦ g j ])
      go true = refl
      go false = p

  at_other : (f : ℕ → A) (i : ℕ) (x : A) (j : ℕ) → ¬ (i ≡ j) → at f i x j ≡ f j
  unfolding at
  at_other f i x j h = go (eqb i j) (λ t. h (eqb→eq i j t))
    where
      go : (b : Bool) → ¬ (lib.Dec.T b) → ◌≡◌ {A = A} (elim b [ true ↦ x | false ↦ f j ]) (f j)
      go true k = absurd (k tt)
      go false k = refl

  -- what stands at j: the new entry at its own place, or the old one
  at_cases : (P : A → Type 0) (f : ℕ → A) (i : ℕ) (x : A) (j : ℕ) → (i ≡ j → P x) → P (f j) → P (at f i x j)
  unfolding at
  at_cases P f i x j p q = go (eqb i j) (eqb→eq i j)
    where
      go : (b : Bool) → (lib.Dec.T b → i ≡ j) → P (elim b [ true ↦ x | false ↦ f j ])
      go true e = p (e tt)
      go false e = q

some_eq : {A : Type 0} (a b : A) → Some a ≡ Some b → a ≡ b
some_eq a b e = cc

pub found_key : (l : List AliasingEffect) (k : EffectKey) (e : AliasingEffect) → find_effect l k ≡ Some e → k ≡ effect_key e
unfolding find_effect
found_key [] k e h = cc
found_key (x ∷ xs) k e h = go (eq_key k (effect_key x)) (eq_key_eq k (effect_key x)) (found_key xs k e) h
  where
    go : (b : Bool) → (lib.Dec.T b → k ≡ effect_key x) → (find_effect xs k ≡ Some e → k ≡ effect_key e) → ◌≡◌ {A = Option AliasingEffect} (elim b [ true ↦ Some x | false ↦ find_effect xs k ]) (Some e) → k ≡ effect_key e
    go true p q h = p tt ∙ ap effect_key (some_eq x e h)
    go false p q h = q h

pub is_key_is : (k : EffectKey) (o : Option EffectKey) → lib.Dec.T (is_key k o) → o ≡ Some k
unfolding is_key
is_key_is k None t = absurd t
is_key_is k (Some j) t = ap Some (sym (eq_key_eq k j t))

pub found_number : (n v : ℕ) (c : ℕ → Option EffectKey) (k : EffectKey) (m : ℕ) → first_cached n v c k ≡ Some m → c m ≡ Some k
unfolding first_cached
found_number zero v c k m h = cc
found_number (suc n) v c k m h = go (is_key k (c v)) (is_key_is k (c v)) (found_number n (suc v) c k m) h
  where
    go : (b : Bool) → (lib.Dec.T b → c v ≡ Some k) → (first_cached n (suc v) c k ≡ Some m → c m ≡ Some k) → ◌≡◌ {A = Option ℕ} (elim b [ true ↦ Some v | false ↦ first_cached n (suc v) c k ]) (Some m) → c m ≡ Some k
    go true p q h = subst (λ (x : ℕ). c x ≡ Some k) (some_eq v m h) (p tt)
    go false p q h = q h

read_only_same : (i : ℕ) (l : List Place) → identifiers (read_only i l) ≡ identifiers l
unfolding read_only
read_only_same i [] = refl
read_only_same i (p ∷ ps) = ap (λ (r : List ℕ). p.identifier ∷ r) (read_only_same i ps)

read_contexts : (c : Context) (f i g : ℕ) → identifiers (pure.context_of (pure.make_read c f i) g) ≡ identifiers (pure.context_of c g)
read_contexts c f i g = at_cases (λ (y : Function). identifiers y.context ≡ identifiers (c.functions g).context) c.functions f (read_only_in i (c.functions f)) g (λ e. read_only_same i (c.functions f).context ∙ ap (λ (x : ℕ). identifiers (c.functions x).context) e) refl

pub pure_lawful : Lawful pure
pure_lawful = record {
  FitValues = λ t. Unit {0};
  fit_value = λ t v a h. tt;
  value_cong = λ t u v a x p q e. at_cong t u v (Some a) x e;
  value_other = λ t v a x h. at_other t v (Some a) x h;
  FitSets = λ t. Unit {0};
  fit_set = λ t i s h. tt;
  set_cong = λ t u i s j p q e. at_cong t u i (Some s) j e;
  set_other = λ t i s j h. at_other t i (Some s) j h;
  set_has = λ P t i s j a b. at_cases (λ o. All P (values_of o)) t i (Some s) j (λ e. a) b;
  effect_found = λ c. found_key c.interned;
  number_found = λ c. found_number 511 1 c.cached;
  effect_same = λ c e. record { keys = λ n k h. h; links = λ v f h. h; contexts = λ f. refl };
  diagnostic_same = λ c n d. record { keys = λ n k h. h; links = λ v f h. h; contexts = λ f. refl };
  read_same = λ c f i. record { keys = λ n k e. e; links = λ v g e. e; contexts = read_contexts c f i };
  key_put = λ c n m k j. at_cases (λ o. o ≡ Some j → (n ≡ m) ⊎ (c.cached m ≡ Some j)) c.cached n (Some k) m (λ e h. inl e) (λ h. inr h);
  key_links = λ c n k v f e. e;
  key_contexts = λ c n k g. refl;
  link_put = λ c v f x g q. at_cases (λ o. o ≡ Some g → (f ≡ g) ⊎ (c.links x ≡ Some g)) c.links v (Some f) x (λ e h. inl (some_eq f g h)) (λ h. inr h);
  link_keys = λ c v f n k e. e;
  link_contexts = λ c v f g. refl;
  Kept = λ c. Unit {0};
  effect_kept = λ c e h. tt;
  diagnostic_kept = λ c n d h. tt;
  read_kept = λ c f i h. tt;
  key_kept = λ c n k h. tt;
  link_kept = λ c v f h. tt;
}

-- demand 3 of the definition over functions
pub pure_isolation : (ins : Instruction) (w u : World pure) → w.rest.session ≡ u.rest.session → w.rest.context ≡ u.rest.context
    → Agree pure (Reach pure ins w.rest.session w.rest.context w.state) w.state u.state
    → Alike pure (Reach pure ins w.rest.session w.rest.context w.state) w.state u.state (apply_signature ins w) (apply_signature ins u)
unfolding pure_lawful
pure_isolation ins w u e c a = isolation pure_lawful ins w u e c (record { values = tt; sets = tt }) (record { values = tt; sets = tt }) tt a
