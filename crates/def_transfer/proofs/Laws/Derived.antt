-- Keys of interned effects, a member found, and how many more effects can be derived from one. Assumes nothing.
use Rattle.std.specs.Prelude.{ℕ, suc, ◌≡◌, refl, Bool, true, false, ◌||◌, List, [], ◌∷◌, get_or}
use Rattle.std.proofs.Common.{le_trans, le_of_suc-le-suc, arith, sym, ap, ◌∙◌, subst}
use Rattle.std.proofs.lemmas.Bool.{false≢true}
use lib.Dec.{eqb, ltb, eqb→eq, ltb→lt, lt→ltb}
use Rattle.base_tests.specs.Tests.{All}
use Rattle.def_effects.specs.declared.Span.{Span}
use Rattle.def_effects.specs.declared.Place.{Place}
use Rattle.def_effects.specs.declared.AliasingDiagnostic.{AliasingDiagnostic}
use Rattle.def_effects.specs.declared.Session.{Session}
use Rattle.def_effects.specs.Effects.{AliasingEffect, Freeze, Mutate, MutateConditionally, MutateTransitive, MutateTransitiveConditionally, Capture, Alias, MaybeAlias, Assign, Create, CreateFrom, ImmutableCapture, CreateFunction, MutateFrozen, MutateGlobal, Impure, Render}
use Rattle.def_effects.specs.Keys.{EffectKey, effect_key, one}
use Rattle.def_transfer.specs.State.{first_access}
use Rattle.def_transfer.specs.Context.{diagnostic_of, refreshed}
use Rattle.def_transfer.specs.Instruction.{has}

-- ---- keys

-- an effect whose key holds an identity has that identity; Impure's key (16) holds none
same_identity_is : (c : ℕ) (q : Place) (x : AliasingDiagnostic) (e : AliasingEffect) → effect_key e ≡ one c q 0 x.identity → ¬ (16 ≡ c) → (diagnostic_of x e).identity ≡ x.identity
same_identity_is c q x (Freeze p r) h n = refl
same_identity_is c q x (Mutate p r) h n = refl
same_identity_is c q x (MutateConditionally p) h n = refl
same_identity_is c q x (MutateTransitive p) h n = refl
same_identity_is c q x (MutateTransitiveConditionally p) h n = refl
same_identity_is c q x (Capture f i) h n = refl
same_identity_is c q x (Alias f i) h n = refl
same_identity_is c q x (MaybeAlias f i) h n = refl
same_identity_is c q x (Assign f i) h n = refl
same_identity_is c q x (Create i k r) h n = refl
same_identity_is c q x (CreateFrom f i) h n = refl
same_identity_is c q x (ImmutableCapture f i) h n = refl
same_identity_is c q x (CreateFunction cs f i) h n = refl
same_identity_is c q x (MutateFrozen p d) h n = ap (λ (k : EffectKey). k.identity) h
same_identity_is c q x (MutateGlobal p d) h n = ap (λ (k : EffectKey). k.identity) h
same_identity_is c q x (Impure p d) h n = absurd (n (ap (λ (k : EffectKey). k.code) h))
same_identity_is c q x (Render p) h n = refl

-- what interning hands out has the key of what it was given
pub refreshed_key : (e x : AliasingEffect) → effect_key e ≡ effect_key x → effect_key e ≡ effect_key (refreshed e x)
refreshed_key e (Freeze p r) h = h
refreshed_key e (Mutate p r) h = h
refreshed_key e (MutateConditionally p) h = h
refreshed_key e (MutateTransitive p) h = h
refreshed_key e (MutateTransitiveConditionally p) h = h
refreshed_key e (Capture f i) h = h
refreshed_key e (Alias f i) h = h
refreshed_key e (MaybeAlias f i) h = h
refreshed_key e (Assign f i) h = h
refreshed_key e (Create i k r) h = h
refreshed_key e (CreateFrom f i) h = h
refreshed_key e (ImmutableCapture f i) h = h
refreshed_key e (CreateFunction cs f i) h = h
refreshed_key e (MutateFrozen p d) h = h ∙ ap (one 14 p 0) (sym (same_identity_is 14 p d e h (λ z. omega arith)))
refreshed_key e (MutateGlobal p d) h = h ∙ ap (one 15 p 0) (sym (same_identity_is 15 p d e h (λ z. omega arith)))
refreshed_key e (Impure p d) h = h
refreshed_key e (Render p) h = h

-- ---- lists

pub has_all : (P : ℕ → Type 0) (i : ℕ) (l : List ℕ) → All P l → has i l ≡ true → P i
unfolding has
has_all P i [] a e = absurd (false≢true e)
has_all P i (j ∷ js) a e = go (eqb i j) (eqb→eq i j) (has_all P i js a.1) e
  where
    go : (b : Bool) → (lib.Dec.T b → i ≡ j) → (has i js ≡ true → P i) → (b || has i js) ≡ true → P i
    go true q r e = subst P (sym (q tt)) a.0
    go false q r e = r e

-- recording an access leaves the next number
pub first_next : (a : ℕ) (span : Span) (s : Session) → (first_access a span s).next ≡ s.next
first_next a span s = go (eqb s.access 0)
  where
    go : (b : Bool) → ◌≡◌ {A = ℕ} (elim b as (λ x. Session) [ true ↦ record { next = s.next; access = a; span = span; entries = s.entries } | false ↦ s ]).next s.next
    go true = refl
    go false = refl

-- ---- how many more effects can be derived, one from the other, by the code of a key: Capture and Alias 2, CreateFunction 3

abbrev pub rank : EffectKey → ℕ
rank k = get_or (0 ∷ 1 ∷ 1 ∷ 1 ∷ 1 ∷ 2 ∷ 2 ∷ 1 ∷ 1 ∷ 0 ∷ 1 ∷ 0 ∷ 0 ∷ 3 ∷ []) k.code 0

pub lower : (d a b : ℕ) → lib.Dec.T (ltb a b) → lib.Dec.T (ltb b (suc d)) → lib.Dec.T (ltb a d)
lower d a b p q = lt→ltb a d (le_trans (ltb→lt a b p) (le_of_suc-le-suc (ltb→lt b (suc d) q)))

pub rank_4 : (e : AliasingEffect) → lib.Dec.T (ltb (rank (effect_key e)) 4)
rank_4 (Freeze p r) = tt
rank_4 (Mutate p r) = tt
rank_4 (MutateConditionally p) = tt
rank_4 (MutateTransitive p) = tt
rank_4 (MutateTransitiveConditionally p) = tt
rank_4 (Capture f i) = tt
rank_4 (Alias f i) = tt
rank_4 (MaybeAlias f i) = tt
rank_4 (Assign f i) = tt
rank_4 (Create i k r) = tt
rank_4 (CreateFrom f i) = tt
rank_4 (ImmutableCapture f i) = tt
rank_4 (CreateFunction cs f i) = tt
rank_4 (MutateFrozen p d) = tt
rank_4 (MutateGlobal p d) = tt
rank_4 (Impure p d) = tt
rank_4 (Render p) = tt
