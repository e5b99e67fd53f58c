-- The same write into two lists, one longer by zeros: what each write of a word keeps of both, a write of an effect and a number put into an
-- order keep. Assumes nothing.
use Prim.Native.Nat.{ℕ, zero, suc, ◌+◌, ◌*◌, ◌-◌, ◌≤◌, ◌<◌}
use native.Mathlib.Omega.{arith}
use Rattle.std.specs.Prelude.{◌≡◌, refl, Bool, length, get_or, set}
use Rattle.std.proofs.Math.Path.{ap, subst}
use Rattle.std.proofs.Common.{sym, ◌∙◌, length-set}
use Rattle.std.proofs.Math.Bool.{true, false}
use mathlib.Core.List.{List, [], ◌∷◌, ◌++◌}
use Rattle.std.proofs.lemmas.List.{set-append_left}
use Rattle.base_tests.specs.Tests.{ite}
use Rattle.def_effects.specs.declared.Place.{Place}
use Rattle.def_effects.specs.declared.AliasingDiagnostic.{AliasingDiagnostic}
use Rattle.def_effects.specs.Effects.{AliasingEffect, Freeze, Mutate, MutateConditionally, MutateTransitive, MutateTransitiveConditionally, Capture, Alias, MaybeAlias, Assign, Create, CreateFrom, ImmutableCapture, CreateFunction, MutateFrozen, MutateGlobal, Impure, Render}
use Rattle.lent_tables.specs.declared.Table.{Table}
use Rattle.lent_tables.specs.Words.{within, index, field, put_field, put_place, put_places}
use Rattle.lent_effects.specs.Records.{one_place, two_places, reported, put_effect}
use Rattle.lent_order.specs.Order.{moved_up, inserted}
use Rattle.lent_copies.specs.Copies.{zeros}

-- ---- a list and the same with n zeros more

-- a list of l words or more, and the same with n zeros behind it
pub record Behind (l n : ℕ) (c d : List ℕ) : Type 0 where
  pub long : l ≤ length c
  pub more : d ≡ c ++ zeros n

-- a zero is read past the end of a list as well
past_end : (c : List ℕ) (n k : ℕ) → get_or (c ++ zeros n) k 0 ≡ get_or c k 0
unfolding zeros
past_end [] zero k = refl
past_end [] (suc n) zero = refl
past_end [] (suc n) (suc k) = past_end [] n k
past_end (x ∷ c) n zero = refl
past_end (x ∷ c) n (suc k) = past_end c n k

-- each word of a table is read alike
pub field_behind : (c : List ℕ) (n : ℕ) (t : Table) (i w : ℕ) → field t (c ++ zeros n) i w ≡ field t c i w
unfolding field
field_behind c n t i w = ap (λ (x : ℕ). ite (within t i w) x 0) (past_end c n (index t i w))

module _ {l n : ℕ} {c d : List ℕ} (p : Behind l n c d) where
  -- each word of a table is read alike
  pub field_alike : (t : Table) (i w : ℕ) → field t d i w ≡ field t c i w
  field_alike t i w = ap (λ (x : List ℕ). field t x i w) p.more ∙ field_behind c n t i w

  -- a word that both have is written alike
  set_alike : (k x : ℕ) → k < l → Behind l n (set c k x) (set d k x)
  set_alike k x h =
      record {
        long = let a = p.long in let b = length-set c k x in omega arith;
        more = ap (λ (y : List ℕ). set y k x) p.more ∙ set-append_left c (zeros n) k x (let a = p.long in omega arith);
      }

  -- and so is a word of a table
  put_alike : (t : Table) (i w x : ℕ) → (within t i w ≡ true → index t i w < l) → Behind l n (put_field t c i w x) (put_field t d i w x)
  unfolding put_field
  put_alike t i w x h = go (within t i w) h
    where
      go : (b : Bool) → (b ≡ true → index t i w < l) → Behind l n (ite b (set c (index t i w) x) c) (ite b (set d (index t i w) x) d)
      go true k = set_alike (index t i w) x (k refl)
      go false k = p

-- ---- an effect, word by word: of a record that both have

module _ (t : Table) (i l n : ℕ) (there : (w : ℕ) → within t i w ≡ true → index t i w < l) where
  abbrev Both : List ℕ → List ℕ → Type 0
  Both = Behind l n

  s : (c d : List ℕ) (w x : ℕ) → Both c d → Both (put_field t c i w x) (put_field t d i w x)
  s c d w x p = put_alike p t i w x (there w)

  -- a place is five words
  place_both : (c d : List ℕ) (w : ℕ) (p : Place) → Both c d → Both (put_place t c i w p) (put_place t d i w p)
  unfolding put_place
  place_both c d w p h = s _ _ _ _ (s _ _ _ _ (s _ _ _ _ (s _ _ _ _ (s _ _ _ _ h))))

  -- places
  places_both : (c d : List ℕ) (w k : ℕ) (ps : List Place) → Both c d → Both (put_places t c i w k ps) (put_places t d i w k ps)
  unfolding put_places
  places_both c d w k [] h = h
  places_both c d w k (p ∷ ps) h = places_both (put_place t c i (w + k * 5) p) (put_place t d i (w + k * 5) p) w (suc k) ps (place_both c d (w + k * 5) p h)

  -- a code and a place
  one_both : (c d : List ℕ) (n : ℕ) (p : Place) → Both c d → Both (one_place t c i n p) (one_place t d i n p)
  one_both c d n p h = place_both _ _ _ _ (s _ _ _ _ h)

  -- a code and two places
  two_both : (c d : List ℕ) (n : ℕ) (p q : Place) → Both c d → Both (two_places t c i n p q) (two_places t d i n p q)
  two_both c d n p q h = place_both _ _ _ _ (one_both _ _ _ _ h)

  -- a code, a place and a diagnostic
  reported_both : (c d : List ℕ) (n : ℕ) (p : Place) (x : AliasingDiagnostic) → Both c d → Both (reported t c i n p x) (reported t d i n p x)
  reported_both c d n p x h = s _ _ _ _ (s _ _ _ _ (one_both _ _ _ _ h))

  -- an effect
  pub effect_both : (c d : List ℕ) (e : AliasingEffect) → Both c d → Both (put_effect t c i e) (put_effect t d i e)
  unfolding put_effect
  effect_both c d (Freeze p r) h = s _ _ _ _ (one_both _ _ _ _ h)
  effect_both c d (Mutate p r) h = s _ _ _ _ (one_both _ _ _ _ h)
  effect_both c d (MutateConditionally p) h = one_both _ _ _ _ h
  effect_both c d (MutateTransitive p) h = one_both _ _ _ _ h
  effect_both c d (MutateTransitiveConditionally p) h = one_both _ _ _ _ h
  effect_both c d (Capture p q) h = two_both _ _ _ _ _ h
  effect_both c d (Alias p q) h = two_both _ _ _ _ _ h
  effect_both c d (MaybeAlias p q) h = two_both _ _ _ _ _ h
  effect_both c d (Assign p q) h = two_both _ _ _ _ _ h
  effect_both c d (Create q k r) h = s _ _ _ _ (s _ _ _ _ (place_both _ _ _ _ (s _ _ _ _ h)))
  effect_both c d (CreateFrom p q) h = two_both _ _ _ _ _ h
  effect_both c d (ImmutableCapture p q) h = two_both _ _ _ _ _ h
  effect_both c d (CreateFunction cs f q) h = places_both _ _ _ _ _ (s _ _ _ _ (s _ _ _ _ (place_both _ _ _ _ (s _ _ _ _ h))))
  effect_both c d (MutateFrozen p x) h = reported_both _ _ _ _ _ h
  effect_both c d (MutateGlobal p x) h = reported_both _ _ _ _ _ h
  effect_both c d (Impure p x) h = reported_both _ _ _ _ _ h
  effect_both c d (Render p) h = one_both _ _ _ _ h

-- ---- a number put into an order of m: at a place up to m, which both have

module _ (t : Table) (m l n : ℕ) (there : (j : ℕ) → j ≤ m → within t j 0 ≡ true → index t j 0 < l) where
  -- words moved up
  moved_both : (p k : ℕ) (c d : List ℕ) → p + k ≤ m → Behind l n c d → Behind l n (moved_up t p k c) (moved_up t p k d)
  unfolding moved_up
  moved_both p zero c d q h = h
  moved_both p (suc k) c d q h =
      moved_both p k _ _ (omega arith)
      (subst (λ (x : ℕ). Behind l n (put_field t c (p + suc k) 0 (field t c (p + k) 0)) (put_field t d (p + suc k) 0 x)) (sym (field_alike h t (p + k) 0)) (put_alike h t (p + suc k) 0 (field t c (p + k) 0) (there (p + suc k) q)))

  pub insert_both : (p r : ℕ) (c d : List ℕ) → p ≤ m → Behind l n c d → Behind l n (inserted t p r m c) (inserted t p r m d)
  unfolding inserted
  insert_both p r c d q h = put_alike (moved_both p (m - p) c d (omega arith) h) t p 0 r (there p q)
