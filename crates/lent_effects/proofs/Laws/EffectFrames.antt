-- What a write of an effect leaves, and that records with the same words hold the same effect. Assumes nothing.
use Rattle.std.specs.Prelude.{ℕ, suc, ◌+◌, ◌*◌, ◌≤◌, ◌<◌, ◌≡◌, refl, true, ◌⊎◌, length}
use Rattle.std.proofs.Math.Path.{ap, ap₂}
use Rattle.std.proofs.Common.{◌∙◌, arith}
use mathlib.Core.List.{List, [], ◌∷◌}
use Rattle.std.proofs.Math.ListN.{get_or}
use Rattle.def_kinds.specs.Kinds.{kind_at}
use Rattle.def_effects.specs.declared.Place.{Place}
use Rattle.def_effects.specs.declared.AliasingDiagnostic.{AliasingDiagnostic}
use Rattle.def_effects.specs.Effects.{AliasingEffect, Freeze, Mutate, MutateConditionally, MutateTransitive, MutateTransitiveConditionally, Capture, Alias, MaybeAlias, Assign, Create, CreateFrom, ImmutableCapture, CreateFunction, MutateFrozen, MutateGlobal, Impure, Render}
use Rattle.lent_tables.specs.declared.Table.{Table}
use Rattle.lent_tables.specs.Words.{index, end, apart, field, put_field, place_in, put_place, places_in, put_places}
use Rattle.lent_tables.proofs.Laws.Word.{within_word, put_length, put_read, put_record, put_apart, put_outside, place_cong, places_cong}
use Rattle.lent_effects.specs.declared.AliasingEffect.{AliasingEffect as Head}
use Rattle.lent_effects.specs.Records.{counted_places, effect_with, heads, head_in, effect_in, one_place, two_places, reported, put_effect}

-- ---- records with the same words

module _ (t : Table) (c d : List ℕ) (i : ℕ) (h : (v : ℕ) → field t d i v ≡ field t c i v) where
  -- the same words make the same heads
  heads_cong : heads t d i ≡ heads t c i
  unfolding heads
  heads_cong = λ j.
      Head.Freeze (p j) (h 12 j)
      ∷ Head.Mutate (p j) (h 13 j)
      ∷ Head.MutateConditionally (p j)
      ∷ Head.MutateTransitive (p j)
      ∷ Head.MutateTransitiveConditionally (p j)
      ∷ Head.Capture (p j) (q j)
      ∷ Head.Alias (p j) (q j)
      ∷ Head.MaybeAlias (p j) (q j)
      ∷ Head.Assign (p j) (q j)
      ∷ Head.Create (q j) (kind_at (h 11 j)) (h 12 j)
      ∷ Head.CreateFrom (p j) (q j)
      ∷ Head.ImmutableCapture (p j) (q j)
      ∷ Head.Render (p j)
      ∷ Head.CreateFunction (h 14 j) (q j)
      ∷ Head.MutateFrozen (p j) (record { identity = h 15 j; instance = h 16 j })
      ∷ Head.MutateGlobal (p j) (record { identity = h 15 j; instance = h 16 j })
      ∷ Head.Impure (p j) (record { identity = h 15 j; instance = h 16 j })
      ∷ []
    where
      p : place_in t d i 1 ≡ place_in t c i 1
      p = place_cong t c d i 1 h

      q : place_in t d i 6 ≡ place_in t c i 6
      q = place_cong t c d i 6 h

  -- and the same head
  pub head_cong : head_in t d i ≡ head_in t c i
  unfolding head_in
  head_cong = λ j. get_or (heads_cong j) (h 0 j) (Head.Render (place_cong t c d i 1 h j))

  -- and the same captures
  pub captures_cong : counted_places t d i 17 ≡ counted_places t c i 17
  unfolding counted_places
  captures_cong = places_cong t c d i 18 0 (field t d i 17) h ∙ ap (places_in t c i 18 0) (h 17)

  -- and the same effect
  pub effect_cong : effect_in t d i ≡ effect_in t c i
  unfolding effect_in
  effect_cong = ap₂ effect_with head_cong captures_cong

-- ---- what a write of an effect leaves

-- what each write of a word of record i keeps, a write of a place, of places and of an effect keeps
-- an effect is written word by word, all in one record
module _ (t : Table) (i : ℕ) (P : List ℕ → Type 0) (s : (d : List ℕ) (w x : ℕ) → P d → P (put_field t d i w x)) where
  -- a place is five words
  pub place_keeps : (c : List ℕ) (w : ℕ) (p : Place) → P c → P (put_place t c i w p)
  unfolding put_place
  place_keeps c w p h = s _ _ _ (s _ _ _ (s _ _ _ (s _ _ _ (s _ _ _ h))))

  -- places
  pub places_keep : (c : List ℕ) (w k : ℕ) (ps : List Place) → P c → P (put_places t c i w k ps)
  unfolding put_places
  places_keep c w k [] h = h
  places_keep c w k (p ∷ ps) h = places_keep (put_place t c i (w + k * 5) p) w (suc k) ps (place_keeps c (w + k * 5) p h)

  -- a code and a place
  one_keeps : (c : List ℕ) (n : ℕ) (p : Place) → P c → P (one_place t c i n p)
  one_keeps c n p h = place_keeps _ _ _ (s _ _ _ h)

  -- a code and two places
  two_keeps : (c : List ℕ) (n : ℕ) (p q : Place) → P c → P (two_places t c i n p q)
  two_keeps c n p q h = place_keeps _ _ _ (one_keeps _ _ _ h)

  -- a code, a place and a diagnostic
  reported_keeps : (c : List ℕ) (n : ℕ) (p : Place) (d : AliasingDiagnostic) → P c → P (reported t c i n p d)
  reported_keeps c n p d h = s _ _ _ (s _ _ _ (one_keeps _ _ _ h))

  -- an effect
  pub effect_keeps : (c : List ℕ) (e : AliasingEffect) → P c → P (put_effect t c i e)
  unfolding put_effect
  effect_keeps c (Freeze p r) h = s _ _ _ (one_keeps _ _ _ h)
  effect_keeps c (Mutate p r) h = s _ _ _ (one_keeps _ _ _ h)
  effect_keeps c (MutateConditionally p) h = one_keeps _ _ _ h
  effect_keeps c (MutateTransitive p) h = one_keeps _ _ _ h
  effect_keeps c (MutateTransitiveConditionally p) h = one_keeps _ _ _ h
  effect_keeps c (Capture p q) h = two_keeps _ _ _ _ h
  effect_keeps c (Alias p q) h = two_keeps _ _ _ _ h
  effect_keeps c (MaybeAlias p q) h = two_keeps _ _ _ _ h
  effect_keeps c (Assign p q) h = two_keeps _ _ _ _ h
  effect_keeps c (Create q k r) h = s _ _ _ (s _ _ _ (place_keeps _ _ _ (s _ _ _ h)))
  effect_keeps c (CreateFrom p q) h = two_keeps _ _ _ _ h
  effect_keeps c (ImmutableCapture p q) h = two_keeps _ _ _ _ h
  effect_keeps c (CreateFunction cs f q) h = places_keep _ _ _ _ (s _ _ _ (s _ _ _ (place_keeps _ _ _ (s _ _ _ h))))
  effect_keeps c (MutateFrozen p d) h = reported_keeps _ _ _ _ h
  effect_keeps c (MutateGlobal p d) h = reported_keeps _ _ _ _ h
  effect_keeps c (Impure p d) h = reported_keeps _ _ _ _ h
  effect_keeps c (Render p) h = one_keeps _ _ _ h

-- an effect written keeps the list's length
pub effect_length : (t : Table) (c : List ℕ) (i : ℕ) (e : AliasingEffect) → length (put_effect t c i e) ≡ length c
effect_length t c i e = effect_keeps t i (λ (d : List ℕ). length d ≡ length c) (λ d w x h. put_length t d i w x ∙ h) c e refl

-- it leaves every word of a table that stands apart
pub effect_apart : (t u : Table) (c : List ℕ) (i : ℕ) (e : AliasingEffect) (j v : ℕ) → apart t u ≡ true → field u (put_effect t c i e) j v ≡ field u c j v
effect_apart t u c i e j v a = effect_keeps t i (λ (d : List ℕ). field u d j v ≡ field u c j v) (λ d w x h. put_apart t u d i w x j v a ∙ h) c e refl

-- it leaves every word of another record
pub effect_record : (t : Table) (c : List ℕ) (i : ℕ) (e : AliasingEffect) (j v : ℕ) → (i ≡ j → ⊥) → field t (put_effect t c i e) j v ≡ field t c j v
effect_record t c i e j v n = effect_keeps t i (λ (d : List ℕ). field t d j v ≡ field t c j v) (λ d w x h. put_record t d i w x j v n ∙ h) c e refl

-- it leaves every place of the list before the table or after it
pub effect_outside : (t : Table) (c : List ℕ) (i : ℕ) (e : AliasingEffect) (k : ℕ) → (k < t.base) ⊎ (end t ≤ k) → get_or (put_effect t c i e) k 0 ≡ get_or c k 0
effect_outside t c i e k o = effect_keeps t i (λ (d : List ℕ). get_or d k 0 ≡ get_or c k 0) (λ d w x h. put_outside t d i w x k o ∙ h) c e refl

-- no word of a record stands before its first
index_first : (t : Table) (i w : ℕ) → index t i 0 ≤ index t i w
unfolding index
index_first t i w = omega arith

-- a word written leaves every place of the list before its record
pub put_before : (t : Table) (c : List ℕ) (i w x k : ℕ) → k < index t i 0 → get_or (put_field t c i w x) k 0 ≡ get_or c k 0
put_before t c i w x k l = put_read t c i w x k (λ g e. let z : index t i 0 ≤ index t i w = index_first t i w in omega arith)

-- and so does an effect written
-- records before it stay, and what stands before the table
pub effect_before : (t : Table) (c : List ℕ) (i : ℕ) (e : AliasingEffect) (k : ℕ) → k < index t i 0 → get_or (put_effect t c i e) k 0 ≡ get_or c k 0
effect_before t c i e k l = effect_keeps t i (λ (d : List ℕ). get_or d k 0 ≡ get_or c k 0) (λ d w x h. put_before t d i w x k l ∙ h) c e refl

-- a word written leaves every place of the list after its record
put_after : (t : Table) (c : List ℕ) (i w x k : ℕ) → index t i 0 + t.width ≤ k → get_or (put_field t c i w x) k 0 ≡ get_or c k 0
unfolding index
put_after t c i w x k l = put_read t c i w x k (λ g e. let z : w < t.width = within_word t i w g in omega arith)

-- and so does an effect written
pub effect_after : (t : Table) (c : List ℕ) (i : ℕ) (e : AliasingEffect) (k : ℕ) → index t i 0 + t.width ≤ k → get_or (put_effect t c i e) k 0 ≡ get_or c k 0
effect_after t c i e k l = effect_keeps t i (λ (d : List ℕ). get_or d k 0 ≡ get_or c k 0) (λ d w x h. put_after t d i w x k l ∙ h) c e refl
