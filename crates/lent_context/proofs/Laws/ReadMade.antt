-- Context places made Read: in their slice as in the list. Assumes nothing.
use Prim.Native.Nat.{ℕ, zero, suc, ◌+◌, ◌*◌, ◌≤◌, ◌<◌}
use Rattle.std.specs.Prelude.{◌≡◌, Bool, ◌&&◌}
use Rattle.std.proofs.Math.Path.{refl, ap, ap₂}
use Rattle.std.proofs.Common.{sym, ◌∙◌, subst}
use Rattle.std.proofs.Math.Bool.{true, false}
use Rattle.std.proofs.lemmas.Bool.{false≢true}
use mathlib.Core.List.{List, ◌∷◌}
use native.Mathlib.Omega.{arith}
use lib.Dec.{eqb, eqb→eq}
use Rattle.std.proofs.Math.ListN.{length, get_or-eq_default}
use Rattle.std.proofs.Math.Logic.{⊎_elim}
use Rattle.base_tests.proofs.Laws.Order.{lt_or_ge}
use Rattle.base_tests.specs.Tests.{ite}
use Rattle.def_effects.specs.declared.Place.{Place}
use Rattle.def_effects.specs.Places.{Capture, Read}
use Rattle.def_transfer.specs.Pure.{read_only}
use Rattle.lent_tables.specs.Words.{within, index, field, put_field, place_in, places_in}
use Rattle.lent_tables.proofs.Laws.Word.{field_in, field_out, put_same, put_record}
use Rattle.lent_layout.specs.Layout as Layout
use Rattle.lent_layout.specs.Context.{ContextWords}
use Rattle.lent_context.specs.Lent.{read_place, read_places, make_read}
use Rattle.lent_tables.proofs.Laws.Back.{word_beside, place_same}

-- what each write of a place's effect keeps, making places Read keeps
module _ (f i : ℕ) (P : List ℕ → Type 0) (s : (d : List ℕ) (k x : ℕ) → P d → P (put_field Layout.contexts d f (k * 5 + 1) x)) where
  read_place_is : (k : ℕ) (c : List ℕ) → P c → P (read_place f i k c)
  unfolding read_place
  read_place_is k c h = go (eqb (field Layout.contexts c f (k * 5)) i && eqb (field Layout.contexts c f (k * 5 + 1)) Capture)
    where
      go : (b : Bool) → P (ite b (put_field Layout.contexts c f (k * 5 + 1) Read) c)
      go true = s c k Read h
      go false = h

  read_places_is : (k n : ℕ) (c : List ℕ) → P c → P (read_places f i k n c)
  unfolding read_places
  read_places_is k zero c h = h
  read_places_is k (suc n) c h = read_places_is (suc k) n (read_place f i k c) (read_place_is k c h)

  -- all the places of a function
  pub read_keeps : (c : ContextWords) → P c.contexts → P (make_read c f i).contexts
  unfolding make_read
  read_keeps c h = read_places_is 0 (field Layout.functions c.functions f 1) c.contexts h

and_second : (a b : Bool) → (a && b) ≡ true → b ≡ true
and_second true b e = e
and_second false b e = absurd (false≢true e)

-- a word that reads as 3 stands in the table, and in the list
-- so a write of it is there, however long the list is
module _ (c : List ℕ) (f w : ℕ) (e : eqb (field Layout.contexts c f w) Capture ≡ true) where
  reads_capture : field Layout.contexts c f w ≡ 3
  reads_capture = eqb→eq (field Layout.contexts c f w) 3 (subst (λ (b : Bool). lib.Dec.T b) (sym e) tt)

  capture_within : within Layout.contexts f w ≡ true
  capture_within = go (within Layout.contexts f w) refl
    where
      go : (b : Bool) → within Layout.contexts f w ≡ b → b ≡ true
      go true p = refl
      go false p = let z : field Layout.contexts c f w ≡ 0 = field_out Layout.contexts c f w p in let y = reads_capture in absurd (omega arith)

  capture_inside : index Layout.contexts f w < length c
  capture_inside = ⊎_elim (λ l. l) past (lt_or_ge (index Layout.contexts f w) (length c))
    where
      past : length c ≤ index Layout.contexts f w → index Layout.contexts f w < length c
      past l =
          let z : field Layout.contexts c f w ≡ 0 = field_in Layout.contexts c f w capture_within ∙ get_or-eq_default c 0 {n = index Layout.contexts f w} l in
          let y = reads_capture in
          absurd (omega arith)

module _ (f i : ℕ) where
  abbrev test : List ℕ → ℕ → Bool
  test c k = eqb (field Layout.contexts c f (k * 5)) i && eqb (field Layout.contexts c f (k * 5 + 1)) Capture

  -- one place: any word but its second stays
  read_beside : (k : ℕ) (c : List ℕ) (v : ℕ) → (k * 5 + 1 ≡ v → ⊥) → field Layout.contexts (read_place f i k c) f v ≡ field Layout.contexts c f v
  unfolding read_place
  read_beside k c v n = go (test c k)
    where
      go : (b : Bool) → field Layout.contexts (ite b (put_field Layout.contexts c f (k * 5 + 1) Read) c) f v ≡ field Layout.contexts c f v
      go true = word_beside Layout.contexts f c (k * 5 + 1) Read v n
      go false = refl

  -- several: the words before them stay
  reads_beside : (k n : ℕ) (c : List ℕ) (v : ℕ) → v < k * 5 → field Layout.contexts (read_places f i k n c) f v ≡ field Layout.contexts c f v
  unfolding read_places
  reads_beside k zero c v l = refl
  reads_beside k (suc n) c v l = reads_beside (suc k) n (read_place f i k c) v (omega arith) ∙ read_beside k c v (λ e. omega arith)

  abbrev made : Place → Place
  made p = record { identifier = p.identifier; effect = elim (eqb p.identifier i && eqb p.effect Capture) [ true ↦ Read | false ↦ p.effect ]; reactive = p.reactive; span = p.span }

  -- the place itself
  read_at : (k : ℕ) (c : List ℕ) → place_in Layout.contexts (read_place f i k c) f (k * 5) ≡ made (place_in Layout.contexts c f (k * 5))
  unfolding read_place place_in
  read_at k c = go (test c k) (λ e. written (and_second (eqb (field Layout.contexts c f (k * 5)) i) _ e))
    where
      written : eqb (field Layout.contexts c f (k * 5 + 1)) Capture ≡ true → field Layout.contexts (put_field Layout.contexts c f (k * 5 + 1) Read) f (k * 5 + 1) ≡ Read
      written e = put_same Layout.contexts c f (k * 5 + 1) Read (capture_within c f (k * 5 + 1) e) (capture_inside c f (k * 5 + 1) e)

      go : (b : Bool) → (b ≡ true → field Layout.contexts (put_field Layout.contexts c f (k * 5 + 1) Read) f (k * 5 + 1) ≡ Read) → place_in Layout.contexts (ite b (put_field Layout.contexts c f (k * 5 + 1) Read) c) f (k * 5)
          ≡ (record { identifier = field Layout.contexts c f (k * 5); effect = elim b as (λ _. ℕ) [ true ↦ Read | false ↦ field Layout.contexts c f (k * 5 + 1) ]; reactive = field Layout.contexts c f (k * 5 + 2); span = record { start = field Layout.contexts c f (k * 5 + 3); end = field Layout.contexts c f (k * 5 + 4) } })
      go true h = λ j. record {
        identifier = word_beside Layout.contexts f c (k * 5 + 1) Read (k * 5) (λ e. omega arith) j;
        effect = h refl j;
        reactive = word_beside Layout.contexts f c (k * 5 + 1) Read (k * 5 + 2) (λ e. omega arith) j;
        span = record { start = word_beside Layout.contexts f c (k * 5 + 1) Read (k * 5 + 3) (λ e. omega arith) j; end = word_beside Layout.contexts f c (k * 5 + 1) Read (k * 5 + 4) (λ e. omega arith) j };
      }
      go false h = refl

  -- places whose words stay
  places_from_is : (c d : List ℕ) (a k n : ℕ) → a ≤ k * 5 → ((v : ℕ) → a ≤ v → field Layout.contexts d f v ≡ field Layout.contexts c f v) → places_in Layout.contexts d f 0 k n ≡ places_in Layout.contexts c f 0 k n
  unfolding places_in
  places_from_is c d a k zero l h = refl
  places_from_is c d a k (suc n) l h =
      ap₂ (λ (p : Place) (ps : List Place). p ∷ ps) (place_same Layout.contexts f c d (0 + k * 5) (λ v x y. h v (omega arith))) (places_from_is c d a (suc k) n (omega arith) h)

  reads_at : (k n : ℕ) (c : List ℕ) → places_in Layout.contexts (read_places f i k n c) f 0 k n ≡ read_only i (places_in Layout.contexts c f 0 k n)
  unfolding places_in read_places read_only
  reads_at k zero c = refl
  reads_at k (suc n) c =
      let e : 0 + k * 5 ≡ k * 5 = omega arith in
      ap₂ (λ (p : Place) (ps : List Place). p ∷ ps)
      (place_same Layout.contexts f (read_place f i k c) (read_places f i (suc k) n (read_place f i k c)) (0 + k * 5) (λ v x y. reads_beside (suc k) n (read_place f i k c) v (omega arith))
      ∙ ap (place_in Layout.contexts (read_place f i k c) f) e ∙ read_at k c ∙ ap (λ (w : ℕ). made (place_in Layout.contexts c f w)) (sym e))
      (reads_at (suc k) n (read_place f i k c)
      ∙ ap (read_only i) (places_from_is c (read_place f i k c) (suc k * 5) (suc k) n (omega arith) (λ v l. read_beside k c v (λ q. omega arith))))

  -- those of another function
  pub read_other : (c : ContextWords) (g : ℕ) → ¬ (f ≡ g) → (v : ℕ) → field Layout.contexts (make_read c f i).contexts g v ≡ field Layout.contexts c.contexts g v
  read_other c g n v = read_keeps f i (λ (d : List ℕ). field Layout.contexts d g v ≡ field Layout.contexts c.contexts g v) (λ d k x h. put_record Layout.contexts d f (k * 5 + 1) x g v n ∙ h) c refl

  -- its own
  pub read_made : (c : ContextWords) → places_in Layout.contexts (make_read c f i).contexts f 0 0 (field Layout.functions c.functions f 1) ≡ read_only i (places_in Layout.contexts c.contexts f 0 0 (field Layout.functions c.functions f 1))
  unfolding make_read
  read_made c = reads_at 0 (field Layout.functions c.functions f 1) c.contexts
