-- Places that were written into a record are read back, and so is a word that stands beside them. Assumes nothing.
use Prim.Native.Nat.{ℕ, suc, ◌+◌, ◌*◌, ◌≤◌, ◌<◌}
use Rattle.std.specs.Prelude.{◌≡◌}
use Rattle.std.proofs.Math.Path.{refl, ap₂}
use Rattle.std.proofs.Common.{◌∙◌}
use mathlib.Core.List.{List, [], ◌∷◌}
use native.Mathlib.Omega.{arith}
use Rattle.std.proofs.Math.ListN.{length}
use Rattle.def_effects.specs.declared.Place.{Place}
use Rattle.lent_tables.specs.declared.Table.{Table}
use Rattle.lent_tables.specs.Words.{index, field, put_field, place_in, put_place, places_in, put_places}
use Rattle.lent_tables.proofs.Laws.Word.{within_yes, put_length, put_same, put_other, place_length}

-- whether a list holds record i of a table
-- a slice may end after the last record that is used
abbrev pub Held : Table → ℕ → List ℕ → Type 0
Held t i c = t.base + i * t.width + t.width ≤ length c

module _ (t : Table) (i : ℕ) where
  -- a list as long as another holds the same records
  pub held_as : (c d : List ℕ) → length d ≡ length c → Held t i c → Held t i d
  held_as c d e h = omega arith

  -- a write of a word keeps the records
  held_put : (c : List ℕ) (w x : ℕ) → Held t i c → Held t i (put_field t c i w x)
  held_put c w x h = held_as c (put_field t c i w x) (put_length t c i w x) h

  -- a word that was written is read
  -- where the record has it and the list holds the record
  pub word_back : (c : List ℕ) (w x : ℕ) → i < t.count → w < t.width → Held t i c → field t (put_field t c i w x) i w ≡ x
  unfolding index
  word_back c w x h l e = put_same t c i w x (within_yes t i w h l) (let z : t.base + i * t.width + w < length c = omega arith in z)

  -- a write of a word leaves the other words of its record
  pub word_beside : (c : List ℕ) (w x v : ℕ) → (w ≡ v → ⊥) → field t (put_field t c i w x) i v ≡ field t c i v
  word_beside c w x v n = put_other t c i w x i v (λ e. n e.1)

  -- a write of a place leaves the words before it and after it
  pub place_beside : (c : List ℕ) (w : ℕ) (p : Place) (v : ℕ) → (w ≤ v → v < w + 5 → ⊥) → field t (put_place t c i w p) i v ≡ field t c i v
  unfolding put_place
  place_beside c w p v n =
      word_beside _ (w + 4) _ v (λ e. n (omega arith) (omega arith))
      ∙ word_beside _ (w + 3) _ v (λ e. n (omega arith) (omega arith))
      ∙ word_beside _ (w + 2) _ v (λ e. n (omega arith) (omega arith))
      ∙ word_beside _ (w + 1) _ v (λ e. n (omega arith) (omega arith))
      ∙ word_beside _ w _ v (λ e. n (omega arith) (omega arith))

  -- a place that was written is read
  -- each of its words is written once, and the later writes leave it
  pub place_back : (c : List ℕ) (w : ℕ) (p : Place) → i < t.count → w + 5 ≤ t.width → Held t i c → place_in t (put_place t c i w p) i w ≡ p
  unfolding put_place place_in
  place_back c w p h l e = λ j. record {
    identifier = (word_beside c4 (w + 4) x4 w (λ q. omega arith)
        ∙ word_beside c3 (w + 3) x3 w (λ q. omega arith)
        ∙ word_beside c2 (w + 2) x2 w (λ q. omega arith)
        ∙ word_beside c1 (w + 1) x1 w (λ q. omega arith)
        ∙ word_back c w x0 h (omega arith) e) j;
    effect = (word_beside c4 (w + 4) x4 (w + 1) (λ q. omega arith)
        ∙ word_beside c3 (w + 3) x3 (w + 1) (λ q. omega arith)
        ∙ word_beside c2 (w + 2) x2 (w + 1) (λ q. omega arith)
        ∙ word_back c1 (w + 1) x1 h (omega arith) e1) j;
    reactive = (word_beside c4 (w + 4) x4 (w + 2) (λ q. omega arith)
        ∙ word_beside c3 (w + 3) x3 (w + 2) (λ q. omega arith)
        ∙ word_back c2 (w + 2) x2 h (omega arith) e2) j;
    span = record {
      start = (word_beside c4 (w + 4) x4 (w + 3) (λ q. omega arith)
          ∙ word_back c3 (w + 3) x3 h (omega arith) e3) j;
      end = word_back c4 (w + 4) x4 h (omega arith) e4 j;
    };
  }
    where
      x0 : ℕ
      x0 = p.identifier

      x1 : ℕ
      x1 = p.effect

      x2 : ℕ
      x2 = p.reactive

      x3 : ℕ
      x3 = p.span.start

      x4 : ℕ
      x4 = p.span.end

      c1 : List ℕ
      c1 = put_field t c i w x0

      c2 : List ℕ
      c2 = put_field t c1 i (w + 1) x1

      c3 : List ℕ
      c3 = put_field t c2 i (w + 2) x2

      c4 : List ℕ
      c4 = put_field t c3 i (w + 3) x3

      e1 : Held t i c1
      e1 = held_put c w x0 e

      e2 : Held t i c2
      e2 = held_put c1 (w + 1) x1 e1

      e3 : Held t i c3
      e3 = held_put c2 (w + 2) x2 e2

      e4 : Held t i c4
      e4 = held_put c3 (w + 3) x3 e3

  -- a write of a run leaves the words before it
  pub run_beside : (c : List ℕ) (w k : ℕ) (ps : List Place) (v : ℕ) → v < w + k * 5 → field t (put_places t c i w k ps) i v ≡ field t c i v
  unfolding put_places
  run_beside c w k [] v h = refl
  run_beside c w k (p ∷ ps) v h =
      run_beside (put_place t c i (w + k * 5) p) w (suc k) ps v (let z : v < w + suc k * 5 = omega arith in z) ∙ place_beside c (w + k * 5) p v (λ a b. omega arith)

  -- a place whose five words are the same is the same
  -- words elsewhere do not matter
  pub place_same : (c d : List ℕ) (w : ℕ) → ((v : ℕ) → w ≤ v → v < w + 5 → field t d i v ≡ field t c i v) → place_in t d i w ≡ place_in t c i w
  unfolding place_in
  place_same c d w h = λ j. record {
    identifier = h w (omega arith) (omega arith) j;
    effect = h (w + 1) (omega arith) (omega arith) j;
    reactive = h (w + 2) (omega arith) (omega arith) j;
    span = record { start = h (w + 3) (omega arith) (omega arith) j; end = h (w + 4) (omega arith) (omega arith) j };
  }

  -- a run that was written is read
  pub run_back : (c : List ℕ) (w k : ℕ) (ps : List Place) → i < t.count → w + (k + length ps) * 5 ≤ t.width → Held t i c → places_in t (put_places t c i w k ps) i w k (length ps) ≡ ps
  unfolding places_in put_places
  run_back c w k [] h l e = refl
  run_back c w k (p ∷ ps) h l e =
      ap₂ (λ (q : Place) (qs : List Place). q ∷ qs)
      (place_same (put_place t c i (w + k * 5) p) (put_places t (put_place t c i (w + k * 5) p) i w (suc k) ps) (w + k * 5)
      (λ v a b. run_beside (put_place t c i (w + k * 5) p) w (suc k) ps v (let z : v < w + suc k * 5 = omega arith in z))
      ∙ place_back c (w + k * 5) p h (let z : w + k * 5 + 5 ≤ t.width = room in z) e)
      (run_back (put_place t c i (w + k * 5) p) w (suc k) ps h (let z : w + (suc k + length ps) * 5 ≤ t.width = omega arith in z)
      (held_as c (put_place t c i (w + k * 5) p) (place_length t c i (w + k * 5) p) e))
    where
      room : w + k * 5 + 5 ≤ t.width
      room = let z : w + (k + suc (length ps)) * 5 ≤ t.width = l in omega arith
