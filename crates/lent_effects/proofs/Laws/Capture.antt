-- The loop over captures, and that places which were copied are read. Assumes nothing.
use Prim.Native.Nat.{ℕ, suc, ◌+◌, ◌-◌, ◌*◌, ◌≤◌, ◌<◌}
use Rattle.std.specs.Prelude.{◌≡◌, set}
use Rattle.std.proofs.Math.Path.{refl, sym, ap, ap₂}
use Rattle.std.proofs.Common.{◌∙◌}
use mathlib.Core.List.{List}
use native.Mathlib.Omega.{arith}
use Rattle.std.proofs.Math.ListN.{length, length-set}
use Rattle.def_effects.specs.declared.Place.{Place}
use Rattle.lent_tables.specs.declared.Table.{Table}
use Rattle.lent_tables.specs.Words.{field, copied_words, place_in, put_place, places_in, put_places}
use Rattle.lent_tables.proofs.Laws.Word.{places_more, places_none}
use Rattle.lent_tables.proofs.Laws.Copy.{copied_word, copied_first, copied_places}
use Rattle.lent_effects.specs.Records.{counted_places, copied_captures, captures_of}
use Rattle.lent_layout.specs.Layout.{one_run}

-- ---- the loop over captures

-- a loop that writes captures begins with all of them
pub put_start : (t : Table) (c : List ℕ) (i : ℕ) (ws : List ℕ) (n : ℕ) → n ≡ field one_run ws 0 0 → put_places t c i 18 0 (places_in one_run ws 0 1 0 (n - 0)) ≡ put_places t c i 18 0 (captures_of ws)
unfolding counted_places
put_start t c i ws n h =
    let e : n - 0 ≡ field one_run ws 0 0 = omega arith in
    ap (λ (m : ℕ). put_places t c i 18 0 (places_in one_run ws 0 1 0 m)) e

-- a turn writes one of them
pub put_more : (t : Table) (c d : List ℕ) (i : ℕ) (ws : List ℕ) (k n : ℕ) (p : Place) → k < n → p ≡ place_in one_run ws 0 (1 + k * 5) → d ≡ put_place t c i (18 + k * 5) p
    → put_places t d i 18 (k + 1) (places_in one_run ws 0 1 (k + 1) (n - (k + 1))) ≡ put_places t c i 18 k (places_in one_run ws 0 1 k (n - k))
unfolding put_places
put_more t c d i ws k n p l e g =
    let s : k + 1 ≡ suc k = omega arith in
    ap₂ (λ (x : List ℕ) (y : ℕ). put_places t x i 18 y (places_in one_run ws 0 1 (k + 1) (n - (k + 1)))) (g ∙ ap (put_place t c i (18 + k * 5)) e) s
    ∙ ap (put_places t c i 18 k) (sym (places_more one_run ws 0 1 k n l))

-- at the end none is left
pub put_none : (t : Table) (c : List ℕ) (i : ℕ) (ws : List ℕ) (k n : ℕ) → n ≤ k → c ≡ put_places t c i 18 k (places_in one_run ws 0 1 k (n - k))
unfolding put_places
put_none t c i ws k n l = ap (put_places t c i 18 k) (sym (places_none one_run ws 0 1 k n l))

-- ---- places that were copied are read

-- from record i of a table
module _ (t : Table) (c : List ℕ) (i : ℕ) where
  -- a count and sixteen places that were copied to a slice are the record's
  pub run_copied : (w : ℕ) (ws : List ℕ) → t.width ≡ w + 81 → length ws ≡ 81 → captures_of (copied_words t c i w 81 ws 0) ≡ counted_places t c i w
  unfolding counted_places
  run_copied w ws a b =
      copied_places one_run t (copied_words t c i w 81 ws 0) c 0 i 1 (w + 1)
      (λ j. word (1 + j) (w + 1 + j) (omega arith)) 0 (field one_run (copied_words t c i w 81 ws 0) 0 0)
      ∙ ap (places_in t c i (w + 1) 0) (word 0 w (omega arith))
    where
      -- a word of the slice is the record's
      word : (j v : ℕ) → v ≡ w + j → field one_run (copied_words t c i w 81 ws 0) 0 j ≡ field t c i v
      word j v e =
          ap (field one_run (copied_words t c i w 81 ws 0) 0) (let z : j ≡ 0 + j = omega arith in z)
          ∙ copied_word t c i w 81 ws 0 81 refl b a j
          ∙ ap (field t c i) (sym e)

  -- the captures of a slice that record i was copied to are the record's
  pub captures_copied : (ws : List ℕ) → t.width ≡ 98 → length ws ≡ 81 → captures_of (copied_captures t c i ws) ≡ counted_places t c i 17
  captures_copied ws a b = run_copied 17 ws a b

  -- places that were copied behind a count are as many of the record's
  pub places_copied : (w n m : ℕ) (ws : List ℕ) (x : ℕ) → m ≡ 1 + n → length ws ≡ m → t.width ≡ w + n
      → counted_places (record { base = 0; count = 1; width = m }) (copied_words t c i w n (set ws 0 x) 1) 0 0 ≡ places_in t c i w 0 x
  unfolding counted_places
  places_copied w n m ws x e b a =
      copied_places (record { base = 0; count = 1; width = m }) t (copied_words t c i w n (set ws 0 x) 1) c 0 i 1 w
      (copied_word t c i w n (set ws 0 x) 1 m e (length-set ws 0 x ∙ b) a) 0 (field (record { base = 0; count = 1; width = m }) (copied_words t c i w n (set ws 0 x) 1) 0 0)
      ∙ ap (places_in t c i w 0) (copied_first t c i w n ws m x (omega arith) b)
