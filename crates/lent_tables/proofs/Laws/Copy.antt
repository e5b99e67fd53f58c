-- Laws of words that were copied: what a turn of the loop writes, and that a copy reads as the record does. Assumes nothing.
use Rattle.std.specs.Prelude.{ℕ, zero, suc, ◌+◌, ◌-◌, ◌*◌, ◌≤◌, ◌<◌, ◌≡◌, refl, List, ◌∷◌, length, get_or, set}
use Rattle.std.proofs.Common.{sym, ap, ap₂, ◌∙◌, ⊎_elim, arith, length-set, get_or-set_same, get_or-set_other}
use Rattle.base_tests.proofs.Laws.Order.{lt_or_ge}
use Rattle.def_effects.specs.declared.Place.{Place}
use Rattle.lent_tables.specs.declared.Table.{Table}
use Rattle.lent_tables.specs.Words.{index, field, copied_words, place_in, places_in}
use Rattle.lent_tables.proofs.Laws.Word.{within_yes, within_no_word, field_in, field_out, place_of_is}

-- ---- the loop

-- record i of a table
module _ (t : Table) (c : List ℕ) (i : ℕ) where
  -- nothing is copied yet
  pub copied_start : (w n v : ℕ) (vs : List ℕ) → copied_words t c i (w + 0) (n - 0) vs (v + 0) ≡ copied_words t c i w n vs v
  copied_start w n v vs =
      let a : w + 0 ≡ w = omega arith in
      let b : v + 0 ≡ v = omega arith in
      let m : n - 0 ≡ n = omega arith in
      ap₂ (λ (y z : ℕ). copied_words t c i y (n - 0) vs z) a b ∙ ap (λ (y : ℕ). copied_words t c i w y vs v) m

  -- a turn copies one word
  pub copied_more : (w n v k : ℕ) (vs us : List ℕ) (x : ℕ) → k < n → x ≡ field t c i (w + k) → us ≡ set vs (v + k) x
      → copied_words t c i (w + (k + 1)) (n - (k + 1)) us (v + (k + 1)) ≡ copied_words t c i (w + k) (n - k) vs (v + k)
  unfolding copied_words
  copied_more w n v k vs us x l e g =
      let a : w + (k + 1) ≡ suc (w + k) = omega arith in
      let b : v + (k + 1) ≡ suc (v + k) = omega arith in
      let m : suc (n - (k + 1)) ≡ n - k = omega arith in
      ap₂ (λ (y z : ℕ). copied_words t c i y (n - (k + 1)) us z) a b
      ∙ ap (λ (y : List ℕ). copied_words t c i (suc (w + k)) (n - (k + 1)) y (suc (v + k))) (g ∙ ap (set vs (v + k)) e)
      ∙ ap (λ (y : ℕ). copied_words t c i (w + k) y vs (v + k)) m

  -- at the end none is left
  pub copied_none : (w n v k : ℕ) (vs : List ℕ) → n ≤ k → vs ≡ copied_words t c i (w + k) (n - k) vs (v + k)
  unfolding copied_words
  copied_none w n v k vs l =
      let m : 0 ≡ n - k = omega arith in
      ap (λ (y : ℕ). copied_words t c i (w + k) y vs (v + k)) m

  -- ---- the words of a copy

  -- a word before those that are copied stays
  pub copied_before : (w n : ℕ) (vs : List ℕ) (v u : ℕ) → u < v → get_or (copied_words t c i w n vs v) u 0 ≡ get_or vs u 0
  unfolding copied_words
  copied_before w zero vs v u l = refl
  copied_before w (suc n) vs v u l =
      copied_before (suc w) n (set vs v (field t c i w)) (suc v) u (omega arith)
      ∙ get_or-set_other vs v u (field t c i w) 0 (λ e. omega arith)

  -- a word that is copied is the record's
  copied_at : (w n : ℕ) (vs : List ℕ) (v j : ℕ) → v + n ≤ length vs → j < n → get_or (copied_words t c i w n vs v) (v + j) 0 ≡ field t c i (w + j)
  unfolding copied_words
  copied_at w zero vs v j r l = absurd (omega arith)
  copied_at w (suc n) vs v zero r l =
      let a : v + 0 ≡ v = omega arith in
      let b : w ≡ w + 0 = omega arith in
      ap (λ (m : ℕ). get_or (copied_words t c i (suc w) n (set vs v (field t c i w)) (suc v)) m 0) a
      ∙ copied_before (suc w) n (set vs v (field t c i w)) (suc v) v (omega arith)
      ∙ get_or-set_same vs v (field t c i w) 0 (omega arith)
      ∙ ap (field t c i) b
  copied_at w (suc n) vs v (suc j) r l =
      let a : v + suc j ≡ suc v + j = omega arith in
      let b : suc w + j ≡ w + suc j = omega arith in
      let z : length (set vs v (field t c i w)) ≡ length vs = length-set vs v (field t c i w) in
      ap (λ (m : ℕ). get_or (copied_words t c i (suc w) n (set vs v (field t c i w)) (suc v)) m 0) a
      ∙ copied_at (suc w) n (set vs v (field t c i w)) (suc v) j (omega arith) (omega arith)
      ∙ ap (field t c i) b

  -- in a slice of one record, of which the copy is the rest from word v on, each word is the record's
  -- past the end both are 0
  pub copied_word : (w n : ℕ) (vs : List ℕ) (v m : ℕ) → m ≡ v + n → length vs ≡ m → t.width ≡ w + n
      → (j : ℕ) → field (record { base = 0; count = 1; width = m }) (copied_words t c i w n vs v) 0 (v + j) ≡ field t c i (w + j)
  unfolding index
  copied_word w n vs v m e g h j =
      ⊎_elim
      (λ l. field_in (record { base = 0; count = 1; width = m }) (copied_words t c i w n vs v) 0 (v + j) (within_yes (record { base = 0; count = 1; width = m }) 0 (v + j) (omega arith) (omega arith))
      ∙ ap (λ (x : ℕ). get_or (copied_words t c i w n vs v) x 0) (let z : 0 + 0 * m + (v + j) ≡ v + j = omega arith in z)
      ∙ copied_at w n vs v j (omega arith) l)
      (λ l. field_out (record { base = 0; count = 1; width = m }) (copied_words t c i w n vs v) 0 (v + j) (within_no_word (record { base = 0; count = 1; width = m }) 0 (v + j) (omega arith))
      ∙ sym (field_out t c i (w + j) (within_no_word t i (w + j) (omega arith))))
      (lt_or_ge j n)

  -- the word before a copy that begins at word 1 is the one that stood there
  pub copied_first : (w n : ℕ) (vs : List ℕ) (m x : ℕ) → 0 < m → length vs ≡ m → field (record { base = 0; count = 1; width = m }) (copied_words t c i w n (set vs 0 x) 1) 0 0 ≡ x
  unfolding index
  copied_first w n vs m x l g =
      field_in (record { base = 0; count = 1; width = m }) (copied_words t c i w n (set vs 0 x) 1) 0 0 (within_yes (record { base = 0; count = 1; width = m }) 0 0 (omega arith) l)
      ∙ ap (λ (y : ℕ). get_or (copied_words t c i w n (set vs 0 x) 1) y 0) (let z : 0 + 0 * m + 0 ≡ 0 = omega arith in z)
      ∙ copied_before w n (set vs 0 x) 1 0 (omega arith)
      ∙ get_or-set_same vs 0 x 0 (omega arith)

-- ---- the places of a copy

-- two records, of which the one has from word v on what the other has from word w on
module _ (r t : Table) (d c : List ℕ) (a i v w : ℕ) (h : (j : ℕ) → field r d a (v + j) ≡ field t c i (w + j)) where
  -- a place of the one is that of the other
  copied_place : (u : ℕ) → place_in r d a (v + u) ≡ place_in t c i (w + u)
  unfolding place_in
  copied_place u =
      place_of_is t c i (w + u) _ _ _ _ _ (h u)
      (ap (field r d a) (let z : v + u + 1 ≡ v + (u + 1) = omega arith in z) ∙ h (u + 1) ∙ ap (field t c i) (let z : w + (u + 1) ≡ w + u + 1 = omega arith in z))
      (ap (field r d a) (let z : v + u + 2 ≡ v + (u + 2) = omega arith in z) ∙ h (u + 2) ∙ ap (field t c i) (let z : w + (u + 2) ≡ w + u + 2 = omega arith in z))
      (ap (field r d a) (let z : v + u + 3 ≡ v + (u + 3) = omega arith in z) ∙ h (u + 3) ∙ ap (field t c i) (let z : w + (u + 3) ≡ w + u + 3 = omega arith in z))
      (ap (field r d a) (let z : v + u + 4 ≡ v + (u + 4) = omega arith in z) ∙ h (u + 4) ∙ ap (field t c i) (let z : w + (u + 4) ≡ w + u + 4 = omega arith in z))

  -- and so is a run of places
  pub copied_places : (k n : ℕ) → places_in r d a v k n ≡ places_in t c i w k n
  unfolding places_in
  copied_places k zero = refl
  copied_places k (suc n) = ap₂ (λ (p : Place) (ps : List Place). p ∷ ps) (copied_place (k * 5)) (copied_places (suc k) n)
