-- A row has a bit that another lacks where one of its words has. Assumes nothing.
use Rattle.std.specs.Prelude.{ℕ, ◌+◌, ◌*◌, ◌^◌, ◌<◌, ◌≡◌, refl, Bool, true, false, not, List, eqb, get_or}
use Rattle.std.proofs.Common.{sym, ap, eq-eqb, ne_eqb, ⊎_elim}
use Rattle.std.specs.Int.Bits.{bit_or}
use Rattle.base_tests.specs.Tests.{any_below}
use Rattle.base_tests.proofs.Laws.Bool.{never}
use Rattle.base_tests.proofs.Laws.Order.{same_or_not}
use Rattle.lent_sets.specs.Rows.{row_word, row_number}
use Rattle.state_adds.proofs.Laws.Code.{bits_same, bits_new, bits_none}
use Rattle.base_tests.proofs.Laws.Below.{any_no, any_at}

-- whether word w of the second row has a bit that the first row's lacks
abbrev pub word_adds : List ℕ → List ℕ → ℕ → ℕ → Bool
word_adds rs qs i w = not (eqb (bit_or (row_word rs i w) (row_word qs i w)) (row_word rs i w))

module _ (rs qs : List ℕ) (i : ℕ) (p : (k : ℕ) → get_or rs k 0 < 2 ^ 64) (q : (k : ℕ) → get_or qs k 0 < 2 ^ 64) where
  pub any_bits : any_below 16 (word_adds rs qs i) ≡ not (eqb (bit_or (row_number rs i) (row_number qs i)) (row_number rs i))
  unfolding row_word
  any_bits = go (any_below 16 (word_adds rs qs i)) refl
    where
      same : (w : ℕ) → word_adds rs qs i w ≡ false → bit_or (row_word rs i w) (row_word qs i w) ≡ row_word rs i w
      same w e = ⊎_elim (λ s. s) (λ n. never (word_adds rs qs i w) (ap not (ne_eqb _ _ n)) e) (same_or_not (bit_or (row_word rs i w) (row_word qs i w)) (row_word rs i w))

      number : Bool
      number = not (eqb (bit_or (row_number rs i) (row_number qs i)) (row_number rs i))

      none : number ≡ false → (w : ℕ) → w < 16 → word_adds rs qs i w ≡ false
      none z w h = ⊎_elim
          (λ s. ap not (eq-eqb _ _ s))
          (λ n. never number (sym (bits_new rs qs i w (row_word rs i w) (row_word qs i w) refl (p (i * 16 + w)) refl (q (i * 16 + w)) h n)) z)
          (same_or_not (bit_or (row_word rs i w) (row_word qs i w)) (row_word rs i w))

      lacks : (b : Bool) → number ≡ b → any_below 16 (word_adds rs qs i) ≡ true → true ≡ b
      lacks true z e = refl
      lacks false z e = never (any_below 16 (word_adds rs qs i)) e (any_no 16 (word_adds rs qs i) (none z))

      go : (b : Bool) → any_below 16 (word_adds rs qs i) ≡ b → b ≡ number
      go false e = bits_none rs qs i (λ w h. bits_same rs qs i w (row_word rs i w) (row_word qs i w) refl (p (i * 16 + w)) refl (q (i * 16 + w)) h (same w (any_at 16 (word_adds rs qs i) e w h)))
      go true e = lacks number refl e
