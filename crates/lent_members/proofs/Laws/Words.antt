-- What the search of the 16 words of a set in hand finds, and the sum of the bits of the 16 words of a row. Assumes nothing.
use Rattle.std.specs.Prelude.{ℕ, zero, suc, ◌+◌, ◌*◌, ◌^◌, ◌<◌, ◌≡◌, refl, Bool, true, false, List, length, get_or, eqb}
use Rattle.std.specs.Int.Count.{ones}
use Rattle.std.specs.Bool.{MatchBool}
use Rattle.std.specs.List.{range_with_len, sum_by, AllWithin, HoldsAt}
use Rattle.std.proofs.Common.{arith, sym, ap, ◌∙◌}
use Rattle.std.proofs.lemmas.List.FromFn.{length-range_with_len, get_or-range_with_len}
use Rattle.std.proofs.lemmas.List.Sums.{sum_by-cons}
use Rattle.lent_sets.specs.Rows.{number, row_word, row_number}
use Rattle.lent_sets.proofs.Laws.Number.{number_ones}
use Rattle.lent_sets.proofs.Laws.Code.{empty_yes, empty_no}

at : (k : ℕ) → k < 16 → get_or (range_with_len 0 16) k 0 ≡ k
at k h = get_or-range_with_len 0 16 k 0 h ∙ (let z : 0 + k ≡ k = omega arith in z)

module _ (l : List ℕ) (fits : (k : ℕ) → get_or l k 0 < 2 ^ 64) where
  pub empty_is : (r : Bool) → MatchBool r (AllWithin (λ w. get_or l w 0 ≡ 0) (range_with_len 0 16) 0 (length (range_with_len 0 16))) ((k : ℕ) × (k < length (range_with_len 0 16)) × HoldsAt (λ w. get_or l w 0 ≡ 0 → ⊥) (range_with_len 0 16) k) → r ≡ eqb (number 16 l 0) 0
  empty_is true h = let e = length-range_with_len 0 16 in empty_yes l (λ k b. sym (ap (λ (w : ℕ). get_or l w 0) (at k b)) ∙ h k 0 (omega arith) (omega arith))
  empty_is false h =
      let e = length-range_with_len 0 16 in
      let m = h.1 in
      let b : h.0 < 16 = omega arith in
      empty_no l h.0 (get_or l h.0 0) b refl (fits h.0) (λ z. h.2 0 (ap (λ (w : ℕ). get_or l w 0) (at h.0 b) ∙ z))

-- ---- the bits of a row

module _ (rs : List ℕ) (i : ℕ) (fits : (k : ℕ) → get_or rs k 0 < 2 ^ 64) where
  bits_from : (n w : ℕ) → sum_by (λ k. ones (row_word rs i k)) (range_with_len w n) ≡ ones (number n rs (i * 16 + w))
  unfolding row_word number ones
  bits_from zero w = refl
  bits_from (suc n) w =
      let p : suc (i * 16 + w) ≡ i * 16 + (w + 1) = omega arith in
      sum_by-cons (λ k. ones (row_word rs i k)) w (range_with_len (w + 1) n)
      ∙ ap (λ (x : ℕ). ones (get_or rs (i * 16 + w) 0) + x) (bits_from n (w + 1) ∙ ap (λ (k : ℕ). ones (number n rs k)) (sym p))
      ∙ sym (number_ones n rs (i * 16 + w) (get_or rs (i * 16 + w) 0) refl (fits (i * 16 + w)))

  pub bits_are : sum_by (λ k. ones (row_word rs i k)) (range_with_len 0 16) ≡ ones (row_number rs i)
  unfolding row_number
  bits_are = bits_from 16 0 ∙ ap (λ (k : ℕ). ones (number 16 rs k)) (let z : i * 16 + 0 ≡ i * 16 = omega arith in z)
