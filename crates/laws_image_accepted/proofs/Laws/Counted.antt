-- The words of an accepted image's call say how many candidates there are, and no list has the wrong length. Assumes nothing.
use Prim.Native.Nat.{ℕ, ◌+◌, ◌≤◌, ◌*◌, ◌/◌, ◌%◌}
use native.Mathlib.Omega.{arith}
use Rattle.std.specs.Prelude.{◌≡◌, Bool, ◌||◌, eqb}
use Rattle.std.proofs.Common.{sym, ◌∙◌, eq-eqb}
use Rattle.std.proofs.Math.Path.{ap}
use Rattle.std.proofs.Math.Bool.{false, not}
use Rattle.std.proofs.Math.ListN.{length}
use Rattle.lent_copies.specs.Copies.{zeros}
use Rattle.lent_copies.proofs.Laws.Copy.{zeros_length}
use Rattle.base_tests.proofs.Laws.Bool.{or_neither}
use Rattle.def_image.specs.Layout.{Image, identifiers, candidates, count_of}
use Rattle.def_image.specs.Refusals.{refusal_of_words}
use Rattle.lent_layout.specs.Context.{ContextWords}
use Rattle.refuse_entries.specs.Words as Words
use Rattle.call_undo.specs.Saves.{saved_words}
use Rattle.call_outcome.specs.Attempts.{at_most, lengths_of}
use Rattle.call_outcome.specs.Calls.{room_for, context_wrong, lengths_wrong, candidate_count}
use Rattle.call_outcome.proofs.Laws.Class.{most_within, full_right}
use Rattle.image_outcome.proofs.Laws.Full.{Full, lengths_full}
use Rattle.laws_image_accepted.proofs.Laws.Facts.{few_identifiers}
use Rattle.laws_image_accepted.proofs.Laws.Lengths.{lent_sets, lent_context, lent_candidates, lent_call, context_full, sets_length, sets_identifiers, candidates_length}

-- a length that is the most
most_same : (limit n : ℕ) → n ≡ limit → at_most limit n ≡ limit
most_same limit n e = sym (most_within limit n (omega arith)) ∙ e

-- a context with room for all has so many words to save
full_saved : (c : ContextWords) → Full c → saved_words (lengths_of c) ≡ 23040
full_saved c f =
    let a = most_same 5120 (length c.contexts) f.contexts in
    let b = most_same 1024 (length c.links) f.links in
    let d = most_same 14336 (length c.keys) f.keys in
    let g = most_same 512 (length c.key_order) f.key_order in
    let h = most_same 2048 (length c.effect_order) f.effect_order in
    omega arith

module _ (im : Image) (ok : refusal_of_words im ≡ 0) where
  -- so their words say how many candidates there are
  pub candidates_count : candidate_count (lent_candidates im) ≡ count_of im candidates
  candidates_count = ap (λ (x : ℕ). x / 98) (candidates_length im ok) ∙ (let z : 98 * count_of im candidates / 98 ≡ count_of im candidates = omega arith in z)

  -- the rows of its sets are those of no more than 512 identifiers
  few_rows : Words.identifiers (lent_sets im) ≤ 512
  few_rows = let a = few_identifiers im ok in let b = sets_identifiers im ok in omega arith

  -- no list has the wrong length
  -- "1 a lent slice or image has the wrong length"
  pub lengths_right : lengths_wrong (lent_call im) ≡ false
  unfolding lengths_wrong
  lengths_right =
      or_neither (context_wrong (Words.identifiers (lent_sets im)) (room_for (lent_context im) (lent_candidates im)) (lent_context im)) _
      (full_right (Words.identifiers (lent_sets im)) (lent_context im) (lent_candidates im) few_rows (lengths_full (lent_context im) (context_full im)))
      (right (length (lent_candidates im) % 98) 0 _ (ap (λ (x : ℕ). x % 98) (candidates_length im ok) ∙ (let z : 98 * count_of im candidates % 98 ≡ 0 = omega arith in z))
      (right (length (zeros 109760)) 109760 _ (zeros_length 109760)
      (right (length (zeros 23040)) (saved_words (lengths_of (lent_context im))) _ (zeros_length 23040 ∙ sym (full_saved (lent_context im) (context_full im)))
      (ap not (eq-eqb (length (zeros (1024 + 16 * count_of im identifiers))) (1024 + length (lent_sets im)) (zeros_length (1024 + 16 * count_of im identifiers) ∙ ap (λ (x : ℕ). 1024 + x) (sym (sets_length im ok))))))))
    where
      right : (a b : ℕ) (x : Bool) → a ≡ b → x ≡ false → (not (eqb a b) || x) ≡ false
      right a b x e h = or_neither (not (eqb a b)) x (ap not (eq-eqb a b e)) h
