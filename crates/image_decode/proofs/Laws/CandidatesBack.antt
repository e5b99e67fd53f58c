-- What the decoded candidates hold is what image `Decode` says: the effects of its candidates, in order. Assumes nothing.
use Rattle.std.specs.Prelude.{ℕ, zero, suc, ◌+◌, ◌*◌, ◌≤◌, ◌<◌, ◌≡◌, refl, List, ◌∷◌, length, get_or}
use Rattle.std.proofs.Common.{zero-le, sym, ap, ap₂, ◌∙◌, subst, ⊎_elim, eq-or-lt_of_le, arith}
use Rattle.def_effects.specs.Effects.{AliasingEffect, Render}
use Rattle.lent_tables.specs.declared.Table.{Table}
use Rattle.lent_effects.specs.Records.{effect_in, put_effect}
use Rattle.lent_effects.proofs.Laws.EffectFrames.{effect_cong, effect_length, effect_record}
use Rattle.lent_context.specs.Lent.{effects_in}
use Rattle.def_image.specs.Layout.{Image, code, first_place, captures_first, captures_count}
use Rattle.def_image.specs.Decode.{list_from, place_at, places_from, makers, effect_at}
use Rattle.image_decode.specs.Decoded.{after, decoded_candidate, decoded_candidates}
use Rattle.image_decode.proofs.Laws.Candidate.{run_length}
use Rattle.image_decode.proofs.Laws.StateBack.{after_length}
use Rattle.lent_effects.proofs.Laws.Back.{capture_count, effect_back}
use Rattle.lent_layout.specs.Layout.{candidate_table}

-- a candidate of an image in range has at most sixteen captures
-- "first and count of captures (16)"
captures_few : (im : Image) (k : ℕ) → captures_count im k ≤ 16 → (n : ℕ) → capture_count (get_or (makers im) n (λ j. Render (place_at im (first_place im j))) k) ≤ 16
unfolding makers places_from
captures_few im k h zero = zero-le
captures_few im k h (suc zero) = zero-le
captures_few im k h (suc (suc zero)) = zero-le
captures_few im k h (suc (suc (suc zero))) = zero-le
captures_few im k h (suc (suc (suc (suc zero)))) = zero-le
captures_few im k h (suc (suc (suc (suc (suc zero))))) = zero-le
captures_few im k h (suc (suc (suc (suc (suc (suc zero)))))) = zero-le
captures_few im k h (suc (suc (suc (suc (suc (suc (suc zero))))))) = zero-le
captures_few im k h (suc (suc (suc (suc (suc (suc (suc (suc zero)))))))) = zero-le
captures_few im k h (suc (suc (suc (suc (suc (suc (suc (suc (suc zero))))))))) = zero-le
captures_few im k h (suc (suc (suc (suc (suc (suc (suc (suc (suc (suc zero)))))))))) = zero-le
captures_few im k h (suc (suc (suc (suc (suc (suc (suc (suc (suc (suc (suc zero))))))))))) = zero-le
captures_few im k h (suc (suc (suc (suc (suc (suc (suc (suc (suc (suc (suc (suc zero)))))))))))) = zero-le
captures_few im k h (suc (suc (suc (suc (suc (suc (suc (suc (suc (suc (suc (suc (suc zero))))))))))))) = subst (λ (x : ℕ). x ≤ 16) (sym (run_length (captures_count im k) (captures_first im k) (place_at im))) h
captures_few im k h (suc (suc (suc (suc (suc (suc (suc (suc (suc (suc (suc (suc (suc (suc zero)))))))))))))) = zero-le
captures_few im k h (suc (suc (suc (suc (suc (suc (suc (suc (suc (suc (suc (suc (suc (suc (suc zero))))))))))))))) = zero-le
captures_few im k h (suc (suc (suc (suc (suc (suc (suc (suc (suc (suc (suc (suc (suc (suc (suc (suc zero)))))))))))))))) = zero-le
captures_few im k h (suc (suc (suc (suc (suc (suc (suc (suc (suc (suc (suc (suc (suc (suc (suc (suc (suc n))))))))))))))))) = zero-le

-- a candidate put keeps the length of the list
candidate_length : (im : Image) (k : ℕ) (xs : List ℕ) → length (decoded_candidate im k xs) ≡ length xs
unfolding decoded_candidate
candidate_length im k xs = effect_length candidate_table xs k (effect_at im k)

-- each of the first n candidates is read back
candidate_back : (im : Image) (xs : List ℕ) (n : ℕ) → n * 98 ≤ length xs → n ≤ 64 → ((k : ℕ) → k < n → captures_count im k ≤ 16) → (k : ℕ) → k < n → effect_in candidate_table (after (decoded_candidate im) n xs) k ≡ effect_at im k
unfolding after decoded_candidate effect_at
candidate_back im xs zero h m r k l = absurd (omega arith)
candidate_back im xs (suc n) h m r k l =
    ⊎_elim
    (λ e. ap (effect_in candidate_table (put_effect candidate_table (after (decoded_candidate im) n xs) n (effect_at im n))) e
    ∙ effect_back candidate_table (after (decoded_candidate im) n xs) n refl (omega arith)
    (let z : length (after (decoded_candidate im) n xs) ≡ length xs = after_length (decoded_candidate im) (candidate_length im) n xs in let y : 0 + n * 98 + 98 ≤ length (after (decoded_candidate im) n xs) = omega arith in y)
    (effect_at im n)
    (captures_few im n (r n (omega arith)) (code im n))
    ∙ ap (effect_at im) (sym e))
    (λ g. effect_cong candidate_table (after (decoded_candidate im) n xs) (put_effect candidate_table (after (decoded_candidate im) n xs) n (effect_at im n)) k
    (λ v. effect_record candidate_table (after (decoded_candidate im) n xs) n (effect_at im n) k v (λ e. omega arith))
    ∙ candidate_back im xs n (omega arith) (omega arith) (λ j q. r j (omega arith)) k g)
    (eq-or-lt_of_le (let z : k ≤ n = omega arith in z))

-- effects that are read one by one are read as a list
effects_listed : (t : Table) (c : List ℕ) (f : ℕ → AliasingEffect) (m k : ℕ) → ((j : ℕ) → k ≤ j → j < k + m → effect_in t c j ≡ f j) → effects_in t c k m ≡ list_from m k f
unfolding effects_in list_from
effects_listed t c f zero k h = refl
effects_listed t c f (suc m) k h =
    ap₂ (λ (x : AliasingEffect) (xs : List AliasingEffect). x ∷ xs) (h k (omega arith) (omega arith)) (effects_listed t c f m (suc k) (λ j a b. h j (omega arith) (omega arith)))

-- the candidates of an image in range are read back as its instruction's
-- at most 64, of at most sixteen captures
pub candidates_back : (im : Image) (xs : List ℕ) (n : ℕ) → n * 98 ≤ length xs → n ≤ 64 → ((k : ℕ) → k < n → captures_count im k ≤ 16) → effects_in candidate_table (decoded_candidates im n xs) 0 n ≡ list_from n 0 (effect_at im)
unfolding decoded_candidates
candidates_back im xs n h m r = effects_listed candidate_table (after (decoded_candidate im) n xs) (effect_at im) n 0 (λ j a b. candidate_back im xs n h m r j (omega arith))
