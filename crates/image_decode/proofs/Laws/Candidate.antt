-- That a candidate is written as its effect. Assumes nothing.
use Prim.Native.Nat.{ℕ, zero, suc}
use Rattle.std.specs.Prelude.{◌≡◌, refl, List, length, true, false}
use Rattle.std.proofs.Math.Path.{sym, ap}
use Rattle.std.proofs.Common.{eq-eqb, eqb-true}
use Rattle.std.proofs.Math.ListN.{get_or}
use Rattle.def_effects.specs.declared.Place.{Place}
use Rattle.def_effects.specs.Effects.{CreateFunction, Render}
use Rattle.lent_tables.specs.declared.Table.{Table}
use Rattle.lent_tables.specs.Words.{put_field, put_place, put_places}
use Rattle.lent_effects.specs.declared.AliasingEffect.{AliasingEffect as Head}
use Rattle.lent_effects.specs.Records.{effect_with, put_effect}
use Rattle.def_image.specs.Layout.{cell, first_place, second_place, function, captures_first, captures_count}
use Rattle.def_image.specs.Refusals.{creates_function}
use Rattle.base_tests.proofs.Laws.Bool.{never}
use Rattle.def_image.specs.Decode.{list_from, place_at, places_from, makers, effect_at}
use Rattle.image_decode.specs.Decoded.{decoded_candidate, heads_at, head_at}
use Rattle.lent_layout.specs.Layout.{candidate_table}

-- ---- a candidate, written

-- the effect of a head is the image's, where it is no CreateFunction: code by code
same_effect : (im : List ℕ) (k : ℕ) (cs : List Place) (n : ℕ) → (n ≡ 13 → ⊥)
    → effect_with (get_or (heads_at im k) n (Head.Render (place_at im (first_place im k)))) cs ≡ get_or (makers im) n (λ j. Render (place_at im (first_place im j))) k
unfolding heads_at makers effect_with
same_effect im k cs zero d = refl
same_effect im k cs (suc zero) d = refl
same_effect im k cs (suc (suc zero)) d = refl
same_effect im k cs (suc (suc (suc zero))) d = refl
same_effect im k cs (suc (suc (suc (suc zero)))) d = refl
same_effect im k cs (suc (suc (suc (suc (suc zero))))) d = refl
same_effect im k cs (suc (suc (suc (suc (suc (suc zero)))))) d = refl
same_effect im k cs (suc (suc (suc (suc (suc (suc (suc zero))))))) d = refl
same_effect im k cs (suc (suc (suc (suc (suc (suc (suc (suc zero)))))))) d = refl
same_effect im k cs (suc (suc (suc (suc (suc (suc (suc (suc (suc zero))))))))) d = refl
same_effect im k cs (suc (suc (suc (suc (suc (suc (suc (suc (suc (suc zero)))))))))) d = refl
same_effect im k cs (suc (suc (suc (suc (suc (suc (suc (suc (suc (suc (suc zero))))))))))) d = refl
same_effect im k cs (suc (suc (suc (suc (suc (suc (suc (suc (suc (suc (suc (suc zero)))))))))))) d = refl
same_effect im k cs (suc (suc (suc (suc (suc (suc (suc (suc (suc (suc (suc (suc (suc zero))))))))))))) d = absurd (d refl)
same_effect im k cs (suc (suc (suc (suc (suc (suc (suc (suc (suc (suc (suc (suc (suc (suc zero)))))))))))))) d = refl
same_effect im k cs (suc (suc (suc (suc (suc (suc (suc (suc (suc (suc (suc (suc (suc (suc (suc zero))))))))))))))) d = refl
same_effect im k cs (suc (suc (suc (suc (suc (suc (suc (suc (suc (suc (suc (suc (suc (suc (suc (suc zero)))))))))))))))) d = refl
same_effect im k cs (suc (suc (suc (suc (suc (suc (suc (suc (suc (suc (suc (suc (suc (suc (suc (suc (suc n))))))))))))))))) d = refl

-- a candidate that is no CreateFunction is written
pub candidate_plain : (im xs : List ℕ) (k : ℕ) (cs : List Place) → creates_function im k ≡ false → put_effect candidate_table xs k (effect_with (head_at im k) cs) ≡ decoded_candidate im k xs
unfolding decoded_candidate effect_at head_at creates_function
candidate_plain im xs k cs e = ap (put_effect candidate_table xs k) (same_effect im k cs (cell im 5 k 0) (λ z. never _ (eq-eqb (cell im 5 k 0) 13 z) e))

-- a CreateFunction is written
pub candidate_creation : (im xs : List ℕ) (k : ℕ) → creates_function im k ≡ true
    → put_effect candidate_table xs k (CreateFunction (places_from im (captures_first im k) (captures_count im k)) (function im k) (place_at im (second_place im k))) ≡ decoded_candidate im k xs
unfolding decoded_candidate effect_at makers creates_function
candidate_creation im xs k e =
    ap (λ (m : ℕ). put_effect candidate_table xs k (get_or (makers im) m (λ j. Render (place_at im (first_place im j))) k)) (sym (eqb-true (cell im 5 k 0) 13 e))

-- a run of places is as long as its count
pub run_length : {A : Type 0} (n k : ℕ) (f : ℕ → A) → length (list_from n k f) ≡ n
unfolding list_from
run_length zero k f = refl
run_length (suc n) k f = ap suc (run_length n (suc k) f)

-- the writes of a CreateFunction
pub creation_is : (t : Table) (im c c1 c2 c3 c4 c5 : List ℕ) (k i a n f : ℕ) (q : Place) → i ≡ k → a ≡ cell im 5 k 6 → n ≡ cell im 5 k 7
    → c1 ≡ put_field t c i 0 13 → q ≡ place_at im (cell im 5 k 2) → c2 ≡ put_place t c1 i 6 q → f ≡ cell im 5 k 5 → c3 ≡ put_field t c2 i 14 f → c4 ≡ put_field t c3 i 17 n
    → c5 ≡ put_places t c4 i 18 0 (places_from im a n)
    → c5 ≡ put_effect t c k (CreateFunction (places_from im (cell im 5 k 6) (cell im 5 k 7)) (cell im 5 k 5) (place_at im (cell im 5 k 2)))
unfolding put_effect places_from
creation_is t im c c1 c2 c3 c4 c5 k i a n f q ei ea en h1 eq h2 ef h3 h4 h5 =
    let l : length (list_from (cell im 5 k 7) (cell im 5 k 6) (place_at im)) ≡ cell im 5 k 7 = run_length (cell im 5 k 7) (cell im 5 k 6) (place_at im) in
    cc
