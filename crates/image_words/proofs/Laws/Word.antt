-- The words of an image by their bytes: the ways through the code. Assumes nothing.
use Rattle.std.specs.Prelude.{ℕ, zero, suc, ◌+◌, ◌*◌, ◌/◌, ◌≤◌, ◌<◌, ◌≡◌, refl, List, [], ◌∷◌, length, get_or}
use Rattle.std.proofs.Common.{arith, ◌∙◌}
use Rattle.def_image.specs.Layout.{words_of, word}

-- ---- a word

-- four bytes from i on as a word
-- "Little-endian u32 words"
unfoldable pub four_at : List ℕ → ℕ → ℕ
four_at bs i = get_or bs i 0 + 256 * (get_or bs (i + 1) 0 + 256 * (get_or bs (i + 2) 0 + 256 * get_or bs (i + 3) 0))

-- past the last whole word stands 0
pub word_out : (bs : List ℕ) (k : ℕ) → length bs / 4 ≤ k → 0 ≡ word (words_of bs) k
unfolding word words_of
word_out [] k h = refl
word_out (a ∷ []) k h = refl
word_out (a ∷ b ∷ []) k h = refl
word_out (a ∷ b ∷ c ∷ []) k h = refl
word_out (a ∷ b ∷ c ∷ d ∷ bs) zero h = absurd (let g : length (a ∷ b ∷ c ∷ d ∷ bs) ≡ suc (suc (suc (suc (length bs)))) = refl in omega arith)
word_out (a ∷ b ∷ c ∷ d ∷ bs) (suc k) h = word_out bs k (let g : length (a ∷ b ∷ c ∷ d ∷ bs) ≡ suc (suc (suc (suc (length bs)))) = refl in omega arith)

-- the four bytes past four others
four_past : (a b c d : ℕ) (bs : List ℕ) (m n : ℕ) → n ≡ 4 + m → four_at (a ∷ b ∷ c ∷ d ∷ bs) n ≡ four_at bs m
unfolding four_at
four_past a b c d bs m n e =
    let o : n ≡ suc (suc (suc (suc m))) = omega arith in
    let p : n + 1 ≡ suc (suc (suc (suc (m + 1)))) = omega arith in
    let q : n + 2 ≡ suc (suc (suc (suc (m + 2)))) = omega arith in
    let r : n + 3 ≡ suc (suc (suc (suc (m + 3)))) = omega arith in
    rw (p, q, r, o)

-- a whole word is its four bytes
-- word k starts at byte 4 k
pub word_in : (bs : List ℕ) (k : ℕ) → k < length bs / 4 → four_at bs (4 * k) ≡ word (words_of bs) k
unfolding word words_of four_at
word_in [] k h = absurd (omega arith)
word_in (a ∷ []) k h = absurd (let g : length (a ∷ []) ≡ 1 = refl in omega arith)
word_in (a ∷ b ∷ []) k h = absurd (let g : length (a ∷ b ∷ []) ≡ 2 = refl in omega arith)
word_in (a ∷ b ∷ c ∷ []) k h = absurd (let g : length (a ∷ b ∷ c ∷ []) ≡ 3 = refl in omega arith)
word_in (a ∷ b ∷ c ∷ d ∷ bs) zero h = refl
word_in (a ∷ b ∷ c ∷ d ∷ bs) (suc k) h =
    four_past a b c d bs (4 * k) (4 * suc k) (omega arith)
    ∙ word_in bs k (let g : length (a ∷ b ∷ c ∷ d ∷ bs) ≡ suc (suc (suc (suc (length bs)))) = refl in omega arith)
