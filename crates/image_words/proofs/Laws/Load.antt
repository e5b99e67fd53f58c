-- Laws by which the loop that loads the words meets its definition, and that it loads the image whole. Assumes nothing.
use Rattle.std.specs.Prelude.{ℕ, zero, suc, ◌+◌, ◌/◌, ◌≤◌, ◌<◌, ◌≡◌, refl, List, [], ◌∷◌, length, get_or}
use Rattle.std.proofs.Common.{arith, sym, ap, ◌∙◌, ext_get_or}
use Rattle.def_image.specs.Layout.{words_of, word}
use Rattle.def_image.specs.Decode.{list_from}
use Rattle.image_words.specs.Loaded.{loaded}

-- a list made by numbers is as long as was said
pub from_length : (n k : ℕ) (f : ℕ → ℕ) → length (list_from n k f) ≡ n
unfolding list_from
from_length zero k f = refl
from_length (suc n) k f = ap suc (from_length n (suc k) f)

-- and has at each place what the function says
pub from_at : (n k : ℕ) (f : ℕ → ℕ) (j : ℕ) → j < n → get_or (list_from n k f) j 0 ≡ f (k + j)
unfolding list_from
from_at zero k f j h = absurd (omega arith)
from_at (suc n) k f zero h = ap f (let e : k ≡ k + 0 = omega arith in e)
from_at (suc n) k f (suc j) h = from_at n (suc k) f j (omega arith) ∙ ap f (let e : suc k + j ≡ k + suc j = omega arith in e)

-- the same of a list from 0 on
pub first_at : (n : ℕ) (f : ℕ → ℕ) (j : ℕ) → j < n → get_or (list_from n 0 f) j 0 ≡ f j
first_at n f j h = from_at n 0 f j h ∙ ap f (let e : 0 + j ≡ j = omega arith in e)

-- all words are loaded
-- the loop's end is the whole
pub load_end : (bs ws vs : List ℕ) (k : ℕ) → length vs ≡ length ws → ((j : ℕ) → j < k → get_or vs j 0 ≡ word (words_of bs) j) → length vs ≤ k → vs ≡ loaded bs (length ws)
unfolding loaded
load_end bs ws vs k l h e =
    ext_get_or 0 vs (list_from (length ws) 0 (word (words_of bs))) (l ∙ sym (from_length (length ws) 0 _)) (λ j q. h j (omega arith) ∙ sym (first_at (length ws) (word (words_of bs)) j (omega arith)))

-- an image has a word for four bytes
pub words_length : (bs : List ℕ) → length (words_of bs) ≡ length bs / 4
unfolding words_of
words_length [] = refl
words_length (a ∷ []) = refl
words_length (a ∷ b ∷ []) = refl
words_length (a ∷ b ∷ c ∷ []) = refl
words_length (a ∷ b ∷ c ∷ d ∷ bs) = let h = words_length bs in let g : length (a ∷ b ∷ c ∷ d ∷ bs) ≡ suc (suc (suc (suc (length bs)))) = refl in omega arith

-- a slice of as many words holds the image whole
-- so what is read of the slice is read of the image
pub loaded_whole : (bs : List ℕ) (n : ℕ) → n ≡ length bs / 4 → loaded bs n ≡ words_of bs
unfolding loaded word
loaded_whole bs n e =
    ext_get_or 0 (list_from n 0 (word (words_of bs))) (words_of bs) (from_length n 0 _ ∙ e ∙ sym (words_length bs)) (λ j q. first_at n (word (words_of bs)) j (let l = from_length n 0 (word (words_of bs)) in omega arith))
