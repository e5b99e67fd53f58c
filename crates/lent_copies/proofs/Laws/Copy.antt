-- Laws by which the loops meet their definitions, and what a copy holds. Assumes nothing.
use Rattle.std.specs.Prelude.{ℕ, zero, suc, ◌+◌, ◌-◌, ◌≤◌, ◌<◌, ◌≡◌, refl, List, [], ◌∷◌, ◌++◌, length, get_or, set, replicate, take, drop}
use Rattle.std.proofs.Common.{arith, sym, ap, ap₂, ◌∙◌, length-set, append_assoc, drop-cons, take-suc-set, drop-set-lt}
use Rattle.std.proofs.lemmas.List.{length-replicate, take-append-drop}
use Rattle.lent_copies.specs.Copies.{zeros, copied_or}
use Rattle.lent_copies.specs.Cleared.{Cleared}

-- ---- clearing

pub zeros_length : (n : ℕ) → length (zeros n) ≡ n
unfolding zeros
zeros_length n = length-replicate n 0

-- a list that `fill` left
pub cleared : (xs ys : List ℕ) → ys ≡ replicate (length xs) 0 → Cleared xs ys
unfolding zeros
cleared xs ys e = e

-- ---- copying

-- one more word is copied, as a loop counts
pub copy_more : {A : Type 0} (o : A) (c ws us : List A) (start at n k a b : ℕ) (x : A) → k < n → a ≡ start + k → b ≡ at + k → x ≡ get_or c a o → us ≡ set ws b x → copied_or o c (start + k) (at + k) (n - k) ws ≡ copied_or o c (start + (k + 1)) (at + (k + 1)) (n - (k + 1)) us
unfolding copied_or
copy_more {A} o c ws us start at n k a b x h p q g e =
    let m : n - k ≡ suc (n - (k + 1)) = omega arith in
    let s : suc (start + k) ≡ start + (k + 1) = omega arith in
    let t : suc (at + k) ≡ at + (k + 1) = omega arith in
    ap (λ (y : ℕ). copied_or o c (start + k) (at + k) y ws) m
    ∙ ap₂ (λ (y z : ℕ). copied_or o c y z (n - (k + 1)) (set ws (at + k) (get_or c (start + k) o))) s t
    ∙ ap (copied_or o c (start + (k + 1)) (at + (k + 1)) (n - (k + 1))) (ap₂ (λ (y z : ℕ). set ws y (get_or c z o)) (sym q) (sym p) ∙ ap (set ws b) (sym g) ∙ sym e)

-- all words are copied
-- the loop's end is the whole
pub copy_end : {A : Type 0} (o : A) (c ws us : List A) (start at n k : ℕ) → n ≤ k → copied_or o c (start + 0) (at + 0) (n - 0) ws ≡ copied_or o c (start + k) (at + k) (n - k) us → us ≡ copied_or o c start at n ws
unfolding copied_or
copy_end o c ws us start at n k h e =
    let m : n - k ≡ 0 = omega arith in
    let s : start + 0 ≡ start = omega arith in
    let t : at + 0 ≡ at = omega arith in
    let z : n - 0 ≡ n = omega arith in
    sym (e ∙ ap (λ (y : ℕ). copied_or o c (start + k) (at + k) y us) m) ∙ ap₂ (λ (x y : ℕ). copied_or o c x y (n - 0) ws) s t ∙ ap (λ (y : ℕ). copied_or o c start at y ws) z

-- a run that both lists have is copied as a whole
pub copy_whole : {A : Type 0} (o : A) (c : List A) (start at n : ℕ) (ws : List A) → start + n ≤ length c → at + n ≤ length ws → take at ws ++ (take n (drop start c) ++ drop (at + n) ws) ≡ copied_or o c start at n ws
unfolding copied_or
copy_whole o c start at zero ws p q = ap (λ (k : ℕ). take at ws ++ drop k ws) (let z : at + 0 ≡ at = omega arith in z) ∙ take-append-drop at ws
copy_whole {A} o c start at (suc n) ws p q =
    ap₂ (λ (x y : List A). take at ws ++ (x ++ y)) (ap (take (suc n)) (drop-cons c start o (omega arith))) (ap (λ (k : ℕ). drop k ws) (let z : at + suc n ≡ suc at + n = omega arith in z))
    ∙ sym (append_assoc (take at ws) (get_or c start o ∷ []) (take n (drop (suc start) c) ++ drop (suc at + n) ws))
    ∙ ap₂ (λ (x y : List A). x ++ (take n (drop (suc start) c) ++ y)) (sym (take-suc-set ws at (get_or c start o) (omega arith))) (sym (drop-set-lt (suc at + n) ws at (get_or c start o) (omega arith)))
    ∙ (let long = length-set ws at (get_or c start o) in copy_whole o c (suc start) (suc at) n (set ws at (get_or c start o)) (omega arith) (omega arith))

-- the length stays
pub copied_length : {A : Type 0} (o : A) (c : List A) (start at n : ℕ) (ws : List A) → length (copied_or o c start at n ws) ≡ length ws
unfolding copied_or
copied_length o c start at zero ws = refl
copied_length o c start at (suc n) ws = copied_length o c (suc start) (suc at) n (set ws at (get_or c start o)) ∙ length-set ws at (get_or c start o)

-- a word of zeros is 0
-- a table is zero before an image is decoded into it
pub zero_word : (m k : ℕ) → get_or (zeros m) k 0 ≡ 0
unfolding zeros
zero_word zero k = refl
zero_word (suc m) zero = refl
zero_word (suc m) (suc k) = zero_word m k
