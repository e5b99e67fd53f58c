-- Laws of a text in a buffer: a text after a text, and what stands in the buffer where it fits. Assumes nothing.
use Rattle.std.specs.Prelude.{ℕ, suc, ◌+◌, ◌≤◌, ◌<◌, ◌≡◌, refl, List, [], ◌∷◌, ◌++◌, length, set, take, drop, get_or}
use Rattle.std.proofs.Common.{arith, sym, ap, ◌∙◌, length-set, drop-cons}
use Rattle.std.proofs.Math.ListN.{drop_of_length-le}
use Rattle.std.proofs.lemmas.List.Edits.{sets, sets-eq}
use Rattle.base_tests.proofs.Laws.Choice.{ite_lt, ite_ge}
use Rattle.image_text.specs.declared.Text.{Text}
use Rattle.image_text.specs.Texts.{Cursor, cursor, cursor_of, put_byte, put_all}

-- a text and another after it are one text
-- so that a function that calls two writes the one and then the other
pub put_append : (xs ys : List ℕ) (c : Cursor) → put_all (xs ++ ys) c ≡ put_all ys (put_all xs c)
unfolding put_all
put_append [] ys c = refl
put_append (x ∷ xs) ys c = put_append xs ys (put_byte x c)

-- the same, for cursors that are known by their texts
pub then_put : (xs ys : List ℕ) (c d e : Cursor) → d ≡ put_all xs c → e ≡ put_all ys d → e ≡ put_all (xs ++ ys) c
then_put xs ys c d e p q = q ∙ ap (put_all ys) p ∙ sym (put_append xs ys c)

-- a byte inside the buffer
-- one way through `put_byte`
pub put_inside : (x k : ℕ) (bs : List ℕ) → k < length bs → cursor (k + 1) (set bs k x) ≡ put_all (x ∷ []) (cursor k bs)
unfolding put_all put_byte
put_inside x k bs h =
    ap (λ (m : ℕ). cursor m (set bs k x)) (let e : k + 1 ≡ suc k = omega arith in e)
    ∙ sym (ite_lt k (length bs) (cursor (suc k) (set bs k x)) (cursor k bs) h)

-- a byte past its end
pub put_outside : (x k : ℕ) (bs : List ℕ) → length bs ≤ k → cursor k bs ≡ put_all (x ∷ []) (cursor k bs)
unfolding put_all put_byte
put_outside x k bs h = sym (ite_ge k (length bs) (cursor (suc k) (set bs k x)) (cursor k bs) h)

-- where the text fits, it stands from the cursor on, and the cursor after it
put_sets : (xs : List ℕ) (k : ℕ) (bs : List ℕ) → k + length xs ≤ length bs → put_all xs (cursor k bs) ≡ cursor (k + length xs) (sets bs k xs)
unfolding put_all put_byte
put_sets [] k bs h = ap (λ (m : ℕ). cursor m bs) (let e : k ≡ k + 0 = omega arith in e)
put_sets (x ∷ xs) k bs h =
    let n = length-set bs k x in
    ap (put_all xs) (ite_lt k (length bs) (cursor (suc k) (set bs k x)) (cursor k bs) (omega arith))
    ∙ put_sets xs (suc k) (set bs k x) (omega arith)
    ∙ ap (λ (m : ℕ). cursor m (sets (set bs k x) (suc k) xs)) (let e : suc k + length xs ≡ k + length (x ∷ xs) = omega arith in e)

-- the same with the bytes spelled out
-- a buffer that suffices holds the text and nothing else is changed
pub put_fits : (xs : List ℕ) (k : ℕ) (bs : List ℕ) → k + length xs ≤ length bs → put_all xs (cursor k bs) ≡ cursor (k + length xs) (take k bs ++ xs ++ drop (k + length xs) bs)
put_fits xs k bs h = put_sets xs k bs h ∙ ap (cursor (k + length xs)) (sets-eq xs bs k h)

-- a text that is done with gives its buffer back as it left it
pub given_back : (t : Text) (bs : List ℕ) (d : Cursor) → bs ≡ t.buffer.now → cursor_of t ≡ d → cursor t.at bs ≡ d
given_back t bs d e p = ap (cursor t.at) e ∙ p

-- ---- a text that is written byte by byte

-- one byte more
pub text_step : (xs : List ℕ) (i : ℕ) (z c d : Cursor) → i < length xs → d ≡ put_all (get_or xs i 0 ∷ []) c → put_all (drop i xs) c ≡ z → put_all (drop (i + 1) xs) d ≡ z
text_step xs i z c d h p e =
    ap (put_all (drop (i + 1) xs)) p
    ∙ ap (λ (n : ℕ). put_all (drop n xs) (put_all (get_or xs i 0 ∷ []) c)) (let m : i + 1 ≡ suc i = omega arith in m)
    ∙ sym (put_append (get_or xs i 0 ∷ []) (drop (suc i) xs) c)
    ∙ sym (ap (λ (l : List ℕ). put_all l c) (drop-cons xs i 0 h)) ∙ e

-- no byte is left
pub text_end : (xs : List ℕ) (i : ℕ) (z c : Cursor) → length xs ≤ i → put_all (drop i xs) c ≡ z → c ≡ z
unfolding put_all
text_end xs i z c h e = sym (ap (λ (l : List ℕ). put_all l c) (drop_of_length-le xs h)) ∙ e
