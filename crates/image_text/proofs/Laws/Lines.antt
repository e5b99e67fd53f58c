-- One law for each way through the functions that write a line: a word, then columns, then the end of the line. Assumes nothing.
use Rattle.std.specs.Prelude.{ℕ, suc, ◌+◌, ◌<◌, ◌≤◌, ◌≡◌, refl, List, [], ◌∷◌, length, drop, get_or, Option, None, Some}
use Rattle.std.proofs.Common.{arith, sym, ap, ◌∙◌, drop-cons}
use Rattle.std.proofs.Math.ListN.{drop_of_length-le}
use Rattle.def_kinds.specs.declared.AbstractValue.{AbstractValue}
use Rattle.def_image.specs.Listing.{newline, shown_all, line, value_line}
use Rattle.image_text.specs.Texts.{Cursor, put_all, column}
use Rattle.image_text.proofs.Laws.Text.{then_put}

-- the end of a line
pub line_end : (c d : Cursor) → d ≡ put_all (newline ∷ []) c → d ≡ put_all (shown_all []) c
unfolding shown_all
line_end c d p = p

-- a column, then the others
pub line_column : (x : Option ℕ) (xs : List (Option ℕ)) (c d e : Cursor) → d ≡ put_all (column x) c → e ≡ put_all (shown_all xs) d → e ≡ put_all (shown_all (x ∷ xs)) c
unfolding column shown_all
line_column x xs c d e p q = then_put (column x) (shown_all xs) c d e p q

-- a word, then the columns
pub line_word : (w : List ℕ) (xs : List (Option ℕ)) (c d e : Cursor) → d ≡ put_all w c → e ≡ put_all (shown_all xs) d → e ≡ put_all (line w xs) c
unfolding line
line_word w xs c d e p q = then_put w (shown_all xs) c d e p q

-- one column more
pub columns_step : (xs : List (Option ℕ)) (i : ℕ) (z c d : Cursor) → i < length xs → d ≡ put_all (column (get_or xs i None)) c → put_all (shown_all (drop i xs)) c ≡ z → put_all (shown_all (drop (i + 1) xs)) d ≡ z
columns_step xs i z c d h p e =
    ap (λ (n : ℕ). put_all (shown_all (drop n xs)) d) (let m : i + 1 ≡ suc i = omega arith in m)
    ∙ line_column (get_or xs i None) (drop (suc i) xs) c d (put_all (shown_all (drop (suc i) xs)) d) p refl
    ∙ sym (ap (λ (l : List (Option ℕ)). put_all (shown_all l) c) (drop-cons xs i None h)) ∙ e

-- no column is left: the end of the line
pub columns_end : (xs : List (Option ℕ)) (i : ℕ) (z c d : Cursor) → length xs ≤ i → d ≡ put_all (newline ∷ []) c → put_all (shown_all (drop i xs)) c ≡ z → d ≡ z
columns_end xs i z c d h p e = line_end c d p ∙ sym (ap (λ (l : List (Option ℕ)). put_all (shown_all l) c) (drop_of_length-le xs h)) ∙ e

-- a value without an entry
-- one way through `put_value_line`
pub value_absent : (v : ℕ) (x : Option AbstractValue) (o : Option AbstractValue) (c : Cursor) → x ≡ o → x ≡ None → c ≡ put_all (value_line v o) c
unfolding value_line put_all
value_absent v x o c h e = sym (ap (λ (y : Option AbstractValue). put_all (value_line v y) c) (sym h ∙ e))

-- one with an entry
pub value_present : (v : ℕ) (x : Option AbstractValue) (a : AbstractValue) (o : Option AbstractValue) (c d : Cursor) → x ≡ o → x ≡ Some a → d ≡ put_all (value_line v (Some a)) c → d ≡ put_all (value_line v o) c
value_present v x a o c d h e p = p ∙ sym (ap (λ (y : Option AbstractValue). put_all (value_line v y) c) (sym h ∙ e))
