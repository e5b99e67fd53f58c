-- One law for each way through the functions that write digits, columns and words. Assumes nothing.
use Rattle.std.specs.Prelude.{ℕ, ◌+◌, ◌/◌, ◌%◌, ◌≤◌, ◌<◌, ◌≡◌, List, [], ◌∷◌, None, Some, Option}
use Rattle.std.proofs.Common.{arith, sym, ap, ◌∙◌}
use Rattle.def_image.specs.Listing.{digit, decimal, shown}
use Rattle.image_text.specs.Texts.{Cursor, put_all, column}
use Rattle.image_text.proofs.Laws.Text.{then_put}
use Rattle.image_text.proofs.Laws.Decimals.{decimal_small, decimal_large}

-- a number below ten is its last digit
-- `put_decimal` calls itself no more
pub decimal_one : (n x : ℕ) (c d : Cursor) → n < 10 → x ≡ 48 + n % 10 → d ≡ put_all (x ∷ []) c → d ≡ put_all (decimal n) c
decimal_one n x c d h e p =
    let m : 48 + n % 10 ≡ 48 + n = omega arith in
    p ∙ ap (λ (y : ℕ). put_all (y ∷ []) c) (e ∙ m) ∙ sym (ap (λ (l : List ℕ). put_all l c) (decimal_small n h))

-- any other is its tenth and its last digit
-- `put_decimal` calls itself for the tenth
pub decimal_next : (n m x : ℕ) (c d e : Cursor) → 10 ≤ n → m ≡ n / 10 → d ≡ put_all (decimal m) c → x ≡ 48 + n % 10 → e ≡ put_all (x ∷ []) d → e ≡ put_all (decimal n) c
decimal_next n m x c d e h q p y r =
    then_put (decimal (n / 10)) (digit (n % 10) ∷ []) c d e (p ∙ ap (λ (k : ℕ). put_all (decimal k) c) q) (r ∙ ap (λ (k : ℕ). put_all (k ∷ []) d) y)
    ∙ sym (ap (λ (l : List ℕ). put_all l c) (decimal_large n h))

-- a blank, then digits
-- the way of `put_number`
pub number_is : (n : ℕ) (c d e : Cursor) → d ≡ put_all (32 ∷ []) c → e ≡ put_all (decimal n) d → e ≡ put_all (column (Some n)) c
unfolding column shown
number_is n c d e p q = then_put (32 ∷ []) (decimal n) c d e p q

-- a column that is absent
-- one way through `put_column`
pub column_absent : (x : Option ℕ) (c d : Cursor) → x ≡ None → d ≡ put_all (column None) c → d ≡ put_all (column x) c
column_absent x c d e p = p ∙ sym (ap (λ (y : Option ℕ). put_all (column y) c) e)

-- a column with a number
pub column_present : (x : Option ℕ) (n : ℕ) (c d : Cursor) → x ≡ Some n → d ≡ put_all (column (Some n)) c → d ≡ put_all (column x) c
column_present x n c d e p = p ∙ sym (ap (λ (y : Option ℕ). put_all (column y) c) e)
