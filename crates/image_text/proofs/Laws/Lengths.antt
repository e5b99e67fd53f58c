-- How long the parts of a listing are. Assumes nothing.
use Rattle.std.specs.Prelude.{ℕ, zero, suc, ◌+◌, ◌*◌, ◌/◌, ◌%◌, ◌≤◌, ◌<◌, ◌≡◌, List, [], ◌∷◌, map, length, Option, None, Some}
use Rattle.std.proofs.Common.{arith, suc-mul, ap, ⊎_elim, length-append}
use Rattle.base_tests.specs.Tests.{All}
use Rattle.base_tests.proofs.Laws.Order.{lt_or_ge}
use Rattle.def_image.specs.Listing.{digit, decimal, shown, shown_all, line, lines_from, or_absent}
use Rattle.image_text.proofs.Laws.Decimals.{decimal_small, decimal_large}

-- ten as often as k says, multiplied
unfoldable pub ten : ℕ → ℕ
ten zero = 1
ten (suc k) = 10 * ten k

-- a number below ten to the k has at most k digits
pub digits : (k n : ℕ) → n < ten (suc k) → length (decimal n) ≤ suc k
unfolding ten
digits zero n h =
    let e = ap length (decimal_small n (omega arith)) in
    omega arith
digits (suc k) n h =
    ⊎_elim
    (λ l. let e = ap length (decimal_small n l) in omega arith)
    (λ l.
    let e = ap length (decimal_large n l) in
    let f = length-append (decimal (n / 10)) (digit (n % 10) ∷ []) in
    let i = digits k (n / 10) (omega arith) in
    omega arith)
    (lt_or_ge n 10)

-- a word of 32 bits has at most ten digits, a value number four
word_below : (n : ℕ) → n < 4294967296 → n < ten 10
unfolding ten
word_below n h = omega arith

value_below : (v : ℕ) → v < 1024 → v < ten 4
unfolding ten
value_below v h = omega arith

-- a number of 32 bits, or none
abbrev pub Small : Option ℕ → Type 0
Small None = Unit {0}
Small (Some n) = n < 4294967296

-- such a number has at most ten digits
pub shown_small : (x : Option ℕ) → Small x → length (shown x) ≤ 10
unfolding shown
shown_small None h = omega arith
shown_small (Some n) h = digits 9 n (word_below n h)

-- the columns of a line, eleven bytes each, and its end
pub columns_small : (xs : List (Option ℕ)) → All Small xs → length (shown_all xs) ≤ 11 * length xs + 1
unfolding shown_all
columns_small [] a = omega arith
columns_small (x ∷ xs) a =
    let i = columns_small xs a.1 in
    let s = shown_small x a.0 in
    let e = length-append (shown x) (shown_all xs) in
    omega arith

-- the values of a set, five bytes each, and the end of the line
pub values_small : (l : List ℕ) → All (λ v. v < 1024) l → length (shown_all (map Some l)) ≤ 5 * length l + 1
unfolding shown_all shown
values_small [] a = omega arith
values_small (v ∷ l) a =
    let i = values_small l a.1 in
    let s = digits 3 v (value_below v a.0) in
    let e = length-append (decimal v) (shown_all (map Some l)) in
    omega arith

-- the same with the dash of an empty set
pub absent_small : (l : List ℕ) → All (λ v. v < 1024) l → length (shown_all (or_absent l)) ≤ 5 * length l + 3
unfolding shown_all shown
absent_small [] a = omega arith
absent_small (v ∷ l) a = let i = values_small (v ∷ l) a in omega arith

-- a line is its word and its columns
pub line_length : (w : List ℕ) (xs : List (Option ℕ)) → length (line w xs) ≡ length w + length (shown_all xs)
unfolding line
line_length w xs = length-append w (shown_all xs)

-- n lines of at most b bytes
pub lines_length : (f : ℕ → List ℕ) (b m n k : ℕ) → n + k ≤ m → ((j : ℕ) → j < m → length (f j) ≤ b) → length (lines_from n k f) ≤ n * b
unfolding lines_from
lines_length f b m zero k l h = omega arith
lines_length f b m (suc n) k l h =
    let i = lines_length f b m n (suc k) (omega arith) h in
    let s = h k (omega arith) in
    let e = length-append (f k) (lines_from n (suc k) f) in
    let d : suc n * b ≡ n * b + b = suc-mul n b in
    omega arith
