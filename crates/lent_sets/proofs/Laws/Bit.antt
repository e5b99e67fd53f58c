-- Laws of a number's bits: of quotients, remainders, unions and words, and what trailing zeros find. Assumes nothing.
use Rattle.std.specs.Prelude.{◌≡◌, refl, ℕ, zero, suc, ◌+◌, ◌-◌, ◌*◌, ◌/◌, ◌%◌, ◌^◌, ◌≤◌, ◌<◌, max}
use Rattle.std.proofs.Common.{sym, ap, ◌∙◌, subst, suc-le-suc, le_of_suc-le-suc, not-suc-le-zero, zero-lt-suc, mod-lt, lt_irrefl, div-one, lt_of_lt_of_le, one-mul, arith, add-one, one-add, shr-shr, shr_lt, pow_mono, shl_exact, lit<}
use Rattle.std.proofs.Math.Nat.{zero-div, div-eq_of_lt}
use Rattle.std.proofs.Math.Arith.{lt-one}
use Rattle.std.proofs.Math.Pow.{mod-mod-pow, field}
use Rattle.std.specs.Int.Bits.{bit_or}
use Rattle.std.proofs.lemmas.Nat.{or_shr}
use Rattle.std.specs.Int.Count.{count_trailing_zeros, under}
use Rattle.base_orders.proofs.Laws.Union.{or_odd}
use Rattle.lent_sets.specs.Rows.{bit, word_of}

pub bit_lt : (x k : ℕ) → bit x k < 2
unfolding bit
bit_lt x k = mod-lt (x / 2 ^ k) (zero-lt-suc 1)

-- a bit of a number that is shifted down
pub bit_shr : (x j k : ℕ) → bit (x / 2 ^ j) k ≡ bit x (j + k)
unfolding bit
bit_shr x j k = ap (λ (n : ℕ). n % 2) (shr-shr x j k)

pub bit_suc : (x k : ℕ) → bit x (suc k) ≡ bit (x / 2) k
unfolding bit
bit_suc x k = ap (λ (n : ℕ). x / 2 ^ n % 2) (sym (one-add k)) ∙ ap (λ (n : ℕ). n % 2) (sym (shr-shr x 1 k))

pub bit_low : (x : ℕ) → bit x 0 ≡ x % 2
unfolding bit
bit_low x = ap (λ (n : ℕ). n % 2) (div-one x)

pub bit_zero : (k : ℕ) → bit 0 k ≡ 0
unfolding bit
bit_zero k = ap (λ (n : ℕ). n % 2) (zero-div (2 ^ k))

-- a bit of a union
pub bit_or_is : (x y k : ℕ) → bit (bit_or x y) k ≡ max (bit x k) (bit y k)
unfolding bit
bit_or_is x y k = ap (λ (n : ℕ). n % 2) (or_shr x y k) ∙ or_odd (x / 2 ^ k) (y / 2 ^ k)

-- above its length a number has no bit
pub bit_high : (n x k : ℕ) → x < 2 ^ n → n ≤ k → bit x k ≡ 0
unfolding bit
bit_high n x k h l = ap (λ (y : ℕ). y % 2) (div-eq_of_lt (lt_of_lt_of_le h (pow_mono l)))

-- a number cut to m bits keeps the bits below m
pub bit_mod : (m x k : ℕ) → k < m → bit (x % 2 ^ m) k ≡ bit x k
unfolding bit
bit_mod m x k h =
    let j : ℕ = m - (k + 1) in
    let e : m ≡ (j + 1) + k = omega arith in
    ap (λ (m : ℕ). x % 2 ^ m / 2 ^ k % 2 ^ 1) e
    ∙ ap (λ (y : ℕ). y % 2 ^ 1) (field x (j + 1) k)
    ∙ mod-mod-pow (x / 2 ^ k) j 1

-- a bit of a word of a number
pub bit_word : (x w k : ℕ) → k < 64 → bit (word_of x w) k ≡ bit x (64 * w + k)
unfolding word_of
bit_word x w k h = bit_mod 64 (x / 2 ^ (64 * w)) k h ∙ bit_shr x (64 * w) k

-- an even number has no bit 0, and no bit of a number changes that is made even
pub bit_even_low : (x : ℕ) → bit (x - x % 2) 0 ≡ 0
bit_even_low x = bit_low (x - x % 2) ∙ omega arith

pub bit_even : (x k : ℕ) → bit (x - x % 2) (suc k) ≡ bit x (suc k)
bit_even x k =
    let e : (x - x % 2) / 2 ≡ x / 2 = omega arith in
    bit_suc (x - x % 2) k ∙ ap (λ (y : ℕ). bit y k) e ∙ sym (bit_suc x k)

-- 1 has no bit but bit 0
pub bit_one : (k : ℕ) → bit 1 (suc k) ≡ 0
bit_one k = bit_suc 1 k ∙ bit_zero k

-- numbers with the same bits are equal
pub bit_ext : (n x y : ℕ) → x < 2 ^ n → y < 2 ^ n → ((k : ℕ) → k < n → bit x k ≡ bit y k) → x ≡ y
bit_ext zero x y hx hy h = lt-one hx ∙ sym (lt-one hy)
bit_ext (suc n) x y hx hy h =
    let e : x / 2 ≡ y / 2 = bit_ext n (x / 2) (y / 2) (half n x hx) (half n y hy) (λ k l. sym (bit_suc x k) ∙ h (suc k) (suc-le-suc l) ∙ bit_suc y k) in
    let f : x % 2 ≡ y % 2 = sym (bit_low x) ∙ h 0 (zero-lt-suc n) ∙ bit_low y in
    omega arith
  where
    half : (n x : ℕ) → x < 2 ^ suc n → x / 2 < 2 ^ n
    half n x h = shr_lt n 1 (subst (λ (k : ℕ). x < 2 ^ k) (sym (add-one n)) h)

-- `1 << k` at 64 bits
pub one_shl : (k : ℕ) → k < 64 → 1 * 2 ^ k % 2 ^ 64 ≡ 2 ^ k
one_shl k h = shl_exact {a = 1} 1 k 64 (lit< tt) (omega arith) ∙ one-mul (2 ^ k)

-- ---- trailing zeros

-- below the trailing zeros every bit is 0
pub tz_zero : (n x j : ℕ) → j < count_trailing_zeros n x → bit x j ≡ 0
unfolding count_trailing_zeros
tz_zero zero x j h = absurd (not-suc-le-zero h)
tz_zero (suc n) x j h = go (λ j. tz_zero n (x / 2) j) (x % 2) refl j h
  where
    go : ((j : ℕ) → j < count_trailing_zeros n (x / 2) → bit (x / 2) j ≡ 0) → (d : ℕ) → x % 2 ≡ d → (j : ℕ) → j < under d (count_trailing_zeros n (x / 2)) → bit x j ≡ 0
    go ih zero e zero l = bit_low x ∙ e
    go ih zero e (suc j) l = bit_suc x j ∙ ih j (le_of_suc-le-suc l)
    go ih (suc d) e j l = absurd (not-suc-le-zero l)

-- and at them it is 1
pub tz_one : (n x : ℕ) → x < 2 ^ n → 0 < x → (count_trailing_zeros n x < n) × (bit x (count_trailing_zeros n x) ≡ 1)
unfolding count_trailing_zeros
tz_one zero x h p = absurd (lt_irrefl zero (subst (λ (x : ℕ). zero < x) (lt-one h) p))
tz_one (suc n) x h p = go (tz_one n (x / 2) (shr_lt n 1 (subst (λ (k : ℕ). x < 2 ^ k) (sym (add-one n)) h))) (x % 2) refl
  where
    go : (0 < x / 2 → (count_trailing_zeros n (x / 2) < n) × (bit (x / 2) (count_trailing_zeros n (x / 2)) ≡ 1)) → (d : ℕ) → x % 2 ≡ d → (under d (count_trailing_zeros n (x / 2)) < suc n) × (bit x (under d (count_trailing_zeros n (x / 2))) ≡ 1)
    go ih zero e =
        let r = ih (omega arith) in
        (suc-le-suc r.0, bit_suc x (count_trailing_zeros n (x / 2)) ∙ r.1)
    go ih (suc d) e = (zero-lt-suc n, bit_low x ∙ omega (arith, mod-lt x (zero-lt-suc 1)))
