-- Laws of words read as one number: its size, its bits and its words, and the number of given words. Assumes nothing.
use Rattle.std.specs.Prelude.{◌≡◌, refl, List, ℕ, zero, suc, ◌+◌, ◌-◌, ◌*◌, ◌/◌, ◌%◌, ◌^◌, ◌≤◌, ◌<◌, get_or}
use Rattle.std.proofs.Common.{sym, ap, ap₂, ◌∙◌, subst, ⊎_elim, suc-le-suc, mod-lt, mod-eq_of_lt, div-one, zero-lt-suc, not-suc-le-zero, add-zero, add-suc, suc-add, lt_of_lt_of_le, arith, pow_pos, pow-add, pow_mono, shr-shr, lit<}
use Rattle.std.proofs.Math.Nat.{mod-one, mod-mod, div-eq_of_lt, zero-mod, mul-div_cancel_left, mul-mod_left}
use Rattle.std.proofs.Math.Arith.{digits_lt}
use Rattle.std.proofs.Math.Pow.{pow-lt, high, low}
use Rattle.std.proofs.lemmas.Nat.{mod-pow-add, or_shr, or_mod, ones_cat}
use Rattle.std.specs.Int.Bits.{bit_or}
use Rattle.std.specs.Int.Count.{ones}
use Rattle.lent_sets.specs.Rows.{bit, number, word_of}
use Rattle.base_tests.proofs.Laws.Order.{lt_or_ge}
use Rattle.lent_sets.proofs.Laws.Bit.{bit_shr, bit_mod}

word_lt : (x : ℕ) → x % 2 ^ 64 < 2 ^ 64
word_lt x = mod-lt x (pow_pos 64)

up : (n : ℕ) → 2 ^ (64 * n + 64) ≡ 2 ^ (64 * suc n)
up n = ap (λ (k : ℕ). 2 ^ k) (let e : 64 * n + 64 ≡ 64 * suc n = omega arith in e)

-- a number of n words has 64 n bits
pub number_lt : (n : ℕ) (l : List ℕ) (a : ℕ) → number n l a < 2 ^ (64 * n)
unfolding number
number_lt zero l a = lit< tt
number_lt (suc n) l a =
    subst (λ (x : ℕ). number n l (suc a) * 2 ^ 64 + get_or l a 0 % 2 ^ 64 < x) (sym (pow-add 2 (64 * n) 64) ∙ up n)
    (digits_lt (number_lt n l (suc a)) (word_lt (get_or l a 0)))

-- one of 16 words has 1,024 bits
pub number_fits : (l : List ℕ) (a : ℕ) → number 16 l a < 2 ^ 1024
number_fits l a = number_lt 16 l a

-- ---- bits

bit_below : (hi lo k : ℕ) → lo < 2 ^ 64 → k < 64 → bit (hi * 2 ^ 64 + lo) k ≡ bit lo k
bit_below hi lo k l h = sym (bit_mod 64 (hi * 2 ^ 64 + lo) k h) ∙ ap (λ (x : ℕ). bit x k) (low hi 64 l)

bit_above : (hi lo k : ℕ) → lo < 2 ^ 64 → bit (hi * 2 ^ 64 + lo) (64 + k) ≡ bit hi k
bit_above hi lo k l = sym (bit_shr (hi * 2 ^ 64 + lo) 64 k) ∙ ap (λ (x : ℕ). bit x k) (high hi 64 l)

-- bit v is that of word v / 64
pub bit_number : (n : ℕ) (l : List ℕ) (a v : ℕ) → v < 64 * n → bit (number n l a) v ≡ bit (get_or l (a + v / 64) 0) (v % 64)
unfolding number
bit_number zero l a v h = absurd (omega arith)
bit_number (suc n) l a v h = ⊎_elim here (there (λ u. bit_number n l (suc a) u)) (lt_or_ge v 64)
  where
    x : ℕ
    x = get_or l a 0 % 2 ^ 64

    here : v < 64 → bit (number n l (suc a) * 2 ^ 64 + x) v ≡ bit (get_or l (a + v / 64) 0) (v % 64)
    here p =
        let q : v ≡ v % 64 = omega arith in
        let r : a ≡ a + v / 64 = omega arith in
        bit_below (number n l (suc a)) x v (word_lt (get_or l a 0)) p
        ∙ bit_mod 64 (get_or l a 0) v p
        ∙ ap₂ (λ (a k : ℕ). bit (get_or l a 0) k) r q

    there : ((u : ℕ) → u < 64 * n → bit (number n l (suc a)) u ≡ bit (get_or l (suc a + u / 64) 0) (u % 64)) → 64 ≤ v → bit (number n l (suc a) * 2 ^ 64 + x) v ≡ bit (get_or l (a + v / 64) 0) (v % 64)
    there ih p =
        let u : ℕ = v - 64 in
        let e : v ≡ 64 + u = omega arith in
        let q : suc a + u / 64 ≡ a + v / 64 = omega arith in
        let r : u % 64 ≡ v % 64 = omega arith in
        ap (bit (number n l (suc a) * 2 ^ 64 + x)) e
        ∙ bit_above (number n l (suc a)) x u (word_lt (get_or l a 0))
        ∙ ih u (omega arith)
        ∙ ap₂ (λ (a k : ℕ). bit (get_or l a 0) k) q r

-- ---- words

word_suc : (x w : ℕ) → word_of x (suc w) ≡ word_of (x / 2 ^ 64) w
unfolding word_of
word_suc x w =
    let e : 64 * suc w ≡ 64 + 64 * w = omega arith in
    ap (λ (k : ℕ). x / 2 ^ k % 2 ^ 64) e ∙ ap (λ (y : ℕ). y % 2 ^ 64) (sym (shr-shr x 64 (64 * w)))

word_zero : (x : ℕ) → word_of x 0 ≡ x % 2 ^ 64
unfolding word_of
word_zero x = ap (λ (y : ℕ). y % 2 ^ 64) (div-one x)

-- a word of a union
pub word_or : (x y w : ℕ) → word_of (bit_or x y) w ≡ bit_or (word_of x w) (word_of y w)
unfolding word_of
word_or x y w = ap (λ (z : ℕ). z % 2 ^ 64) (or_shr x y (64 * w)) ∙ or_mod (x / 2 ^ (64 * w)) (y / 2 ^ (64 * w)) 64

-- a word fits
pub word_fits : (x w : ℕ) → word_of x w % 2 ^ 64 ≡ word_of x w
unfolding word_of
word_fits x w = mod-mod (x / 2 ^ (64 * w)) (2 ^ 64)

pub word_small : (x w : ℕ) → word_of x w < 2 ^ 64
unfolding word_of
word_small x w = word_lt (x / 2 ^ (64 * w))

-- a number has no word above its own
pub word_high : (n x w : ℕ) → x < 2 ^ n → n ≤ 64 * w → word_of x w ≡ 0
unfolding word_of
word_high n x w h l = ap (λ (z : ℕ). z % 2 ^ 64) (div-eq_of_lt (lt_of_lt_of_le h (pow_mono l))) ∙ zero-mod (2 ^ 64)

-- a word of a number of words
pub word_number : (n : ℕ) (l : List ℕ) (a w : ℕ) → w < n → word_of (number n l a) w ≡ get_or l (a + w) 0 % 2 ^ 64
unfolding number
word_number zero l a w h = absurd (not-suc-le-zero h)
word_number (suc n) l a zero h =
    word_zero (number n l (suc a) * 2 ^ 64 + get_or l a 0 % 2 ^ 64)
    ∙ low (number n l (suc a)) 64 (word_lt (get_or l a 0))
    ∙ ap (λ (k : ℕ). get_or l k 0 % 2 ^ 64) (sym (add-zero a))
word_number (suc n) l a (suc w) h =
    word_suc (number n l (suc a) * 2 ^ 64 + get_or l a 0 % 2 ^ 64) w
    ∙ ap (λ (x : ℕ). word_of x w) (high (number n l (suc a)) 64 (word_lt (get_or l a 0)))
    ∙ word_number n l (suc a) w (omega arith)
    ∙ ap (λ (k : ℕ). get_or l k 0 % 2 ^ 64) (suc-add a w ∙ sym (add-suc a w))

-- the same of a word that fits
pub word_is : (l : List ℕ) (w x : ℕ) → x ≡ get_or l w 0 → x < 2 ^ 64 → w < 16 → x ≡ word_of (number 16 l 0) w
word_is l w x e f h =
    sym (word_number 16 l 0 w h
    ∙ ap (λ (k : ℕ). get_or l k 0 % 2 ^ 64) (let z : 0 + w ≡ w = omega arith in z)
    ∙ ap (λ (y : ℕ). y % 2 ^ 64) (sym e)
    ∙ mod-eq_of_lt f)

moved : (l : List ℕ) (a k : ℕ) → get_or l (suc a + k) 0 ≡ get_or l (a + suc k) 0
moved l a k = ap (λ (m : ℕ). get_or l m 0) (suc-add a k ∙ sym (add-suc a k))

here_at : (l : List ℕ) (a : ℕ) → get_or l a 0 ≡ get_or l (a + 0) 0
here_at l a = ap (λ (m : ℕ). get_or l m 0) (sym (add-zero a))

-- the number of m's words is m, cut to them
pub number_words : (n : ℕ) (l : List ℕ) (a m : ℕ) → ((k : ℕ) → k < n → get_or l (a + k) 0 % 2 ^ 64 ≡ word_of m k) → number n l a ≡ m % 2 ^ (64 * n)
unfolding number
number_words zero l a m h = sym (mod-one m)
number_words (suc n) l a m h =
    ap₂ (λ (x y : ℕ). x * 2 ^ 64 + y)
    (number_words n l (suc a) (m / 2 ^ 64) (λ k p. ap (λ (x : ℕ). x % 2 ^ 64) (moved l a k) ∙ h (suc k) (suc-le-suc p) ∙ word_suc m k))
    (ap (λ (x : ℕ). x % 2 ^ 64) (here_at l a) ∙ h 0 (zero-lt-suc n) ∙ word_zero m)
    ∙ sym (mod-pow-add m (64 * n) 64) ∙ ap (λ (x : ℕ). m % x) (up n)

-- equal words make equal numbers
pub number_same : (n : ℕ) (k l : List ℕ) (a b : ℕ) → ((j : ℕ) → j < n → get_or k (a + j) 0 ≡ get_or l (b + j) 0) → number n k a ≡ number n l b
unfolding number
number_same zero k l a b h = refl
number_same (suc n) k l a b h =
    ap₂ (λ (x y : ℕ). x * 2 ^ 64 + y % 2 ^ 64)
    (number_same n k l (suc a) (suc b) (λ j p. moved k a j ∙ h (suc j) (suc-le-suc p) ∙ sym (moved l b j)))
    (here_at k a ∙ h 0 (zero-lt-suc n) ∙ sym (here_at l b))

-- words that are 0 make 0
pub number_none : (n : ℕ) (l : List ℕ) (a : ℕ) → ((j : ℕ) → j < n → get_or l (a + j) 0 ≡ 0) → number n l a ≡ 0
unfolding number
number_none zero l a h = refl
number_none (suc n) l a h =
    ap₂ (λ (x y : ℕ). x * 2 ^ 64 + y % 2 ^ 64)
    (number_none n l (suc a) (λ j p. moved l a j ∙ h (suc j) (suc-le-suc p)))
    (here_at l a ∙ h 0 (zero-lt-suc n))

-- the set bits of a number, counted word by word
pub number_ones : (n : ℕ) (l : List ℕ) (a x : ℕ) → x ≡ get_or l a 0 → x < 2 ^ 64 → ones (number (suc n) l a) ≡ ones x + ones (number n l (suc a))
unfolding number
number_ones n l a x e f =
    ones_cat 64 (number n l (suc a)) (get_or l a 0 % 2 ^ 64) (word_lt (get_or l a 0))
    ∙ ap (λ (y : ℕ). ones (number n l (suc a)) + ones y) (ap (λ (y : ℕ). y % 2 ^ 64) (sym e) ∙ mod-eq_of_lt f)
    ∙ (let z : ones (number n l (suc a)) + ones x ≡ ones x + ones (number n l (suc a)) = omega arith in z)

-- ---- words of powers of two

pow_down : (a x : ℕ) → 2 ^ (a + x) / 2 ^ a ≡ 2 ^ x
pow_down a x = ap (λ (y : ℕ). y / 2 ^ a) (pow-add 2 a x) ∙ mul-div_cancel_left (2 ^ x) (pow_pos a)

pow_cut : (n v : ℕ) → n ≤ v → 2 ^ v % 2 ^ n ≡ 0
pow_cut n v h =
    let e : v ≡ (v - n) + n = omega arith in
    ap (λ (k : ℕ). 2 ^ k % 2 ^ n) e ∙ ap (λ (x : ℕ). x % 2 ^ n) (pow-add 2 (v - n) n) ∙ mul-mod_left (2 ^ (v - n)) (2 ^ n)

-- the word of bit v has bit v % 64
pub word_pow : (v w : ℕ) → w ≡ v / 64 → word_of (2 ^ v) w ≡ 2 ^ (v % 64)
unfolding word_of
word_pow v w e =
    let p : v ≡ 64 * w + v % 64 = omega arith in
    let q : v % 64 < 64 = omega arith in
    ap (λ (k : ℕ). 2 ^ k / 2 ^ (64 * w) % 2 ^ 64) p
    ∙ ap (λ (x : ℕ). x % 2 ^ 64) (pow_down (64 * w) (v % 64))
    ∙ mod-eq_of_lt (pow-lt q)

-- and no other word has a bit
pub word_pow_other : (v w : ℕ) → (w ≡ v / 64 → ⊥) → word_of (2 ^ v) w ≡ 0
unfolding word_of
word_pow_other v w n = ⊎_elim below above (lt_or_ge w (v / 64))
  where
    below : w < v / 64 → 2 ^ v / 2 ^ (64 * w) % 2 ^ 64 ≡ 0
    below h =
        let d : ℕ = v - 64 * w in
        let p : v ≡ 64 * w + d = omega arith in
        let q : 64 ≤ d = omega arith in
        ap (λ (k : ℕ). 2 ^ k / 2 ^ (64 * w) % 2 ^ 64) p
        ∙ ap (λ (x : ℕ). x % 2 ^ 64) (pow_down (64 * w) d)
        ∙ pow_cut 64 d q

    far : v / 64 ≤ w → v < 64 * w
    far h = omega arith

    above : v / 64 ≤ w → 2 ^ v / 2 ^ (64 * w) % 2 ^ 64 ≡ 0
    above h = word_high (64 * w) (2 ^ v) w (pow-lt (far h)) (omega arith)
