-- A law for each way through a function of the crate, over plain variables: the proof files cite them. Assumes nothing.
use Rattle.std.specs.Prelude.{◌≡◌, refl, Bool, true, false, List, eqb, length, get_or, set, Option}
use Rattle.std.proofs.Math.Path.{sym, ap, ap₂}
use Rattle.std.proofs.Common.{◌∙◌, subst, ⊎_elim, lt_of_not-le, lt_of_le_of_lt, pos_of_ne-zero, mod-lt, zero-lt-suc, eq-eqb, ne_eqb, lit<, length-set, get_or-set_same, get_or-set_other, ext_get_or}
use Prim.Native.Nat.{ℕ, zero, suc, ◌+◌, ◌-◌, ◌*◌, ◌/◌, ◌%◌, ◌^◌, ◌≤◌, ◌<◌}
use native.Mathlib.Omega.{arith}
use Rattle.std.proofs.lemmas.List.{set-get_or}
use Rattle.std.proofs.lemmas.Nat.{shr_le, or_lt, ones-le}
use Rattle.std.proofs.Math.Pow.{mod-mod-pow, field}
use Rattle.std.specs.Int.Bits.{bit_or, or_zero_r, or_zero_l}
use Rattle.std.specs.Int.Count.{count_trailing_zeros, ones, ones_step}
use Rattle.lent_sets.specs.Rows.{bit, seek, row_word, set_word, number, row_number, word_of, marked, set_at, put_word, put_row, put_set, copy_set, append_set, member, next_member, even_row, member_word, or_word, add_set}
use Rattle.base_sets.specs.Members.{bits_of, values_of}
use Rattle.base_tests.specs.Tests.{is_some}
use Rattle.base_tests.proofs.Laws.Order.{lt_or_ge, same_or_not}
use Rattle.lent_sets.proofs.Laws.Bit.{bit_shr, bit_zero, bit_high, bit_even, bit_even_low, bit_word, bit_ext, tz_zero, tz_one}
use Rattle.lent_sets.proofs.Laws.Loop.{seek_skip, seek_here, upto_same, upto_none}
use Rattle.lent_sets.proofs.Laws.Number.{number_fits, number_none, word_is, word_or, word_high, word_small, word_pow, word_pow_other}
use Rattle.lent_sets.proofs.Laws.Row.{row_fits, bit_row, row_odd, none_of, some_of, copy_is, copy_not, append_is, append_not_place, append_not_value, add_length, add_word, add_far, add_number, add_row}
use Rattle.lent_sets.proofs.Laws.Set.{members_count}

-- ---- is_defined

defined_by : (d n : ℕ) → d < 2 → eqb d 1 ≡ is_some (marked d n)
defined_by zero n h = refl
defined_by (suc zero) n h = refl
defined_by (suc (suc d)) n h = absurd (omega arith)

pub defined_is : (rs : List ℕ) (i w : ℕ) → w ≡ row_word rs i 0 → eqb (w % 2) 1 ≡ is_some (set_at rs i)
unfolding set_at
defined_is rs i w e =
    ap (λ (x : ℕ). eqb (x % 2) 1) e ∙ ap (λ (x : ℕ). eqb x 1) (sym (row_odd rs i))
    ∙ defined_by (row_number rs i % 2) (row_number rs i) (mod-lt (row_number rs i) (zero-lt-suc 1))

-- ---- next_member

module _ (rs : List ℕ) (i v : ℕ) where
  -- what is left of v's word from v on
  abbrev rest : ℕ
  rest = row_word rs i (v / 64) / 2 ^ (v % 64)

  member_rest : (k : ℕ) → v % 64 + k < 64 → member rs i (v + k) ≡ bit rest k
  unfolding member
  member_rest k h =
      let p : (v + k) / 64 ≡ v / 64 = omega arith in
      let q : (v + k) % 64 ≡ v % 64 + k = omega arith in
      ap₂ (λ (w b : ℕ). bit (row_word rs i w) b) p q
      ∙ sym (bit_shr (row_word rs i (v / 64)) (v % 64) k)

  skipped : v < 1024 → rest ≡ 0 → next_member rs i v ≡ next_member rs i ((v / 64 + 1) * 64)
  unfolding next_member
  skipped h e =
      let d : ℕ = 64 - v % 64 in
      let to : v + d ≡ (v / 64 + 1) * 64 = omega arith in
      ap (λ (n : ℕ). seek (member rs i) n v) {x = 1024 - v} {y = d + (1024 - (v + d))} (omega arith)
      ∙ seek_skip (member rs i) d (1024 - (v + d)) v (λ k l. member_rest k (omega arith) ∙ ap (λ (x : ℕ). bit x k) e ∙ bit_zero k)
      ∙ ap (λ (u : ℕ). seek (member rs i) (1024 - u) u) to

  tz_fits : row_word rs i (v / 64) < 2 ^ 64 → bit rest (count_trailing_zeros 64 rest) ≡ 1 → v % 64 + count_trailing_zeros 64 rest < 64
  tz_fits f e = lt_of_not-le (λ l.
      let z : 1 ≡ 0 = sym e ∙ bit_shr (row_word rs i (v / 64)) (v % 64) (count_trailing_zeros 64 rest) ∙ bit_high 64 (row_word rs i (v / 64)) (v % 64 + count_trailing_zeros 64 rest) f l in
      omega arith)

  found : v < 1024 → row_word rs i (v / 64) < 2 ^ 64 → 0 < rest → (v + count_trailing_zeros 64 rest ≡ next_member rs i v) × (v + count_trailing_zeros 64 rest < 1024)
  unfolding next_member
  found h f p =
      let t : ℕ = count_trailing_zeros 64 rest in
      let o = tz_one 64 rest (lt_of_le_of_lt (shr_le (row_word rs i (v / 64)) (v % 64)) f) p in
      let b : v % 64 + t < 64 = tz_fits f o.1 in
      let n : ℕ = 1024 - (v + t) - 1 in (
        sym
            (ap (λ (m : ℕ). seek (member rs i) m v) {x = 1024 - v} {y = t + suc n} (omega arith)
            ∙ seek_skip (member rs i) t (suc n) v (λ k l. member_rest k (omega arith) ∙ tz_zero 64 rest k l)
            ∙ seek_here (member rs i) n (v + t) (member_rest t b ∙ o.1)),
        omega arith,
      )

-- a word with no member from v on
pub next_none : (rs : List ℕ) (i v w : ℕ) → w ≡ row_word rs i (v / 64) → v < 1024 → w / 2 ^ (v % 64) ≡ 0 → next_member rs i v ≡ next_member rs i ((v / 64 + 1) * 64)
next_none rs i v w e h z = skipped rs i v h (ap (λ (x : ℕ). x / 2 ^ (v % 64)) (sym e) ∙ z)

-- a word with one
pub next_found : (rs : List ℕ) (i v w : ℕ) → w ≡ row_word rs i (v / 64) → v < 1024 → w < 2 ^ 64 → (w / 2 ^ (v % 64) ≡ 0 → ⊥)
    → (v + count_trailing_zeros 64 (w / 2 ^ (v % 64)) ≡ next_member rs i v) × (v + count_trailing_zeros 64 (w / 2 ^ (v % 64)) < 1024)
next_found rs i v w e h f p = rw e (found rs i v h (rw (← e) f) (rw (← e) (pos_of_ne-zero p)))

-- no word is left
pub next_end : (rs : List ℕ) (i v : ℕ) → 1024 ≤ v → next_member rs i v ≡ v
unfolding next_member seek
next_end rs i v h = ap (λ (n : ℕ). seek (member rs i) n v) {x = 1024 - v} {y = 0} (omega arith)

-- ---- count_bits and size

-- the count never passes 1,024
pub count_fits : (rs : List ℕ) (i : ℕ) → ones (row_number rs i) ≤ 1024
count_fits rs i = ones-le 1024 (row_number rs i) (row_fits rs i)

size_by : (d n c : ℕ) → n % 2 ≡ d → is_some (marked d n) ≡ true → c ≡ ones n → (1 ≤ c) × (c - 1 ≡ length (values_of (marked d n)))
size_by zero n c p h e = let z : ◌≡◌ {A = Bool} true false = sym h in absurd (let y : ◌≡◌ {A = ℕ} 0 1 = cc in omega arith)
size_by (suc d) n c p h e =
    let l : n % 2 < 2 = mod-lt n (zero-lt-suc 1) in
    let o : ones n ≡ n % 2 + ones (n / 2) = ones_step n in
    let q : ones (n - 1) ≡ (n - 1) % 2 + ones ((n - 1) / 2) = ones_step (n - 1) in
    let r : (n - 1) / 2 ≡ n / 2 = omega arith in
    let s : (n - 1) % 2 ≡ 0 = omega arith in
    let t : ones ((n - 1) / 2) ≡ ones (n / 2) = ap ones r in
    (omega arith, (let y : c - 1 ≡ ones (n - 1) = omega arith in y) ∙ members_count (n - 1))

-- a row that is defined has a value less than set bits
pub size_some : (rs : List ℕ) (i c : ℕ) → is_some (set_at rs i) ≡ true → c ≡ ones (row_number rs i) → (1 ≤ c) × (c - 1 ≡ length (values_of (set_at rs i)))
unfolding set_at
size_some rs i c h e = size_by (row_number rs i % 2) (row_number rs i) c refl h e

pub size_none : (rs : List ℕ) (i : ℕ) → is_some (set_at rs i) ≡ false → 0 ≡ length (values_of (set_at rs i))
size_none rs i h = sym (ap (λ (o : Option ℕ). length (values_of o)) (none_of (set_at rs i) h))

-- ---- member_word

pub word_first : (rs : List ℕ) (i w x : ℕ) → x ≡ row_word rs i w → w ≡ 0 → x - x % 2 ≡ member_word rs i w
word_first rs i zero x e h = ap (λ (y : ℕ). y - y % 2) e
word_first rs i (suc w) x e h = absurd (omega arith)

pub word_later : (rs : List ℕ) (i w x : ℕ) → x ≡ row_word rs i w → (w ≡ 0 → ⊥) → x ≡ member_word rs i w
word_later rs i zero x e h = absurd (h refl)
word_later rs i (suc w) x e h = e

-- ---- add_set

-- the members of a row, by its words, are its bits without bit 0
member_bit : (rs : List ℕ) (i v : ℕ) → v < 1024 → bit (member_word rs i (v / 64)) (v % 64) ≡ bit (row_number rs i - row_number rs i % 2) v
unfolding member
member_bit rs i zero h = bit_even_low (row_word rs i 0) ∙ sym (bit_even_low (row_number rs i))
member_bit rs i (suc v) h = by (suc v / 64) refl ∙ sym (bit_even (row_number rs i) v ∙ bit_row rs i (suc v) h)
  where
    by : (w : ℕ) → suc v / 64 ≡ w → bit (member_word rs i w) (suc v % 64) ≡ bit (row_word rs i (suc v / 64)) (suc v % 64)
    by zero e =
        let k : ℕ = suc v % 64 - 1 in
        let p : suc v % 64 ≡ suc k = omega arith in
        ap (bit (row_word rs i 0 - row_word rs i 0 % 2)) p ∙ bit_even (row_word rs i 0) k
        ∙ ap₂ (λ (w b : ℕ). bit (row_word rs i w) b) (sym e) (sym p)
    by (suc w) e = ap (λ (w : ℕ). bit (row_word rs i w) (suc v % 64)) (sym e)

-- a word of a row without bit 0
pub member_word_is : (rs : List ℕ) (i w x : ℕ) → w < 16 → x ≡ member_word rs i w → x < 2 ^ 64 → x ≡ word_of (even_row rs i) w
unfolding even_row
member_word_is rs i w x h e f = bit_ext 64 x (word_of (row_number rs i - row_number rs i % 2) w) f (word_small (row_number rs i - row_number rs i % 2) w) same
  where
    same : (k : ℕ) → k < 64 → bit x k ≡ bit (word_of (row_number rs i - row_number rs i % 2) w) k
    same k l =
        let p : w ≡ (64 * w + k) / 64 = omega arith in
        let q : k ≡ (64 * w + k) % 64 = omega arith in
        ap (λ (y : ℕ). bit y k) e ∙ ap₂ (λ (a b : ℕ). bit (member_word rs i a) b) p q
        ∙ member_bit rs i (64 * w + k) (omega arith)
        ∙ sym (bit_word (row_number rs i - row_number rs i % 2) w k l)

bits_by : (d n : ℕ) → n % 2 ≡ d → is_some (marked d n) ≡ true → bits_of (marked d n) ≡ n - n % 2
bits_by zero n p h = absurd (let z : ◌≡◌ {A = ℕ} 0 1 = cc in omega arith)
bits_by (suc d) n p h =
    let l : n % 2 < 2 = mod-lt n (zero-lt-suc 1) in
    omega arith

-- a row that is defined
pub add_some : (rs : List ℕ) (i : ℕ) (k l : List ℕ) → is_some (set_at rs i) ≡ true → l ≡ add_set k (even_row rs i) → l ≡ add_set k (bits_of (set_at rs i))
unfolding set_at even_row
add_some rs i k l h e = e ∙ ap (add_set k) (sym (bits_by (row_number rs i % 2) (row_number rs i) refl h))

add-zero : (l : List ℕ) (s : ℕ) → ((w : ℕ) → w < 16 → word_of s w ≡ 0) → add_set l s ≡ l
unfolding add_set or_word
add-zero l s h = upto_none (or_word s) 16 0 l (λ w p. ap (λ (x : ℕ). set l w (bit_or (get_or l w 0) x)) (h w p) ∙ ap (set l w) (or_zero_r (get_or l w 0)) ∙ set-get_or l w 0)

-- one that is not
pub add_none : (rs : List ℕ) (i : ℕ) (l : List ℕ) → is_some (set_at rs i) ≡ false → l ≡ add_set l (bits_of (set_at rs i))
add_none rs i l h = sym (ap (λ (o : Option ℕ). add_set l (bits_of o)) (none_of (set_at rs i) h) ∙ add-zero l 0 (λ w p. word_high 0 0 w (lit< tt) (omega arith)))

-- ---- add_value

-- a value below 1,024
pub value_in : (l : List ℕ) (v : ℕ) → v < 1024 → set l (v / 64) (bit_or (get_or l (v / 64) 0) (2 ^ (v % 64))) ≡ add_set l (2 ^ v)
value_in l v h = ext_get_or 0 (set l (v / 64) x) (add_set l (2 ^ v)) (len ∙ sym (add_length l (2 ^ v))) at
  where
    x : ℕ
    x = bit_or (get_or l (v / 64) 0) (2 ^ (v % 64))

    len : length (set l (v / 64) x) ≡ length l
    len = length-set l (v / 64) x

    here : (k : ℕ) → k < length l → k ≡ v / 64 → get_or (set l (v / 64) x) k 0 ≡ get_or (add_set l (2 ^ v)) k 0
    here k p e =
        ap (λ (u : ℕ). get_or (set l (v / 64) x) u 0) e
        ∙ get_or-set_same l (v / 64) x 0 (omega arith)
        ∙ ap₂ (λ (u y : ℕ). bit_or (get_or l u 0) y) (sym e) (sym (word_pow v k e))
        ∙ sym (add_word l (2 ^ v) k (omega arith) p)

    there : (k : ℕ) → k < length l → (k ≡ v / 64 → ⊥) → get_or (set l (v / 64) x) k 0 ≡ get_or (add_set l (2 ^ v)) k 0
    there k p n =
        get_or-set_other l (v / 64) k x 0 n
        ∙ ⊎_elim
        (λ q. sym (add_word l (2 ^ v) k q p ∙ ap (bit_or (get_or l k 0)) (word_pow_other v k n) ∙ or_zero_r (get_or l k 0)))
        (λ q. sym (add_far l (2 ^ v) k q))
        (lt_or_ge k 16)

    at : (k : ℕ) → k < length (set l (v / 64) x) → get_or (set l (v / 64) x) k 0 ≡ get_or (add_set l (2 ^ v)) k 0
    at k p = ⊎_elim (here k (subst (λ (n : ℕ). k < n) len p)) (there k (subst (λ (n : ℕ). k < n) len p)) (same_or_not k (v / 64))

-- one past 1,023 changes nothing
pub value_past : (l : List ℕ) (v : ℕ) → 1024 ≤ v → l ≡ add_set l (2 ^ v)
value_past l v h = sym (add-zero l (2 ^ v) (λ w p. word_pow_other v w (λ e. omega arith)))

-- ---- is_empty

pub empty_yes : (l : List ℕ) → ((k : ℕ) → k < 16 → get_or l k 0 ≡ 0) → true ≡ eqb (number 16 l 0) 0
empty_yes l h = sym (eq-eqb (number 16 l 0) 0 (number_none 16 l 0 (λ j p. ap (λ (k : ℕ). get_or l k 0) (let z : 0 + j ≡ j = omega arith in z) ∙ h j p)))

pub empty_no : (l : List ℕ) (w x : ℕ) → w < 16 → x ≡ get_or l w 0 → x < 2 ^ 64 → (x ≡ 0 → ⊥) → false ≡ eqb (number 16 l 0) 0
empty_no l w x h e f n = sym (ne_eqb (number 16 l 0) 0 (λ z. n (word_is l w x e f h ∙ ap (λ (y : ℕ). word_of y w) z ∙ word_high 0 0 w (lit< tt) (omega arith))))

-- ---- marked_word

pub mark_first : (l : List ℕ) (w x : ℕ) → w ≡ 0 → x ≡ get_or l 0 0 → x < 2 ^ 64 → bit_or x 1 ≡ word_of (bit_or (number 16 l 0) 1) w
unfolding word_of
mark_first l w x h e f =
    ap (λ (y : ℕ). bit_or y 1) (word_is l 0 x e f (lit< tt))
    ∙ sym (word_or (number 16 l 0) 1 0)
    ∙ ap (word_of (bit_or (number 16 l 0) 1)) (sym h)

pub mark_later : (l : List ℕ) (w x : ℕ) → (w ≡ 0 → ⊥) → w < 16 → x ≡ get_or l w 0 → x < 2 ^ 64 → x ≡ word_of (bit_or (number 16 l 0) 1) w
mark_later l w x n h e f =
    word_is l w x e f h
    ∙ sym (word_or (number 16 l 0) 1 w ∙ ap (bit_or (word_of (number 16 l 0) w)) (word_high 1 1 w (lit< tt) (omega arith)) ∙ or_zero_r (word_of (number 16 l 0) w))

pub mark_past : (l : List ℕ) (w : ℕ) → 16 ≤ w → 0 ≡ word_of (bit_or (number 16 l 0) 1) w
mark_past l w h = sym (word_high 1024 (bit_or (number 16 l 0) 1) w (or_lt 1024 (number 16 l 0) 1 (number_fits l 0) (lit< tt)) (omega arith))

-- ---- define, copy_set, append_set

cut_word : (n s w : ℕ) → 64 * w + 64 ≤ n → word_of (s % 2 ^ n) w ≡ word_of s w
unfolding word_of
cut_word n s w h =
    let d : ℕ = n - (64 * w + 64) in
    let e : n ≡ (d + 64) + 64 * w = omega arith in
    ap (λ (k : ℕ). s % 2 ^ k / 2 ^ (64 * w) % 2 ^ 64) e
    ∙ ap (λ (x : ℕ). x % 2 ^ 64) (field s (d + 64) (64 * w))
    ∙ mod-mod-pow (s / 2 ^ (64 * w)) d 64

-- a store cuts a set to 1,024 bits by itself
pub put_cut : (rs : List ℕ) (i s : ℕ) → put_set rs i (s % 2 ^ 1024) ≡ put_set rs i s
unfolding put_set put_row put_word
put_cut rs i s =
    upto_same (put_word i (bit_or (s % 2 ^ 1024) 1)) (put_word i (bit_or s 1)) 16 0 rs
    (λ w h l. ap (set_word l i w)
    (word_or (s % 2 ^ 1024) 1 w ∙ ap (λ (x : ℕ). bit_or x (word_of 1 w)) (cut_word 1024 s w (omega arith)) ∙ sym (word_or s 1 w)))

-- a set in hand that starts from nothing
from_none : (l : List ℕ) (s : ℕ) → 16 ≤ length l → number 16 l 0 ≡ 0 → number 16 (add_set l s) 0 ≡ s % 2 ^ 1024
from_none l s h z = add_number l s h ∙ ap (λ (x : ℕ). bit_or x s % 2 ^ 1024) z ∙ ap (λ (x : ℕ). x % 2 ^ 1024) (or_zero_l s)

pub define_is : (rs qs k l : List ℕ) (i v : ℕ) → 16 ≤ length k → number 16 k 0 ≡ 0 → l ≡ add_set k (2 ^ v) → qs ≡ put_set rs i (number 16 l 0) → qs ≡ put_set rs i (2 ^ v)
define_is rs qs k l i v h z e q = q ∙ ap (λ (l : List ℕ). put_set rs i (number 16 l 0)) e ∙ ap (put_set rs i) (from_none k (2 ^ v) h z) ∙ put_cut rs i (2 ^ v)

pub copy_some : (rs qs k l : List ℕ) (into from : ℕ) → is_some (set_at rs from) ≡ true → 16 ≤ length k → number 16 k 0 ≡ 0
    → l ≡ add_set k (bits_of (set_at rs from)) → qs ≡ put_set rs into (number 16 l 0) → qs ≡ copy_set rs into from
copy_some rs qs k l into from d h z e q =
    q ∙ ap (λ (l : List ℕ). put_set rs into (number 16 l 0)) e
    ∙ ap (put_set rs into) (from_none k (bits_of (set_at rs from)) h z)
    ∙ put_cut rs into (bits_of (set_at rs from))
    ∙ sym (copy_is rs into from (bits_of (set_at rs from)) (some_of (set_at rs from) d))

pub copy_none : (rs : List ℕ) (into from : ℕ) → is_some (set_at rs from) ≡ false → rs ≡ copy_set rs into from
copy_none rs into from h = sym (copy_not rs into from (none_of (set_at rs from) h))

pub append_some : (rs qs k l m : List ℕ) (place value : ℕ) → is_some (set_at rs place) ≡ true → is_some (set_at rs value) ≡ true → 16 ≤ length k → number 16 k 0 ≡ 0
    → l ≡ add_set k (bits_of (set_at rs place)) → m ≡ add_set l (bits_of (set_at rs value)) → qs ≡ put_set rs place (number 16 m 0) → qs ≡ append_set rs place value
append_some rs qs k l m place value c d h z e f q =
    q
    ∙ ap (put_set rs place)
    (add_row rs value l m (subst (λ (n : ℕ). 16 ≤ n) (sym (ap length e ∙ add_length k (bits_of (set_at rs place)))) h) f
    ∙ ap (λ (x : ℕ). bit_or x (bits_of (set_at rs value)))
    (add_row rs place k l h e ∙ ap (λ (x : ℕ). bit_or x (bits_of (set_at rs place))) z ∙ or_zero_l (bits_of (set_at rs place))))
    ∙ sym (append_is rs place value (bits_of (set_at rs place)) (bits_of (set_at rs value)) (some_of (set_at rs place) c) (some_of (set_at rs value) d))

pub append_no_place : (rs : List ℕ) (place value : ℕ) → is_some (set_at rs place) ≡ false → rs ≡ append_set rs place value
append_no_place rs place value h = sym (append_not_place rs place value (none_of (set_at rs place) h))

pub append_no_value : (rs : List ℕ) (place value : ℕ) → is_some (set_at rs place) ≡ true → is_some (set_at rs value) ≡ false → rs ≡ append_set rs place value
append_no_value rs place value h k = sym (append_not_value rs place value (bits_of (set_at rs place)) (some_of (set_at rs place) h) (none_of (set_at rs value) k))
