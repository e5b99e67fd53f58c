-- Laws of rows: loops over the members of a row, and the rows as a table of sets that is read and written. Assumes nothing.
use Rattle.std.specs.Prelude.{◌≡◌, true, false, List, length, get_or, set, Option, None, Some}
use Rattle.std.proofs.Math.Path.{refl, ap}
use Rattle.std.proofs.Common.{sym, ap₂, ◌∙◌, subst, not-suc-le-zero, mod-eq_of_lt, lt_of_le_of_lt, sub-le, zero-lt-suc, lt_irrefl, lt_of_not-le, lit<}
use Rattle.std.proofs.Math.Logic.{⊎_elim}
use Prim.Native.Nat.{ℕ, zero, suc, ◌+◌, ◌-◌, ◌*◌, ◌/◌, ◌%◌, ◌^◌, ◌≤◌, ◌<◌, max}
use Rattle.std.proofs.Math.Nat.{mod-lt}
use native.Mathlib.Omega.{arith}
use Rattle.std.proofs.Math.ListN.{get_or-eq_default}
use Rattle.std.specs.Int.Bits.{bit_or, or_step, or_zero_r}
use Rattle.std.proofs.lemmas.Nat.{or_mod, or_lt}
use Rattle.base_sets.specs.Members.{members, bits_of, values_of}
use Rattle.base_tests.specs.Tests.{All, is_some}
use Rattle.lent_sets.specs.Rows.{bit, seek, upto, row_word, set_word, number, row_number, word_of, marked, set_at, copied, copy_set, appended, append_set, put_word, put_row, put_set, member, next_member, or_word, add_set}
use Rattle.base_tests.proofs.Laws.Order.{lt_or_ge, same_or_not}
use Rattle.lent_sets.proofs.Laws.Bit.{bit_low, bit_zero, bit_high, bit_or_is, bit_one, bit_word, bit_even, bit_even_low}
use Rattle.lent_sets.proofs.Laws.Loop.{seek_ge, seek_at, words_length, words_other, words_at, words_out}
use Rattle.lent_sets.proofs.Laws.Number.{number_fits, bit_number, number_words, number_same, word_number, word_fits, word_or}
use Rattle.lent_sets.proofs.Laws.Set.{all_fewer, all_bits}

-- ---- a row as a number

-- a row has 1,024 bits
pub row_fits : (rs : List ℕ) (i : ℕ) → row_number rs i < 2 ^ 1024
unfolding row_number
row_fits rs i = number_fits rs (i * 16)

-- its bits are its members
pub bit_row : (rs : List ℕ) (i v : ℕ) → v < 1024 → bit (row_number rs i) v ≡ member rs i v
unfolding row_number member row_word
bit_row rs i v h = bit_number 16 rs (i * 16) v h

-- its lowest bit is that of its first word
pub row_odd : (rs : List ℕ) (i : ℕ) → row_number rs i % 2 ≡ row_word rs i 0 % 2
unfolding member
row_odd rs i = sym (bit_low (row_number rs i)) ∙ bit_row rs i 0 (zero-lt-suc 1023) ∙ bit_low (row_word rs i 0)

-- ---- the set of a row

marked_some : (d n s : ℕ) → marked d n ≡ Some s → (0 < d) × (s ≡ n - 1)
marked_some zero n s e = let z : ◌≡◌ {A = ℕ} 0 1 = cc in absurd (omega arith)
marked_some (suc d) n s e = (zero-lt-suc d, cc)

-- what `is_defined` answers, as a set
pub none_of : (o : Option ℕ) → is_some o ≡ false → o ≡ None
none_of None h = refl
none_of (Some s) h = absurd (let z : ◌≡◌ {A = ℕ} 0 1 = cc in omega arith)

pub some_of : (o : Option ℕ) → is_some o ≡ true → o ≡ Some (bits_of o)
some_of None h = absurd (let z : ◌≡◌ {A = ℕ} 0 1 = cc in omega arith)
some_of (Some s) h = refl

module _ (rs : List ℕ) (i s : ℕ) (h : set_at rs i ≡ Some s) where
  pub row_is : (row_number rs i % 2 ≡ 1) × (s ≡ row_number rs i - row_number rs i % 2)
  unfolding set_at
  row_is =
      let r = marked_some (row_number rs i % 2) (row_number rs i) s h in
      let l : row_number rs i % 2 < 2 = mod-lt (row_number rs i) (zero-lt-suc 1) in
      let p : row_number rs i % 2 ≡ 1 = omega arith in
      (p, r.1 ∙ ap (λ (x : ℕ). row_number rs i - x) (sym p))

  -- a set has 1,024 bits
  pub set_fits : s < 2 ^ 1024
  set_fits = subst (λ (x : ℕ). x < 2 ^ 1024) (sym row_is.1) (lt_of_le_of_lt (sub-le (row_number rs i) (row_number rs i % 2)) (row_fits rs i))

  -- 0 is no member
  pub set_zero : bit s 0 ≡ 0
  set_zero = ap (λ (x : ℕ). bit x 0) row_is.1 ∙ bit_even_low (row_number rs i)

  -- any other member is one of the row
  pub set_bit : (v : ℕ) → 0 < v → v < 1024 → bit s v ≡ member rs i v
  set_bit zero l u = absurd (not-suc-le-zero l)
  set_bit (suc v) l u = ap (λ (x : ℕ). bit x (suc v)) row_is.1 ∙ bit_even (row_number rs i) v ∙ bit_row rs i (suc v) u

  -- so each of its values is one of 1 .. 1,023
  pub set_values : All (λ (v : ℕ). (0 < v) × (v < 1024)) (members s)
  set_values = all_bits (λ (v : ℕ). (0 < v) × (v < 1024)) s (λ v p. (low v p, high v p))
    where
      low : (v : ℕ) → 0 < bit s v → 0 < v
      low zero p = absurd (lt_irrefl 0 (subst (λ (x : ℕ). 0 < x) set_zero p))
      low (suc v) p = zero-lt-suc v

      high : (v : ℕ) → 0 < bit s v → v < 1024
      high v p = lt_of_not-le (λ l. lt_irrefl 0 (subst (λ (x : ℕ). 0 < x) (bit_high 1024 s v set_fits l) p))

-- ---- a loop over the members of a row, that goes from one to the next by `next_member`

-- and no lower than where it looked from
pub next_ge : (rs : List ℕ) (i v u : ℕ) → u ≡ next_member rs i v → v ≤ u
unfolding next_member
next_ge rs i v u e = rw e (seek_ge (member rs i) (1024 - v) v)

-- what it finds below 1,024 is a member
pub next_is : (rs : List ℕ) (i v u : ℕ) → u ≡ next_member rs i v → v ≤ 1024 → u < 1024 → 0 < member rs i u
unfolding next_member
next_is rs i v u e h l =
    let k : seek (member rs i) (1024 - v) v < v + (1024 - v) = rw (← e) (omega arith) in
    rw e (seek_at (member rs i) (1024 - v) v k)

-- where such a loop stands: at a member v of the set s of row i, or at 1,024, its end
-- a loop's invariant holds this and what is left to do, `left s v`; the laws below take it from turn to turn
pub record Walk (rs : List ℕ) (i s v : ℕ) : Type 0 where
  pub row : set_at rs i ≡ Some s
  pub above : 0 < v
  pub most : v ≤ 1024
  pub found : v < 1024 → 0 < member rs i v

-- ---- a row that is stored

-- a word past the end
row_out : (rs : List ℕ) (i w : ℕ) → length rs ≤ i * 16 + w → row_word rs i w ≡ 0
unfolding row_word
row_out rs i w h = get_or-eq_default rs 0 {n = i * 16 + w} h

module _ (rs : List ℕ) (i m : ℕ) where
  turn : (w : ℕ) (l : List ℕ) → put_word i m w l ≡ set l (i * 16 + w) (word_of m w)
  unfolding put_word set_word
  turn w l = refl

  put_length : length (put_row rs i m) ≡ length rs
  unfolding put_row
  put_length = words_length (put_word i m) (i * 16) (λ w x. word_of m w) turn 16 0 rs

  -- a word inside the list
  put_word_is : (w : ℕ) → w < 16 → i * 16 + w < length rs → row_word (put_row rs i m) i w ≡ word_of m w
  unfolding put_row row_word
  put_word_is w p h = words_at (put_word i m) (i * 16) (λ w x. word_of m w) turn 16 0 rs w (omega arith) (omega arith) h

  -- the whole row, where it lies inside the list
  pub put_same : i * 16 + 16 ≤ length rs → row_number (put_row rs i m) i ≡ m % 2 ^ 1024
  unfolding row_number row_word
  put_same h = number_words 16 (put_row rs i m) (i * 16) m (λ k p. ap (λ (x : ℕ). x % 2 ^ 64) (put_word_is k p (omega arith)) ∙ word_fits m k)

  -- any other row
  pub put_other : (j : ℕ) → (i ≡ j → ⊥) → row_number (put_row rs i m) j ≡ row_number rs j
  unfolding row_number put_row
  put_other j n = number_same 16 (put_row rs i m) rs (j * 16) (j * 16) (λ k p. words_other (put_word i m) (i * 16) (λ w x. word_of m w) turn 16 0 rs (j * 16 + k) (λ u a b e. n (omega arith)))

  -- a row past the end
  pub put_out : length rs ≤ i * 16 → put_row rs i m ≡ rs
  unfolding put_row
  put_out h = words_out (put_word i m) (i * 16) (λ w x. word_of m w) turn 16 0 rs h

-- ---- the rows as a table of sets, of n identifiers

-- the list has a row for each of n identifiers
-- what the table of sets asks of a list, and what every write keeps
abbrev pub Fit : ℕ → List ℕ → Type 0
Fit n rs = length rs ≡ 16 * n

-- a write keeps the length
pub set_length : (rs : List ℕ) (i s : ℕ) → length (put_set rs i s) ≡ length rs
unfolding put_set
set_length rs i s = put_length rs i (bit_or s 1)

pub fit_set : (n : ℕ) (rs : List ℕ) (i s : ℕ) → Fit n rs → Fit n (put_set rs i s)
fit_set n rs i s f = set_length rs i s ∙ f

marked_odd : (d n : ℕ) → d ≡ 1 → marked d n ≡ Some (n - 1)
marked_odd d n e = ap (λ (d : ℕ). marked d n) e

-- 1 joined to t sets its lowest bit, and 1 less is t without that bit
with_one : (t : ℕ) → bit_or t 1 ≡ t / 2 * 2 + 1
with_one t = or_step t 1 ∙ ap₂ (λ (x y : ℕ). x * 2 + y) (or_zero_r (t / 2)) (let z : max (t % 2) 1 ≡ 1 = omega arith in z)

marked_one : (t : ℕ) → marked ((t / 2 * 2 + 1) % 2) (t / 2 * 2 + 1) ≡ Some (t - t % 2)
marked_one t = marked_odd ((t / 2 * 2 + 1) % 2) (t / 2 * 2 + 1) (omega arith) ∙ ap Some (let z : t / 2 * 2 + 1 - 1 ≡ t - t % 2 = omega arith in z)

inside : (n i k : ℕ) → k ≡ 16 * n → i < n → i * 16 + 16 ≤ k
inside n i k e h = omega arith

-- the set that stands in a row after a write: the values 1 .. 1,023 of s
pub set_cut : (n : ℕ) (rs : List ℕ) (i s : ℕ) → Fit n rs → i < n → set_at (put_set rs i s) i ≡ Some (s % 2 ^ 1024 - s % 2 ^ 1024 % 2)
unfolding set_at put_set
set_cut n rs i s f h =
    ap (λ (x : ℕ). marked (x % 2) x) (put_same rs i (bit_or s 1) (inside n i (length rs) f h) ∙ or_mod s 1 1024 ∙ with_one (s % 2 ^ 1024))
    ∙ marked_one (s % 2 ^ 1024)

-- for a set that fits, s without bit 0
pub set_same : (n : ℕ) (rs : List ℕ) (i s : ℕ) → Fit n rs → i < n → s < 2 ^ 1024 → set_at (put_set rs i s) i ≡ Some (s - s % 2)
set_same n rs i s f h l = set_cut n rs i s f h ∙ ap (λ (x : ℕ). Some (x - x % 2)) (mod-eq_of_lt l)

-- a write leaves the other rows
pub set_other : (rs : List ℕ) (i s j : ℕ) → (i ≡ j → ⊥) → set_at (put_set rs i s) j ≡ set_at rs j
unfolding set_at put_set
set_other rs i s j n = ap (λ (x : ℕ). marked (x % 2) x) (put_other rs i (bit_or s 1) j n)

-- past the end it does nothing
pub set_past : (n : ℕ) (rs : List ℕ) (i s : ℕ) → Fit n rs → n ≤ i → put_set rs i s ≡ rs
unfolding put_set
set_past n rs i s f h = put_out rs i (bit_or s 1) (omega arith)

-- what it leaves in a row follows from what stood in that row
pub set_cong : (n : ℕ) (t u : List ℕ) (i s j : ℕ) → Fit n t → Fit n u → set_at t j ≡ set_at u j → set_at (put_set t i s) j ≡ set_at (put_set u i s) j
set_cong n t u i s j f g e = ⊎_elim same (λ d. set_other t i s j d ∙ e ∙ sym (set_other u i s j d)) (same_or_not i j)
  where
    same : i ≡ j → set_at (put_set t i s) j ≡ set_at (put_set u i s) j
    same p = ⊎_elim
        (λ h. ap (set_at (put_set t i s)) (sym p) ∙ set_cut n t i s f h ∙ sym (set_cut n u i s g h) ∙ ap (set_at (put_set u i s)) p)
        (λ h. ap (λ (l : List ℕ). set_at l j) (set_past n t i s f h) ∙ e ∙ sym (ap (λ (l : List ℕ). set_at l j) (set_past n u i s g h)))
        (lt_or_ge i n)

-- ---- what was written has no members but those given

module _ (rs : List ℕ) (i s : ℕ) where
  -- the members of the row that is written are among those of s
  stored : (v : ℕ) → 0 < member (put_set rs i s) i (suc v) → suc v < 1024 → 0 < bit s (suc v)
  unfolding member put_set
  stored v h l = ⊎_elim inside past (lt_or_ge (i * 16 + suc v / 64) (length rs))
    where
      m : ℕ
      m = bit_or s 1

      inside : i * 16 + suc v / 64 < length rs → 0 < bit s (suc v)
      inside p =
          let e : bit (row_word (put_row rs i m) i (suc v / 64)) (suc v % 64) ≡ bit m (suc v) =
          ap (λ (x : ℕ). bit x (suc v % 64)) (put_word_is rs i m (suc v / 64) (omega arith) p)
          ∙ bit_word m (suc v / 64) (suc v % 64) (omega arith)
          ∙ ap (bit m) (let z : 64 * (suc v / 64) + suc v % 64 ≡ suc v = omega arith in z) in
          let f : bit m (suc v) ≡ max (bit s (suc v)) (bit 1 (suc v)) = bit_or_is s 1 (suc v) in
          let o : bit 1 (suc v) ≡ 0 = bit_one v in
          omega arith

      past : length rs ≤ i * 16 + suc v / 64 → 0 < bit s (suc v)
      past p =
          let z : bit (row_word (put_row rs i m) i (suc v / 64)) (suc v % 64) ≡ 0 = ap (λ (x : ℕ). bit x (suc v % 64)) (row_out (put_row rs i m) i (suc v / 64) (let len = put_length rs i m in omega arith)) ∙ bit_zero (suc v % 64) in
          absurd (omega arith)

  -- what is left of the row without bit 0
  fewer : (x : ℕ) → x ≡ row_number (put_set rs i s) i → (v : ℕ) → 0 < bit (x - x % 2) v → 0 < bit s v
  fewer x e zero h = absurd (lt_irrefl 0 (subst (λ (y : ℕ). 0 < y) (bit_even_low x) h))
  fewer x e (suc v) h = ⊎_elim
      (λ l. stored v (subst (λ (y : ℕ). 0 < y) (bit_even x v ∙ ap (λ (y : ℕ). bit y (suc v)) e ∙ bit_row (put_set rs i s) i (suc v) l) h) l)
      (λ l. absurd (lt_irrefl 0 (subst (λ (y : ℕ). 0 < y) (bit_even x v ∙ ap (λ (y : ℕ). bit y (suc v)) e ∙ bit_high 1024 (row_number (put_set rs i s) i) (suc v) (row_fits (put_set rs i s) i) l) h)))
      (lt_or_ge (suc v) 1024)

  all_stored : (P : ℕ → Type 0) → All P (members s) → All P (values_of (set_at (put_set rs i s) i))
  unfolding set_at
  all_stored P a = go (row_number (put_set rs i s) i % 2) refl
    where
      x : ℕ
      x = row_number (put_set rs i s) i

      go : (d : ℕ) → x % 2 ≡ d → All P (values_of (marked d x))
      go zero e = tt
      go (suc d) e =
          let l : x % 2 < 2 = mod-lt x (zero-lt-suc 1) in
          let p : x % 2 ≡ 1 = omega arith in
          subst (λ (y : ℕ). All P (members (x - y))) p (all_fewer P s (x - x % 2) (fewer x refl) a)

-- whatever holds of the values of s, and of those of a row before, holds of those of the row after s is stored
pub set_has : (P : ℕ → Type 0) (rs : List ℕ) (i s j : ℕ) → All P (members s) → All P (values_of (set_at rs j)) → All P (values_of (set_at (put_set rs i s) j))
set_has P rs i s j a b = ⊎_elim
    (λ e. subst (λ (k : ℕ). All P (values_of (set_at (put_set rs i s) k))) e (all_stored rs i s P a))
    (λ n. subst (λ (o : Option ℕ). All P (values_of o)) (sym (set_other rs i s j n)) b)
    (same_or_not i j)

-- ---- copies and unions, as writes of a set

pub copy_is : (rs : List ℕ) (into from s : ℕ) → set_at rs from ≡ Some s → copy_set rs into from ≡ put_set rs into s
unfolding copy_set
copy_is rs into from s h = ap (copied rs into) h

pub copy_not : (rs : List ℕ) (into from : ℕ) → set_at rs from ≡ None → copy_set rs into from ≡ rs
unfolding copy_set
copy_not rs into from h = ap (copied rs into) h

pub append_is : (rs : List ℕ) (place value s t : ℕ) → set_at rs place ≡ Some s → set_at rs value ≡ Some t → append_set rs place value ≡ put_set rs place (bit_or s t)
unfolding append_set
append_is rs place value s t h k = ap₂ (appended rs place) h k

pub append_not_place : (rs : List ℕ) (place value : ℕ) → set_at rs place ≡ None → append_set rs place value ≡ rs
unfolding append_set
append_not_place rs place value h = ap (λ (o : Option ℕ). appended rs place o (set_at rs value)) h

pub append_not_value : (rs : List ℕ) (place value s : ℕ) → set_at rs place ≡ Some s → set_at rs value ≡ None → append_set rs place value ≡ rs
unfolding append_set
append_not_value rs place value s h k = ap₂ (appended rs place) h k

-- ---- a set in hand

or_turn : (s w : ℕ) (l : List ℕ) → or_word s w l ≡ set l (0 + w) (bit_or (get_or l (0 + w) 0) (word_of s w))
unfolding or_word
or_turn s w l = ap (λ (k : ℕ). set l k (bit_or (get_or l k 0) (word_of s w))) (let z : w ≡ 0 + w = omega arith in z)

pub add_length : (l : List ℕ) (s : ℕ) → length (add_set l s) ≡ length l
unfolding add_set
add_length l s = words_length (or_word s) 0 (λ w x. bit_or x (word_of s w)) (or_turn s) 16 0 l

-- a word of it
pub add_word : (l : List ℕ) (s w : ℕ) → w < 16 → w < length l → get_or (add_set l s) w 0 ≡ bit_or (get_or l w 0) (word_of s w)
unfolding add_set
add_word l s w p h =
    let z : 0 + w ≡ w = omega arith in
    ap (λ (u : ℕ). get_or (upto (or_word s) 16 0 l) u 0) (sym z)
    ∙ words_at (or_word s) 0 (λ w x. bit_or x (word_of s w)) (or_turn s) 16 0 l w (omega arith) (omega arith) (omega arith)
    ∙ ap (λ (u : ℕ). bit_or (get_or l u 0) (word_of s w)) z

pub add_far : (l : List ℕ) (s w : ℕ) → 16 ≤ w → get_or (add_set l s) w 0 ≡ get_or l w 0
unfolding add_set
add_far l s w h = words_other (or_word s) 0 (λ w x. bit_or x (word_of s w)) (or_turn s) 16 0 l w (λ u p q e. omega arith)

-- read as a number it is the union, where it has 16 words
pub add_number : (l : List ℕ) (s : ℕ) → 16 ≤ length l → number 16 (add_set l s) 0 ≡ bit_or (number 16 l 0) s % 2 ^ 1024
add_number l s h = number_words 16 (add_set l s) 0 (bit_or (number 16 l 0) s) word
  where
    word : (k : ℕ) → k < 16 → get_or (add_set l s) (0 + k) 0 % 2 ^ 64 ≡ word_of (bit_or (number 16 l 0) s) k
    word k p =
        let z : 0 + k ≡ k = omega arith in
        ap (λ (u : ℕ). get_or (add_set l s) u 0 % 2 ^ 64) z
        ∙ ap (λ (x : ℕ). x % 2 ^ 64) (add_word l s k p (omega arith))
        ∙ or_mod (get_or l k 0) (word_of s k) 64
        ∙ ap₂ bit_or (ap (λ (u : ℕ). get_or l u 0 % 2 ^ 64) (sym z) ∙ sym (word_number 16 l 0 k p)) (word_fits s k)
        ∙ sym (word_or (number 16 l 0) s k)

-- and no bit is lost of a set that fits
pub add_fits : (l : List ℕ) (s : ℕ) → 16 ≤ length l → s < 2 ^ 1024 → number 16 (add_set l s) 0 ≡ bit_or (number 16 l 0) s
add_fits l s h f = add_number l s h ∙ mod-eq_of_lt (or_lt 1024 (number 16 l 0) s (number_fits l 0) f)

bits_fit : (d n : ℕ) → n < 2 ^ 1024 → bits_of (marked d n) < 2 ^ 1024
bits_fit zero n h = lit< tt
bits_fit (suc d) n h = lt_of_le_of_lt (sub-le n 1) h

-- the set of an identifier fits
pub bits_small : (rs : List ℕ) (i : ℕ) → bits_of (set_at rs i) < 2 ^ 1024
unfolding set_at
bits_small rs i = bits_fit (row_number rs i % 2) (row_number rs i) (row_fits rs i)

-- a union of sets of identifiers: what a loop over `add_set` cites
pub add_row : (rs : List ℕ) (i : ℕ) (k l : List ℕ) → 16 ≤ length k → l ≡ add_set k (bits_of (set_at rs i)) → number 16 l 0 ≡ bit_or (number 16 k 0) (bits_of (set_at rs i))
add_row rs i k l h e = ap (λ (l : List ℕ). number 16 l 0) e ∙ add_fits k (bits_of (set_at rs i)) h (bits_small rs i)
