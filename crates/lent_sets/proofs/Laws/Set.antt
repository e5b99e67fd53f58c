-- Laws of a set's members by its bits: what holds of every member, what is left from v on, how many there are. Assumes nothing.
use Rattle.std.specs.Prelude.{◌≡◌, refl, List, [], ◌∷◌, ℕ, zero, suc, ◌+◌, ◌/◌, ◌%◌, ◌^◌, ◌≤◌, ◌<◌, length}
use Rattle.std.proofs.Common.{sym, ap, ◌∙◌, not-suc-le-zero, zero-lt-suc, add-zero, add-suc, suc-add, div-one, lt_of_lt_of_le, mod-lt, add-one, shr-shr, pow_mono}
use Rattle.std.proofs.Math.Path.{subst}
use Rattle.std.proofs.Math.Nat.{div-eq_of_lt}
use native.Mathlib.Omega.{arith}
use Rattle.std.proofs.Math.Arith.{bin_ind}
use Rattle.std.specs.Int.Count.{ones, ones_step}
use Rattle.base_sets.specs.Members.{under, digits_from, members}
use Rattle.base_tests.specs.Tests.{All}
use Rattle.base_sets.proofs.Laws.Member.{all_step}
use Rattle.lent_sets.specs.Rows.{bit, pick, seek, left}
use Rattle.lent_sets.proofs.Laws.Bit.{bit_low, bit_suc, bit_zero}

-- ---- what holds of every member, by bits

module _ (P : ℕ → Type 0) where
  first : (d b : ℕ) (l : List ℕ) → 0 < d → All P (under d b l) → P b
  first zero b l h a = absurd (not-suc-le-zero h)
  first (suc d) b l h a = a.0

  rest : (d b : ℕ) (l : List ℕ) → All P (under d b l) → All P l
  rest zero b l a = a
  rest (suc d) b l a = a.1

  bits_from : (s b : ℕ) → All P (digits_from s b s) → (v : ℕ) → 0 < bit s v → P (b + v)
  bits_from =
      bin_ind (λ (s : ℕ). (b : ℕ) → All P (digits_from s b s) → (v : ℕ) → 0 < bit s v → P (b + v))
      (λ b a v h. absurd (not-suc-le-zero (subst (λ (x : ℕ). 0 < x) (bit_zero v) h)))
      (λ s ih b a v h. go s ih b (subst (All P) (all_step b s) a) v h)
    where
      go : (s : ℕ) → ((b : ℕ) → All P (digits_from (s / 2) b (s / 2)) → (v : ℕ) → 0 < bit (s / 2) v → P (b + v)) → (b : ℕ) → All P (under (s % 2) b (digits_from (s / 2) (suc b) (s / 2))) → (v : ℕ) → 0 < bit s v → P (b + v)
      go s ih b a zero h = subst P (sym (add-zero b)) (first (s % 2) b _ (subst (λ (x : ℕ). 0 < x) (bit_low s) h) a)
      go s ih b a (suc v) h =
          subst P (suc-add b v ∙ sym (add-suc b v)) (ih (suc b) (rest (s % 2) b _ a) v (subst (λ (x : ℕ). 0 < x) (bit_suc s v) h))

  no_digits : (b : ℕ) → All P (digits_from 0 (suc b) 0)
  unfolding digits_from
  no_digits b = tt

  from_bits : (s b : ℕ) → ((v : ℕ) → 0 < bit s v → P (b + v)) → All P (digits_from s b s)
  from_bits =
      bin_ind (λ (s : ℕ). (b : ℕ) → ((v : ℕ) → 0 < bit s v → P (b + v)) → All P (digits_from s b s))
      (λ b h. subst (All P) (sym (all_step b 0)) (no_digits b))
      (λ s ih b h. subst (All P) (sym (all_step b s)) (go s b h (ih (suc b) (λ v p. subst P (sym (suc-add b v ∙ sym (add-suc b v))) (h (suc v) (subst (λ (x : ℕ). 0 < x) (sym (bit_suc s v)) p))))))
    where
      go : (s b : ℕ) → ((v : ℕ) → 0 < bit s v → P (b + v)) → All P (digits_from (s / 2) (suc b) (s / 2)) → All P (under (s % 2) b (digits_from (s / 2) (suc b) (s / 2)))
      go s b h a = by (s % 2) refl
        where
          by : (d : ℕ) → s % 2 ≡ d → All P (under d b (digits_from (s / 2) (suc b) (s / 2)))
          by zero e = a
          by (suc d) e = (subst P (add-zero b) (h 0 (subst (λ (x : ℕ). 0 < x) (sym (bit_low s ∙ e)) (zero-lt-suc d))), a)

  -- it holds of each value whose bit is set
  pub bits_of_is : (s : ℕ) → All P (members s) → (v : ℕ) → 0 < bit s v → P v
  unfolding members
  bits_of_is s a v h = subst P (let e : 0 + v ≡ v = omega arith in e) (bits_from s 0 a v h)

  -- and of every member where it holds of each such value
  pub all_bits : (s : ℕ) → ((v : ℕ) → 0 < bit s v → P v) → All P (members s)
  unfolding members
  all_bits s h = from_bits s 0 (λ v p. subst P (let e : v ≡ 0 + v = omega arith in e) (h v p))

  -- so what holds of every member of a set holds of every member of one whose bits are among its bits
  pub all_fewer : (s t : ℕ) → ((v : ℕ) → 0 < bit t v → 0 < bit s v) → All P (members s) → All P (members t)
  all_fewer s t h a = all_bits t (λ v p. bits_of_is s a v (h v p))

-- ---- what is left from v on

pub members_left : (s : ℕ) → members s ≡ left s 0
unfolding members left
members_left s = ap (λ (n : ℕ). digits_from n 0 n) (sym (div-one s))

pub left_step : (s v : ℕ) → left s v ≡ under (bit s v) v (left s (suc v))
unfolding left bit
left_step s v =
    all_step v (s / 2 ^ v)
    ∙ ap (λ (n : ℕ). under (s / 2 ^ v % 2) v (digits_from n (suc v) n)) (shr-shr s v 1 ∙ ap (λ (k : ℕ). s / 2 ^ k) (add-one v))

-- a value that is no member is skipped
pub left_skip : (s v : ℕ) → bit s v ≡ 0 → left s v ≡ left s (suc v)
left_skip s v e = left_step s v ∙ ap (λ (b : ℕ). under b v (left s (suc v))) e

-- a member comes first
pub left_here : (s v : ℕ) → 0 < bit s v → left s v ≡ v ∷ left s (suc v)
left_here s v h = left_step s v ∙ go (bit s v) h
  where
    go : (b : ℕ) → 0 < b → under b v (left s (suc v)) ≡ v ∷ left s (suc v)
    go zero h = absurd (not-suc-le-zero h)
    go (suc b) h = refl

-- past the last bit nothing is left
pub left_none : (n s v : ℕ) → s < 2 ^ n → n ≤ v → left s v ≡ []
unfolding left digits_from
left_none n s v h l = ap (λ (x : ℕ). digits_from x v x) (div-eq_of_lt (lt_of_lt_of_le h (pow_mono l)))

-- as much is left from the next member on
pub left_seek : (f : ℕ → ℕ) (s n v u : ℕ) → ((k : ℕ) → v ≤ k → k < v + n → f k ≡ bit s k) → u ≡ seek f n v → left s v ≡ left s u
unfolding seek
left_seek f s zero v u h e = ap (left s) (sym e)
left_seek f s (suc n) v u h e = go (left_seek f s n (suc v) u (λ k p q. h k (omega arith) (omega arith))) (f v) refl e
  where
    go : (u ≡ seek f n (suc v) → left s (suc v) ≡ left s u) → (b : ℕ) → f v ≡ b → u ≡ pick b v (seek f n (suc v)) → left s v ≡ left s u
    go ih zero q e = left_skip s v (sym (h v (omega arith) (omega arith)) ∙ q) ∙ ih e
    go ih (suc b) q e = ap (left s) (sym e)

-- ---- how many there are

no_bits : (b : ℕ) → ones 0 ≡ length (digits_from 0 b 0)
unfolding ones digits_from
no_bits b = refl

count_from : (s b : ℕ) → ones s ≡ length (digits_from s b s)
count_from =
    bin_ind (λ (s : ℕ). (b : ℕ) → ones s ≡ length (digits_from s b s)) no_bits
    (λ s ih b. ones_step s ∙ go s b (ih (suc b)) ∙ ap length (sym (all_step b s)))
  where
    by : (d b x : ℕ) (l : List ℕ) → d < 2 → x ≡ length l → d + x ≡ length (under d b l)
    by zero b x l h e = omega arith
    by (suc zero) b x l h e = omega arith
    by (suc (suc d)) b x l h e = absurd (omega arith)

    go : (s b : ℕ) → ones (s / 2) ≡ length (digits_from (s / 2) (suc b) (s / 2)) → s % 2 + ones (s / 2) ≡ length (under (s % 2) b (digits_from (s / 2) (suc b) (s / 2)))
    go s b ih = by (s % 2) b (ones (s / 2)) (digits_from (s / 2) (suc b) (s / 2)) (mod-lt s (zero-lt-suc 1)) ih

-- as many as bits are set
pub members_count : (s : ℕ) → ones s ≡ length (members s)
unfolding members
members_count s = count_from s 0
