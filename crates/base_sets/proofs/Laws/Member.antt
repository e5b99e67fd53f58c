-- What holds of every member: of one value, of a union, of a list. Assumes nothing.
use Rattle.std.specs.Prelude.{ℕ, zero, suc, ◌+◌, ◌/◌, ◌%◌, ◌^◌, ◌<◌, ◌≤◌, max, ◌≡◌, refl}
use Rattle.std.proofs.Common.{le_refl, not-suc-le-zero, add-suc, suc-add, add-zero, pow-suc, mul-div_cancel, zero-lt-suc, arith, sym, ap, ap₂, ◌∙◌, subst}
use Rattle.std.proofs.Math.Nat.{mul-mod_left}
use Rattle.std.proofs.Math.Decide.{le_ind}
use mathlib.Core.List.{List, [], ◌∷◌, Memᴰ}
use Rattle.std.proofs.Math.Arith.{bin_ind, half_le}
use Rattle.std.specs.Int.Bits.{bit_or}
use Rattle.base_orders.proofs.Laws.Union.{or_half, or_odd}
use Rattle.base_sets.specs.Members.{under, digits_from, members, singleton, union}
use Rattle.base_tests.specs.Tests.{All}

pub all_of : {A : Type 0} {P : A → Type 0} (l : List A) → ((x : A) → Memᴰ x l → P x) → All P l
all_of [] h = tt
all_of (x ∷ xs) h = (h x (Memᴰ.head refl), all_of xs (λ y m. h y (Memᴰ.tail m)))

pub all_map : {A : Type 0} {P Q : A → Type 0} (l : List A) → ((x : A) → P x → Q x) → All P l → All Q l
all_map [] h a = tt
all_map (x ∷ xs) h a = (h x a.0, all_map xs h a.1)

-- ---- digits

none_left : (f b : ℕ) → digits_from f b zero ≡ []
unfolding digits_from
none_left zero b = refl
none_left (suc f) b = refl

step : (f b n : ℕ) → digits_from (suc f) b n ≡ under (n % 2) b (digits_from f (suc b) (n / 2))
unfolding digits_from
step f b zero = sym (none_left f (suc b))
step f b (suc n) = refl

more : (f b n : ℕ) → n ≤ f → digits_from (suc f) b n ≡ digits_from f b n
unfolding digits_from
more zero b zero h = refl
more zero b (suc n) h = absurd (not-suc-le-zero h)
more (suc f) b n h = step (suc f) b n ∙ ap (under (n % 2) b) (more f (suc b) (n / 2) (half_le h)) ∙ sym (step f b n)

enough : (f b n : ℕ) → n ≤ f → digits_from f b n ≡ digits_from n b n
enough f b n h = le_ind (λ (m : ℕ). digits_from m b n ≡ digits_from n b n) refl (λ m k e. more m b n k ∙ e) f h

pub all_step : (b n : ℕ) → digits_from n b n ≡ under (n % 2) b (digits_from (n / 2) (suc b) (n / 2))
all_step b zero = none_left zero b ∙ sym (none_left zero (suc b))
all_step b (suc n) = step n b (suc n) ∙ ap (under (suc n % 2) b) (enough n (suc b) (suc n / 2) (half_le (le_refl (suc n))))

of_single : (v b : ℕ) → digits_from (2 ^ v) b (2 ^ v) ≡ (b + v) ∷ []
unfolding digits_from
of_single zero b = ap (λ (x : ℕ). x ∷ []) (sym (add-zero b))
of_single (suc v) b =
    all_step b (2 ^ suc v)
    ∙ ap₂ (λ (x y : ℕ). under x b (digits_from y (suc b) y)) (ap (λ (x : ℕ). x % 2) (pow-suc 2 v) ∙ mul-mod_left (2 ^ v) 2) (ap (λ (x : ℕ). x / 2) (pow-suc 2 v) ∙ mul-div_cancel (2 ^ v) (zero-lt-suc 1))
    ∙ of_single v (suc b) ∙ ap (λ (x : ℕ). x ∷ []) (suc-add b v ∙ sym (add-suc b v))

-- the set of one value has just that member
pub members_singleton : (v : ℕ) → members (singleton v) ≡ v ∷ []
unfolding members
members_singleton v = of_single v 0 ∙ ap (λ (x : ℕ). x ∷ []) (let e : 0 + v ≡ v = omega arith in e)

pub all_singleton : (P : ℕ → Type 0) (v : ℕ) → P v → All P (members (singleton v))
all_singleton P v p = subst (All P) (sym (members_singleton v)) (p, tt)

-- ---- a member of a union is a member of one of the two

rest : (P : ℕ → Type 0) (d b : ℕ) (l : List ℕ) → All P (under d b l) → All P l
rest P zero b l a = a
rest P (suc d) b l a = a.1

either : (P : ℕ → Type 0) (d e b : ℕ) (k l r : List ℕ) → All P (under d b k) → All P (under e b l) → All P r → All P (under (max d e) b r)
either P zero zero b k l r p q a = a
either P zero (suc e) b k l r p q a = subst (λ (x : ℕ). All P (under x b r)) (let z : suc e ≡ max 0 (suc e) = omega arith in z) (q.0, a)
either P (suc d) e b k l r p q a = go (max (suc d) e) (let z : 0 < max (suc d) e = omega arith in z)
  where
    go : (x : ℕ) → 0 < x → All P (under x b r)
    go zero h = absurd (not-suc-le-zero h)
    go (suc x) h = (p.0, a)

all_or : (P : ℕ → Type 0) (m b n : ℕ) → All P (digits_from m b m) → All P (digits_from n b n) → All P (digits_from (bit_or m n) b (bit_or m n))
all_or P =
    bin_ind (λ (m : ℕ). (b n : ℕ) → All P (digits_from m b m) → All P (digits_from n b n) → All P (digits_from (bit_or m n) b (bit_or m n))) (λ b n p q. q)
    (λ m ih b n p q.
    let p' : All P (under (m % 2) b (digits_from (m / 2) (suc b) (m / 2))) = subst (All P) (all_step b m) p in
    let q' : All P (under (n % 2) b (digits_from (n / 2) (suc b) (n / 2))) = subst (All P) (all_step b n) q in
    subst (All P) (sym (all_step b (bit_or m n) ∙ ap₂ (λ (x y : ℕ). under x b (digits_from y (suc b) y)) (or_odd m n) (or_half m n)))
    (either P (m % 2) (n % 2) b _ _ _ p' q' (ih (suc b) (n / 2) (rest P (m % 2) b _ p') (rest P (n % 2) b _ q'))))

pub all_union : (P : ℕ → Type 0) (m n : ℕ) → All P (members m) → All P (members n) → All P (members (union m n))
unfolding members
all_union P m n p q = all_or P m 0 n p q
