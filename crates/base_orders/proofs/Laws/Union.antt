-- The union of two sets of bits, each one number with a bit for each member: the laws of a join. Assumes nothing.
use Rattle.std.specs.Prelude.{ℕ, ◌+◌, ◌*◌, ◌/◌, ◌%◌, ◌<◌, max, ◌≡◌, refl}
use Rattle.std.proofs.Common.{arith, sym, ap, ap₂, ◌∙◌}
use Rattle.std.proofs.Math.Arith.{bin_ind, digits_div, digits_mod}
use Rattle.std.specs.Int.Bits.{bit_or, or_step, or_self}
use Rattle.std.proofs.lemmas.Nat.{or_comm}
use Rattle.base_orders.specs.Join.{Joins}

digit_lt : (a b : ℕ) → max (a % 2) (b % 2) < 2
digit_lt a b = omega arith

-- the union's upper bits, and its lowest
pub or_half : (a b : ℕ) → bit_or a b / 2 ≡ bit_or (a / 2) (b / 2)
or_half a b = ap (λ (x : ℕ). x / 2) (or_step a b) ∙ digits_div (bit_or (a / 2) (b / 2)) (digit_lt a b)

pub or_odd : (a b : ℕ) → bit_or a b % 2 ≡ max (a % 2) (b % 2)
or_odd a b = ap (λ (x : ℕ). x % 2) (or_step a b) ∙ digits_mod (bit_or (a / 2) (b / 2)) (digit_lt a b)

max_assoc : (a b c : ℕ) → max (max a b) c ≡ max a (max b c)
max_assoc a b c = omega arith

pub or_assoc : (a b c : ℕ) → bit_or (bit_or a b) c ≡ bit_or a (bit_or b c)
or_assoc a =
    bin_ind (λ (n : ℕ). (b c : ℕ) → bit_or (bit_or n b) c ≡ bit_or n (bit_or b c)) (λ b c. refl)
    (λ n ih b c.
    or_step (bit_or n b) c
    ∙ ap₂ (λ (x y : ℕ). bit_or x (c / 2) * 2 + max y (c % 2)) (or_half n b) (or_odd n b)
    ∙ ap₂ (λ (x y : ℕ). x * 2 + y) (ih (b / 2) (c / 2)) (max_assoc (n % 2) (b % 2) (c % 2))
    ∙ ap₂ (λ (x y : ℕ). bit_or (n / 2) x * 2 + max (n % 2) y) (sym (or_half b c)) (sym (or_odd b c))
    ∙ sym (or_step n (bit_or b c))) a

pub or_joins : Joins ℕ bit_or
or_joins = record { same = or_self; comm = or_comm; assoc = or_assoc }
