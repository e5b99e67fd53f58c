-- Laws of the ranges: what is fresh, made or read of a table is in its range. Assumes nothing.
use Rattle.std.specs.Prelude.{ℕ, zero, suc, ◌+◌, ◌*◌, ◌/◌, ◌%◌, ◌^◌, ◌≤◌, ◌<◌, ◌≡◌, Option, None, Some}
use Rattle.std.proofs.Common.{pow-suc, arith, sym, ap, ◌∙◌, subst}
use Rattle.std.proofs.Math.Nat.{mul-mod_left}
use Rattle.std.proofs.Math.Pow.{pow-lt}
use Rattle.base_sets.specs.Members.{under, digits_from, members, singleton, values_of}
use Rattle.base_tests.specs.Tests.{All}
use Rattle.base_sets.proofs.Laws.Member.{all_map, all_step}
use Rattle.def_kinds.specs.declared.ValueKind.{ValueKind}
use Rattle.def_kinds.specs.Reasons as Reasons
use Rattle.def_kinds.specs.Values.{mk, default}
use Rattle.def_transfer.specs.State.{from_identifier}
use Rattle.def_faithful.specs.Ranges.{Number, Fresh, IsSet, Pointing, Reasoned}

-- a fresh number is a value number
pub fresh_number_is : (v : ℕ) → Fresh v → Number v
fresh_number_is v h = record { low = h.low; high = let x = h.high in omega arith }

-- so is 512 + i
pub own_number : (n i : ℕ) → n ≤ 512 → i < n → Number (from_identifier i)
own_number n i h l = record { low = omega arith; high = omega arith }

-- one reason is a word
pub single_reasoned : (k : ValueKind) (r : ℕ) → Reasoned (mk k (Reasons.single r))
single_reasoned k r = record { word = omega arith }

pub none_reasoned : (k : ValueKind) → Reasoned (mk k 0)
none_reasoned k = record { word = omega arith }

pub default_reasoned : Reasoned default
default_reasoned = record { word = omega arith }

half : (k s : ℕ) → s < 2 ^ suc k → s / 2 < 2 ^ k
half k s h = let p : 2 ^ suc k ≡ 2 ^ k * 2 = pow-suc 2 k in omega arith

abbrev Between : ℕ → ℕ → ℕ → Type 0
Between b k v = (b ≤ v) × (v < b + k)

-- the digits of a number below 2 ^ k
digits_range : (k b s : ℕ) → s < 2 ^ k → All (Between b k) (digits_from s b s)
unfolding digits_from
digits_range zero b s h = let z : s ≡ 0 = omega arith in subst (λ (x : ℕ). All (Between b 0) (digits_from x b x)) (sym z) tt
digits_range (suc k) b s h =
    subst (All (Between b (suc k))) (sym (all_step b s))
    (go (s % 2) (all_map {P = Between (suc b) k} {Q = Between b (suc k)} (digits_from (s / 2) (suc b) (s / 2)) (λ v x. let y = x.0 in let z = x.1 in (omega arith, omega arith)) (digits_range k (suc b) (s / 2) (half k s h))))
  where
    go : (d : ℕ) → All (Between b (suc k)) (digits_from (s / 2) (suc b) (s / 2)) → All (Between b (suc k)) (under d b (digits_from (s / 2) (suc b) (s / 2)))
    go zero a = a
    go (suc d) a = ((omega arith, omega arith), a)

-- those of an even one start at 1
even_digits : (k s : ℕ) → s < 2 ^ suc k → s % 2 ≡ 0 → All (Between 1 k) (digits_from s 0 s)
even_digits k s h e = subst (All (Between 1 k)) (sym (all_step 0 s ∙ ap (λ (d : ℕ). under d 0 (digits_from (s / 2) 1 (s / 2))) e)) (digits_range k 1 (s / 2) (half k s h))

-- the members of a set are value numbers
pub set_members : (s : ℕ) → IsSet s → All Number (members s)
unfolding members
set_members s h = all_map {P = Between 1 1023} {Q = Number} (members s) (λ v x. let y = x.0 in let z = x.1 in record { low = y; high = omega arith }) (even_digits 1023 s h.small h.even)

pub pointing_members : (o : Option ℕ) → Pointing o → All Number (values_of o)
pointing_members None h = tt
pointing_members (Some s) h = set_members s h

-- the set of one value number
pub singleton_set : (v : ℕ) → Number v → IsSet (singleton v)
singleton_set zero h = let l = h.low in absurd (omega arith)
singleton_set (suc v) h = record { small = pow-lt {i = suc v} {j = 1024} h.high; even = ap (λ (x : ℕ). x % 2) (pow-suc 2 v) ∙ mul-mod_left (2 ^ v) 2 }
