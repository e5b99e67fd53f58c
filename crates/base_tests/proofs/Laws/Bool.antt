-- Tests: both, either, turned round; and what a test that antt computed shows. Assumes nothing.
use Rattle.std.specs.Prelude.{◌≡◌, refl, Bool, true, false, not, ◌&&◌, ◌||◌, T, ℕ}
use Rattle.std.proofs.Common.{ap, ◌∙◌, arith}

-- both tests passed, so each did
pub both_left : (a b : Bool) → T (a && b) → T a
both_left true b t = tt
both_left false b t = absurd t

pub both_right : (a b : Bool) → T (a && b) → T b
both_right true b t = t
both_right false b t = absurd t

pub both : (a b : Bool) → T a → T b → T (a && b)
both true b t u = u
both false b t u = absurd t

-- a test that was turned round
pub not_true : (b : Bool) → not b ≡ true → b ≡ false
not_true true e = cc
not_true false e = refl

pub not-false : (b : Bool) → not b ≡ false → b ≡ true
not-false true e = refl
not-false false e = cc

-- both tests, from what each says
pub and_false : (a b : Bool) → b ≡ false → (a && b) ≡ false
and_false true b e = e
and_false false b e = refl

pub and_true : (a b : Bool) → a ≡ true → b ≡ true → (a && b) ≡ true
and_true true b e f = f
and_true false b e f = e

-- a test that passed and did not: anything follows
pub never : {A : Type 0} (b : Bool) → b ≡ true → b ≡ false → A
never b p q = let z : ◌≡◌ {A = ℕ} 0 1 = cc in absurd (omega arith)

-- the first passed, or it did not and the second decides
pub or_first : (a b : Bool) → a ≡ true → (a || b) ≡ true
or_first a b e = ap (λ (x : Bool). x || b) e

pub or_second : (a b : Bool) → a ≡ false → (a || b) ≡ b
or_second a b e = ap (λ (x : Bool). x || b) e

-- neither passed, where one of two did not
pub or_no_first : (a b : Bool) → (a || b) ≡ false → a ≡ false
or_no_first true b e = e
or_no_first false b e = refl

pub or_no_second : (a b : Bool) → (a || b) ≡ false → b ≡ false
or_no_second true b e = never true refl e
or_no_second false b e = e

pub or_neither : (a b : Bool) → a ≡ false → b ≡ false → (a || b) ≡ false
or_neither a b e f = or_second a b e ∙ f

-- both have to pass
pub and_first : (a b : Bool) → a ≡ true → (a && b) ≡ b
and_first a b e = ap (λ (x : Bool). x && b) e

pub and_no : (a b : Bool) → a ≡ false → (a && b) ≡ false
and_no a b e = ap (λ (x : Bool). x && b) e

-- a test turned round
pub not_of_true : (a : Bool) → a ≡ true → not a ≡ false
not_of_true a e = ap not e

pub not_of_false : (a : Bool) → a ≡ false → not a ≡ true
not_of_false a e = ap not e

pub passes : (a : Bool) → a ≡ false → T (not a)
passes true e = never true refl e
passes false e = tt
