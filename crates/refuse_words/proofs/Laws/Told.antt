-- What a test earns is told by: a refusal by its number and its verdict's class, a number by itself. Assumes nothing.
use Rattle.std.specs.Prelude.{ℕ, ◌≡◌, refl, Result}
use Rattle.def_refusals.specs.declared.Refusal.{Refusal}
use Rattle.def_refusals.specs.Verdicts.{number_of, class_of}
use Rattle.refuse_words.specs.contracts.RefusalEarned.TheImpl as of_refusal
use Rattle.refuse_words.specs.contracts.U32Earned.TheImpl as of_number

pub refusal_number : (r : Refusal) → of_refusal.number-value.it r ≡ number_of r
refusal_number r = refl

pub refusal_class : (v : Result (Unit {0}) Refusal) → of_refusal.class-value.it v ≡ class_of v
refusal_class v = refl

pub number_itself : (n : ℕ) → of_number.number-value.it n ≡ n
number_itself n = refl

pub number_class : (n : ℕ) → of_number.class-value.it n ≡ n
number_class n = refl
