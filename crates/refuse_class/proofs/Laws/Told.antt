-- What a class is told by: a verdict by the number of its refusal, a number by itself. Assumes nothing.
use Rattle.std.specs.Prelude.{ℕ, ◌≡◌, refl, Result}
use Rattle.def_refusals.specs.declared.Refusal.{Refusal}
use Rattle.def_refusals.specs.Verdicts.{class_of}
use Rattle.refuse_class.specs.contracts.VerdictClass.TheImpl as of_verdict
use Rattle.refuse_class.specs.contracts.U32Class.TheImpl as of_number

pub verdict_class : (v : Result (Unit {0}) Refusal) → of_verdict.class-value.it v ≡ class_of v
verdict_class v = refl

pub number_class : (n : ℕ) → of_number.class-value.it n ≡ n
number_class n = refl
