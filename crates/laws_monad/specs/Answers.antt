-- What code answers as a computation. Assumes nothing: these are definitions.
use Rattle.std.specs.Prelude.{ℕ, zero, suc, Result, Ok, Err}
use Rattle.def_transfer.specs.Monad.{Res, ok, refused}
use Rattle.def_refusals.specs.declared.Refusal.{Refusal}
use Rattle.def_refusals.specs.Verdicts.{number_of}

-- an answer of the code: 0 goes on with what it answers, any other number is a refusal
-- what is refused ends in the world where it was refused
unfoldable pub answer : {W A : Type 0} → ℕ → A → W → Res W A
answer zero a w = ok a w
answer (suc n) a w = refused (suc n) w

-- a result of the code: it goes on with what follows, or is refused with the number of its refusal
-- what is refused ends in the world where it was refused
abbrev pub answers : {W A B : Type 0} → Result A Refusal → (A → Res W B) → W → Res W B
answers (Ok a) next w = next a
answers (Err refusal) next w = refused (number_of refusal) w
