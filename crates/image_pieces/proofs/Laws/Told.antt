-- What a job comes to: what is shown or the refusal by its number, and a number by itself. Assumes nothing.
use Rattle.std.specs.Prelude.{ℕ, ◌≡◌, refl, Result}
use Rattle.def_refusals.specs.declared.Refusal.{Refusal}
use Rattle.image_pieces.specs.declared.Shown.{Shown}
use Rattle.image_pieces.specs.Pieces.{answer_of, refused_as}
use Rattle.image_pieces.specs.contracts.ResultShownRefusalTold.TheImpl as of_result
use Rattle.image_pieces.specs.contracts.U32Told.TheImpl as of_number

pub result_told : (a : Result Shown Refusal) → of_result.answer-value.it a ≡ answer_of a
result_told a = refl

pub number_told : (n : ℕ) → of_number.answer-value.it n ≡ refused_as n
number_told n = refl
