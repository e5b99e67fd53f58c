-- An accepted image makes an accepted call: where its words earn no refusal, the call for its instruction earns none of 1 to 5. Assumes nothing.
use Rattle.std.specs.Prelude.{ℕ, ◌<◌, ◌≡◌}
use Rattle.std.proofs.Common.{◌∙◌}
use Rattle.std.proofs.Math.Path.{ap}
use Rattle.def_image.specs.Layout.{Image, word}
use Rattle.def_image.specs.Refusals.{refusal_of_words}
use Rattle.call_outcome.specs.Calls.{call_class}
use Rattle.image_outcome.specs.Inferring.{image_call}
use Rattle.laws_image_accepted.proofs.Laws.Records.{lower_both, earns_not}
use Rattle.laws_image_accepted.proofs.Laws.Lengths.{call_is}
use Rattle.laws_image_accepted.proofs.Laws.Counted.{lengths_right}
use Rattle.laws_image_accepted.proofs.Laws.State.{state_right}
use Rattle.laws_image_accepted.proofs.Laws.Classes.{context_none, instruction_none}

module _ (im : Image) (small : (i : ℕ) → word im i < 4294967296) (ok : refusal_of_words im ≡ 0) where
  -- an accepted image makes an accepted call: "Order 1 to 5 over the whole input; then the first met as the steps run"
  -- so what `infer` refuses an accepted image with is 6 to 11; its words are of 32 bits
  pub accepted_call : call_class (image_call im) ≡ 0
  unfolding call_class
  accepted_call =
      ap call_class (call_is im)
      ∙ lower_both _ _ (earns_not 1 _ (lengths_right im ok)) (lower_both _ _ (state_right im ok) (lower_both _ _ (context_none im small ok) (instruction_none im small ok)))
