-- The program `infer`: an image's bytes in, the listing's bytes out. Assumes nothing: these are definitions.
use Rattle.std.specs.Prelude.{ℕ, zero, suc, List}
use Rattle.def_transfer.specs.Instruction.{apply_signature}
use Rattle.def_image.specs.Layout.{Image, words_of}
use Rattle.def_image.specs.Refusals.{refusal_of}
use Rattle.def_image.specs.Decode.{world_of, instruction_of}
use Rattle.def_image.specs.Listing.{refusal_line, listing}

-- the listing of an accepted image
unfoldable pub infer_words : Image → List ℕ
infer_words im = listing (apply_signature (instruction_of im) (world_of im))

-- "The program `infer` reads an image on standard input"; "Order 1 to 5 over the whole input; then the first met as the steps run"
unfoldable pub infer : List ℕ → List ℕ
infer bytes = elim (refusal_of bytes) [ zero ↦ infer_words (words_of bytes) | suc n ↦ refusal_line (suc n) ]
