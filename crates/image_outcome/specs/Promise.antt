-- What the call for an image is lent, leaves and shows, in the words of its contract. Assumes nothing: these are definitions.
use Rattle.std.specs.Prelude.{ℕ, ◌<◌, ◌≡◌, List, length, get_or, Result}
use Rattle.def_refusals.specs.declared.Refusal.{Refusal}
use Rattle.def_image.specs.Infer.{infer}
use Rattle.lent_layout.specs.Context.{ContextWords, is_full}
use Rattle.image_pieces.specs.declared.Shown.{Shown}
use Rattle.image_pieces.specs.Pieces.{answer_of}
use Rattle.image_outcome.specs.Inferring.{inferred, written, Left, left, leaves}

-- what the call answers, and the lists that the pieces are read from as it leaves them
abbrev pub left_by : Result Shown Refusal → List ℕ → List ℕ → List ℕ → Left
left_by r values sets output = left (answer_of r) values sets output

-- what the bytes of an image leave there, by the lengths of all that is lent beside them
abbrev pub leaves_for : List ℕ → List ℕ → List ℕ → List ℕ → ContextWords → List ℕ → List ℕ → List ℕ → List ℕ → Left
leaves_for bytes words values sets context candidates output scratch64 scratch32 =
    leaves bytes (length words) (length values) (length sets) (is_full context) (length candidates)
    (length output) (length scratch64) (length scratch32)

-- the text that the bytes of an image come to, by the same lengths
abbrev pub written_for : List ℕ → List ℕ → List ℕ → List ℕ → ContextWords → List ℕ → List ℕ → List ℕ → List ℕ → List ℕ
written_for bytes words values sets context candidates output scratch64 scratch32 =
    written bytes (length words) (length values) (length sets) (is_full context) (length candidates)
    (length output) (length scratch64) (length scratch32)

-- what is inferred of bytes over lent tables is what the definition infers of them over plain ones, refusals included
abbrev pub MeansPlain : List ℕ → Type 0
MeansPlain bytes = ((k : ℕ) → get_or bytes k 0 < 256) → inferred bytes ≡ infer bytes
