-- What a program prints that writes the pieces one after the other, each out of a buffer that is long enough: the listing that the definition infers.
-- Assumes nothing.
use Rattle.std.specs.Prelude.{ℕ, ◌+◌, ◌≤◌, ◌<◌, ◌≡◌, refl, true, List, length, take, get_or}
use Rattle.std.proofs.Common.{arith, ◌∙◌}
use Rattle.lent_layout.specs.Layout as Layout
use Rattle.def_image.specs.Infer.{infer}
use Rattle.def_image.specs.Listing.{lines_from}
use Rattle.image_job.specs.Reading.{lent_wrong}
use Rattle.image_text.specs.Texts.{cursor}
use Rattle.image_pieces.specs.Pieces.{piece_count, piece_bytes, piece, all_pieces, puts}
use Rattle.image_pieces.proofs.Laws.Ways.{puts_shows}
use Rattle.image_pieces.proofs.Laws.Whole.{lines_same}
use Rattle.image_outcome.specs.Inferring.{memory_wrong, any_wrong, written, inferred, Left, leaves}
use Rattle.image_outcome.proofs.Laws.Pieces.{leaves_written}
use Rattle.image_means.proofs.Laws.Inferred.{inferred_is}

-- a text that is written out of a buffer after a call for piece k: its first bytes, as many as the call answers
-- whatever the buffer held before; `called` is the promise of `image_listing::put_piece`
pub record Printed (x : Left) (k : ℕ) (text : List ℕ) : Type 0 where
  pub before : List ℕ
  pub after : List ℕ
  pub answer : ℕ
  pub enough : piece_bytes ≤ length before
  pub called : cursor answer after ≡ puts (piece x.shown x.values x.sets x.output k) before
  pub written_out : text ≡ take answer after

-- what the bytes of an image leave in lists of the right lengths
-- by the promise of `image_infer::infer_image`, as the program `infer` calls it
abbrev pub left_of : List ℕ → Left
left_of bytes = leaves bytes 16384 1024 8192 true Layout.candidate_words Layout.output_words 9216 Layout.most_saved

-- it comes to what is inferred
right_lengths : (bytes : List ℕ) → written bytes 16384 1024 8192 true Layout.candidate_words Layout.output_words 9216 Layout.most_saved ≡ inferred bytes
unfolding written any_wrong memory_wrong lent_wrong
right_lengths bytes = refl

-- the texts of all pieces, one after the other, are what the definition infers of the bytes, refusals included
pub prints : (bytes : List ℕ) → ((k : ℕ) → get_or bytes k 0 < 256) → (texts : ℕ → List ℕ) → ((k : ℕ) → k < piece_count → Printed (left_of bytes) k (texts k)) → lines_from piece_count 0 texts ≡ infer bytes
unfolding all_pieces
prints bytes small texts h =
    lines_same texts (piece (left_of bytes).shown (left_of bytes).values (left_of bytes).sets (left_of bytes).output) piece_count 0 0 (λ i l.
    let p = h (0 + i) (omega arith) in
    p.written_out ∙ puts_shows _ p.before p.after p.answer p.enough p.called)
    ∙ leaves_written bytes 16384 1024 8192 true Layout.candidate_words Layout.output_words 9216 Layout.most_saved
    ∙ right_lengths bytes
    ∙ inferred_is bytes small
