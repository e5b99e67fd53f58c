use native.Mathlib.Omega.{arith}
use Rattle.def_image.specs.Listing.{ascii, refusal_line}
use Rattle.image_pieces.proofs.Laws.Suffices.{refusal_suffices}
use Rattle.std.proofs.Common.{rules}
use Rattle.image_text.proofs.Laws.Text.{given_back}
use Rattle.image_lines.proofs.put_refusal.Goals as goal

pub returns : goal.returns
unfolding ascii refusal_line
returns c = record { bytes = given_back c.put_line.new.self _ _ (search rules) c.put_line.ensures.written; suffices = refusal_suffices _ (omega arith) }
