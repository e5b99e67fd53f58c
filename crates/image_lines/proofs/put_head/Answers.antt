use native.Mathlib.Omega.{arith}
use Rattle.def_image.specs.Listing.{ascii}
use Rattle.image_pieces.proofs.Laws.Suffices.{head_suffices}
use Rattle.std.proofs.Common.{rules}
use Rattle.image_text.proofs.Laws.Text.{given_back}
use Rattle.image_lines.proofs.put_head.Goals as goal

pub returns : goal.returns
unfolding ascii
returns c = record { bytes = given_back c.put_line.new.self _ _ (search rules) c.put_line.ensures.written; suffices = head_suffices _ _ (omega arith) (omega arith) }
