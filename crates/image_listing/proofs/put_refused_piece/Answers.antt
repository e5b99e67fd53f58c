-- `image_listing::put_refused_piece` meets its contract: the line of the refusal, or nothing. Assumes nothing.
use Rattle.image_pieces.proofs.Laws.Ways.{as_text, no_text, refused_line, refused_past}
use Rattle.image_listing.proofs.put_refused_piece.Goals as goal

pub returns-then-k-eq0 : goal.returns-then-k-eq0
returns-then-k-eq0 c = as_text (refused_line _ _ c.if-k-eq0.true) c.put_refusal.ensures

pub returns-else-k-eq0 : goal.returns-else-k-eq0
returns-else-k-eq0 c = as_text (refused_past _ _ c.if-k-eq0.false) (no_text _)
