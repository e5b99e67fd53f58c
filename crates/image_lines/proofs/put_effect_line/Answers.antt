-- `image_lines::put_effect_line` meets its contract: an effect that is listed has a line. Assumes nothing.
use mathlib.Core.Path.{ap, ◌∙◌}
use Rattle.def_image.specs.Listing.{ascii, line}
use Rattle.image_text.specs.Texts.{cursor_of, put_all, head_line}
use Rattle.image_pieces.proofs.Laws.Ways.{effect_listed, effect_past}
use Rattle.image_lines.proofs.put_effect_line.Goals as goal

pub returns-else-k-count-clause-written : goal.returns-else-k-count-clause-written
returns-else-k-count-clause-written c = effect_past _ _ _ _ c.if-k-count.false

pub returns-then-k-count-clause-written : goal.returns-then-k-count-clause-written
unfolding ascii head_line
returns-then-k-count-clause-written c =
    effect_listed _ _ _ _ _ _ c.if-k-count.true c.effect_in.ensures (c.put_line.ensures.written ∙ ap (λ r. put_all (line (ascii "E") r) (cursor_of c.args.text.now)) c.effect_row-row.ensures)
