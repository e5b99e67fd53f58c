-- `Text::put_line` meets its contract: the loop's invariant is what is left to write. Assumes nothing.
use mathlib.Core.Path.{◌∙◌}
use Rattle.image_text.proofs.Laws.Lines.{line_word, columns_step, columns_end}
use Rattle.image_text.proofs.Text.put_line.Goals as goal

pub loop-x-preserved : goal.loop-x-preserved
loop-x-preserved c =
    (c.loop-x.invariant.0 ∙ c.put_column.ensures.kept, columns_step _ _ _ _ _ c.loop-x-test.true c.put_column.ensures.written c.loop-x.invariant.1)

pub returns-clause-written : goal.returns-clause-written
returns-clause-written c =
    line_word _ _ _ _ _ c.put_bytes.ensures.written (columns_end _ _ _ _ _ c.loop-x-test.false c.put_newline.ensures.written c.loop-x.invariant.1)
