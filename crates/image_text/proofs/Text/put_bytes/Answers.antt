-- `Text::put_bytes` meets its contract: the loop's invariant is what is left to write. Assumes nothing.
use mathlib.Core.Path.{◌∙◌}
use Rattle.image_text.proofs.Laws.Text.{text_step, text_end}
use Rattle.image_text.proofs.Text.put_bytes.Goals as goal

pub loop-x-preserved : goal.loop-x-preserved
loop-x-preserved c = (c.loop-x.invariant.0 ∙ c.put_byte.ensures.kept, text_step _ _ _ _ _ c.loop-x-test.true c.put_byte.ensures.written c.loop-x.invariant.1)

pub returns-clause-written : goal.returns-clause-written
returns-clause-written c = text_end _ _ _ _ c.loop-x-test.false c.loop-x.invariant.1
