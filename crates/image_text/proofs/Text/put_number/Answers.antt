use Rattle.image_text.proofs.Laws.Columns.{number_is}
use Rattle.image_text.proofs.Text.put_number.Goals as goal

pub returns-clause-written : goal.returns-clause-written
returns-clause-written c = number_is _ _ _ _ c.put_byte.ensures.written c.put_decimal.ensures.written
