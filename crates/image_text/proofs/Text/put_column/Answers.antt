use Rattle.image_text.proofs.Laws.Columns.{column_absent, column_present}
use Rattle.image_text.proofs.Text.put_column.Goals as goal

pub returns-in-None-clause-written : goal.returns-in-None-clause-written
returns-in-None-clause-written c = column_absent _ _ _ c.in-None.is c.put_absent.ensures.written

pub returns-in-Some-clause-written : goal.returns-in-Some-clause-written
returns-in-Some-clause-written c = column_present _ _ _ _ c.in-Some.is c.put_number.ensures.written
