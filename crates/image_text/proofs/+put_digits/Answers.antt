use mathlib.Core.Path.{refl}
use Rattle.image_text.proofs.Laws.Columns.{decimal_one, decimal_next}
use Rattle.image_text.proofs.+put_digits.Goals as goal

pub returns-then-n-lt10 : goal.returns-then-n-lt10
returns-then-n-lt10 t c = decimal_one _ _ _ _ c.if-n-lt10.true c.last_digit.ensures c.put_at.ensures

pub returns : goal.returns
returns t c = decimal_next _ _ _ _ _ _ c.if-n-lt10.false refl c.put_digits-next.ensures c.last_digit-2.ensures c.put_at-2.ensures
