-- `lent_keys::option_in` meets its contract: a word that is not 0 stands before a number. Assumes nothing.
use Rattle.std.proofs.Common.{refl}
use Rattle.lent_keys.proofs.Laws.Option.{option_absent, option_present}
use Rattle.lent_keys.proofs.option_in.Goals as goal

pub returns-then-field-eq0 : goal.returns-then-field-eq0
returns-then-field-eq0 c = option_absent _ _ _ _ _ _ refl c.field.ensures c.if-field-eq0.true

pub returns : goal.returns
returns c =
    option_present _ _ _ _ _ _ _ _ refl c.field.ensures c.if-field-eq0.false refl c.field-2.ensures
