-- `lent_keys::put_option` meets its contract: two writes. Assumes nothing.
use Rattle.std.proofs.Common.{refl}
use Rattle.lent_keys.proofs.Laws.Option.{writes_absent, writes_present}
use Rattle.lent_keys.proofs.put_option.Goals as goal

pub returns-in-None : goal.returns-in-None
returns-in-None c =
    writes_absent _ _ _ _ _ _ _ _ _ c.in-None.is refl refl c.put_field.ensures c.put_field-in-None.ensures

pub returns-in-Some : goal.returns-in-Some
returns-in-Some c =
    writes_present _ _ _ _ _ _ _ _ _ _ c.in-Some.is refl refl c.put_field-in-Some.ensures c.put_field-in-Some-2.ensures
