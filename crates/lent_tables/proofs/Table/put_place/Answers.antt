-- `lent_tables::Table::put_place` meets its contract: five writes of words that follow one another. Assumes nothing.
use Rattle.std.proofs.Common.{refl}
use Rattle.lent_tables.proofs.Laws.Word.{writes_place}
use Rattle.lent_tables.proofs.Table.put_place.Goals as goal

pub returns : goal.returns
returns c =
    let p = c.args in writes_place p.self _ _ _ _ _ _ p.i p.first p.k p.p p.first p.k refl refl c.put_field.ensures c.put_field-2.ensures c.put_field-3.ensures c.put_field-4.ensures c.put_field-5.ensures
