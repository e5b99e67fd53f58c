-- `lent_tables::Table::place_in` meets its contract: five reads of words that follow one another. Assumes nothing.
use Rattle.std.proofs.Common.{refl}
use Rattle.lent_tables.proofs.Laws.Word.{reads_place}
use Rattle.lent_tables.proofs.Table.place_in.Goals as goal

pub returns : goal.returns
returns c =
    let p = c.args in reads_place p.self _ p.i p.first p.k p.first p.k _ _ _ _ _ refl refl c.field-identifier.ensures c.field-effect.ensures c.field-reactive.ensures c.field-start.ensures c.field-end.ensures
