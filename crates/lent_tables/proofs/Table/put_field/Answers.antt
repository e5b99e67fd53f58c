-- `lent_tables::Table::put_field` meets its contract: both tests, then a total write at the word's place. Assumes nothing.
use Rattle.std.proofs.Common.{refl}
use native.Mathlib.Omega.{arith}
use mathlib.Core.Path.{sym}
use Rattle.lent_tables.proofs.Laws.Word.{record_fits, within_no_record, within_no_word, put_out, writes_field}
use Rattle.lent_tables.proofs.Table.put_field.Goals as goal

pub returns-then-i-self : goal.returns-then-i-self
returns-then-i-self c = let p = c.args in sym (put_out _ _ _ _ _ (within_no_record p.self p.i p.w (omega arith)))

pub returns-then-w-self : goal.returns-then-w-self
returns-then-w-self c = let p = c.args in sym (put_out _ _ _ _ _ (within_no_word p.self p.i p.w (omega arith)))

pub overflow_mul-i : goal.overflow_mul-i
overflow_mul-i c = let p = c.args in omega (arith, record_fits p.i p.self.count p.self.width (omega arith) (omega arith) (omega arith))

pub overflow_add-self : goal.overflow_add-self
overflow_add-self c = let p = c.args in omega (arith, record_fits p.i p.self.count p.self.width (omega arith) (omega arith) (omega arith))

pub overflow_add-self-2 : goal.overflow_add-self-2
overflow_add-self-2 c = let p = c.args in omega (arith, record_fits p.i p.self.count p.self.width (omega arith) (omega arith) (omega arith))

pub returns : goal.returns
returns c =
    let p = c.args in writes_field p.self _ _ p.i p.w p.x p.self.base p.self.width refl refl (omega arith) (omega arith) c.set.ensures
