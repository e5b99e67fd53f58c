use Rattle.std.proofs.Common.{refl}
use native.Mathlib.Omega.{arith}
use Rattle.lent_tables.proofs.Laws.Word.{record_fits}
use Rattle.refuse_words.proofs.Laws.Stray.{after_none, after_some, left_fits}
use Rattle.refuse_words.proofs.stray_after.Goals as goal

pub returns-then-n-t : goal.returns-then-n-t
returns-then-n-t c = after_none _ _ _ _ refl c.if-n-t.true

pub overflow_mul-from : goal.overflow_mul-from
overflow_mul-from c =
    omega (arith, record_fits c.args.n c.args.t.count c.args.t.width (omega arith) (omega arith) (omega arith))

pub overflow_add-from : goal.overflow_add-from
overflow_add-from c =
    omega (arith, record_fits c.args.n c.args.t.count c.args.t.width (omega arith) (omega arith) (omega arith))

pub overflow_mul-left : goal.overflow_mul-left
overflow_mul-left c =
    omega (arith, left_fits c.args.n c.args.t.count c.args.t.width (omega arith) (omega arith))

pub returns : goal.returns
returns c =
    after_some _ _ _ _ _ _ _ _ refl refl refl refl c.stray_from.ensures
