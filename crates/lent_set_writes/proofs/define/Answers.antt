-- `lent_set_writes::define` meets its contract: the set in hand starts from nothing and gets one value. Assumes nothing.
use mathlib.Core.Path.{refl}
use lib.Dec.{lit≤}
use Rattle.lent_sets.specs.Rows.{number}
use Rattle.lent_sets.proofs.Laws.Code.{define_is}
use Rattle.lent_set_writes.proofs.define.Goals as goal

pub returns : goal.returns
unfolding number
returns c =
    let a = c.args in
    define_is a.rows.now _ _ _ a.i a.v (lit≤ tt) refl c.add_value.ensures c.put_set.ensures
