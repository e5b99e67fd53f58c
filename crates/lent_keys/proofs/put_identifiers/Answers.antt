-- `lent_keys::put_identifiers` meets its contract: each turn writes one of the identifiers that are left. Assumes nothing.
use native.Mathlib.Omega.{arith}
use mathlib.Core.Path.{refl, ap, ◌∙◌}
use lib.ListN.{length}
use Rattle.lent_tables.proofs.Laws.Word.{put_length}
use Rattle.lent_keys.proofs.Laws.KeyRecord.{write_start, write_more, write_none}
use Rattle.lent_keys.proofs.put_identifiers.Goals as goal

pub loop-k-init : goal.loop-k-init
loop-k-init c = (omega arith, write_start _ _ _ c.args.run, refl)

pub overflow_add-k : goal.overflow_add-k
overflow_add-k c = omega arith

pub loop-k-preserved : goal.loop-k-preserved
loop-k-preserved c =
    (omega arith, write_more _ _ _ c.args.run _ _ _ _ c.loop-k-test.true c.get.ensures refl c.put_field.ensures ∙ c.loop-k.invariant.1, ap length c.put_field.ensures ∙ put_length _ _ _ _ _ ∙ c.loop-k.invariant.2)

pub returns : goal.returns
returns c = write_none _ _ _ c.args.run _ (omega arith) ∙ c.loop-k.invariant.1
