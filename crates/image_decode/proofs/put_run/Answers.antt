-- `image_decode::put_run` meets its contract: each turn writes one of the places that are left. Assumes nothing.
use native.Mathlib.Omega.{arith}
use mathlib.Core.Path.{refl, ap, ◌∙◌}
use lib.ListN.{length}
use Rattle.lent_tables.proofs.Laws.Word.{place_length}
use Rattle.image_decode.proofs.Laws.Context.{run_start, run_more, run_none}
use Rattle.image_decode.proofs.put_run.Goals as goal

pub loop-k-init : goal.loop-k-init
loop-k-init c = (omega arith, run_start _ _ _ _ _ _ _, refl)

pub loop-k-preserved : goal.loop-k-preserved
loop-k-preserved c =
    (omega arith, run_more _ _ _ _ _ _ _ _ _ _ c.loop-k-test.true c.place_of.ensures c.put_place.ensures ∙ c.loop-k.invariant.1, ap length c.put_place.ensures ∙ place_length _ _ _ _ _ ∙ c.loop-k.invariant.2)

pub returns : goal.returns
returns c = run_none _ _ _ _ _ _ _ _ c.loop-k-test.false ∙ c.loop-k.invariant.1
