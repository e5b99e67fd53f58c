-- `lent_effects::put_captures` meets its contract: each turn writes one of the captures that are left. Assumes nothing.
use native.Mathlib.Omega.{arith}
use mathlib.Core.Path.{refl, ap, ◌∙◌}
use lib.ListN.{length}
use Rattle.lent_tables.proofs.Laws.Word.{place_length}
use Rattle.lent_effects.proofs.Laws.Capture.{put_start, put_more, put_none}
use Rattle.lent_effects.proofs.put_captures.Goals as goal

pub loop-k-init : goal.loop-k-init
loop-k-init c = (omega arith, put_start _ _ _ _ _ c.field-n.ensures, refl)

pub loop-k-preserved : goal.loop-k-preserved
loop-k-preserved c =
    (omega arith, put_more _ _ _ _ _ _ _ _ c.loop-k-test.true c.place_in.ensures c.put_place.ensures ∙ c.loop-k.invariant.1, ap length c.put_place.ensures ∙ place_length _ _ _ _ _ ∙ c.loop-k.invariant.2)

pub returns : goal.returns
returns c = put_none _ _ _ _ _ _ (omega arith) ∙ c.loop-k.invariant.1
