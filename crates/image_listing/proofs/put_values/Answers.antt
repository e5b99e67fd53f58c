-- `image_listing::put_values` meets its contract: the loop's invariant is what is left to write. Assumes nothing.
use mathlib.Core.Path.{refl, ◌∙◌}
use native.Mathlib.Omega.{arith}
use Rattle.std.proofs.Common.{rules}
use Rattle.image_text.proofs.Laws.Text.{given_back}
use Rattle.image_text.proofs.Laws.Loops.{lines_step, lines_end}
use Rattle.image_pieces.proofs.Laws.Suffices.{values_suffice}
use Rattle.image_listing.proofs.put_values.Goals as goal

pub loop-v-init : goal.loop-v-init
loop-v-init c = (refl, refl)

pub loop-v-preserved : goal.loop-v-preserved
loop-v-preserved c =
    (c.loop-v.invariant.0 ∙ c.put_value_line.ensures.kept, lines_step _ _ _ _ _ _ c.loop-v-test.true c.put_value_line.ensures.written c.loop-v.invariant.1)

pub returns : goal.returns
returns c = λ h. record { bytes = given_back c.loop-v.text _ _ (search rules) (lines_end _ _ _ _ _ c.loop-v-test.false c.loop-v.invariant.1); suffices = values_suffice _ _ _ (omega arith) (omega arith) h }
