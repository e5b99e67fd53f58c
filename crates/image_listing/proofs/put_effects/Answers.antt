-- `image_listing::put_effects` meets its contract: the loop's invariant is what is left to write. Assumes nothing.
use mathlib.Core.Path.{refl, ◌∙◌}
use native.Mathlib.Omega.{arith}
use Rattle.std.proofs.Common.{rules}
use Rattle.image_text.proofs.Laws.Text.{given_back}
use Rattle.image_text.proofs.Laws.Loops.{lines_step, lines_end}
use Rattle.image_pieces.proofs.Laws.Suffices.{effects_suffice}
use Rattle.image_listing.proofs.put_effects.Goals as goal

pub loop-k-init : goal.loop-k-init
loop-k-init c = (refl, refl)

pub loop-k-preserved : goal.loop-k-preserved
loop-k-preserved c =
    (c.loop-k.invariant.0 ∙ c.put_effect_line.ensures.kept, lines_step _ _ _ _ _ _ c.loop-k-test.true c.put_effect_line.ensures.written c.loop-k.invariant.1)

pub returns : goal.returns
returns c =
    λ h. record { bytes = given_back c.loop-k.text _ _ (search rules) (lines_end _ _ _ _ _ c.loop-k-test.false c.loop-k.invariant.1); suffices = effects_suffice _ _ _ _ (λ j. omega (arith, c.shared_slice_known-1.given j)) h }
