-- `image_listing::put_listed_piece` meets its contract: one law for each of its six ways. Assumes nothing.
use mathlib.Core.Path.{refl}
use native.Mathlib.Omega.{arith}
use Rattle.image_pieces.proofs.Laws.Ways.{as_text, no_text, listed_head, listed_set, listed_end, listed_past, writes_effects, writes_values}
use Rattle.image_listing.proofs.put_listed_piece.Goals as goal

pub returns-in-0 : goal.returns-in-0
returns-in-0 c = as_text (listed_head _ _ _ _ _ c.in-0.is) c.put_head.ensures

pub returns-in-1-to-16 : goal.returns-in-1-to-16
returns-in-1-to-16 c = writes_effects _ _ _ _ _ _ _ _ _ (λ e. omega arith) (omega arith) refl refl c.put_effects.ensures

pub returns-in-17-to-27 : goal.returns-in-17-to-27
returns-in-17-to-27 c = writes_values _ _ _ _ _ _ _ _ _ (omega arith) (omega arith) refl refl c.put_values.ensures

pub returns-in-28-to-539 : goal.returns-in-28-to-539
returns-in-28-to-539 c = as_text (listed_set _ _ _ _ _ (omega arith) (omega arith)) c.put_set_line.ensures

pub returns-in-540 : goal.returns-in-540
returns-in-540 c = as_text (listed_end _ _ _ _ _ c.in-540.is) c.put_undefined.ensures

pub returns-in_default : goal.returns-in_default
returns-in_default c = as_text (listed_past _ _ _ _ _ (omega arith) (λ e. omega arith)) (no_text _)
