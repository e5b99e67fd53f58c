-- `image_listing::put_piece` meets its contract: a refusal, one by the number 0, a listing. Assumes nothing.
use native.Mathlib.Omega.{arith}
use Rattle.std.specs.Prelude.{refl}
use Rattle.image_pieces.proofs.Laws.Ways.{puts_number, puts_nothing, puts_told}
use Rattle.image_listing.proofs.put_piece.Goals as goal

pub returns-then-n-eq0 : goal.returns-then-n-eq0
returns-then-n-eq0 g c = puts_nothing _ _ _ _ _ _ _ _ _ c.told.ensures _ _ c.in-Err.is c.if-n-eq0.true refl (omega arith) c.put_listed_piece-then-n-eq0.ensures

pub returns-else-n-eq0 : goal.returns-else-n-eq0
returns-else-n-eq0 g c = puts_number _ _ _ _ _ _ _ _ _ c.told.ensures _ c.in-Err.is c.if-n-eq0.false (omega arith) c.put_refused_piece.ensures

pub returns-in-Ok : goal.returns-in-Ok
returns-in-Ok g c = puts_told _ _ _ _ _ _ _ _ _ c.told.ensures _ c.in-Ok.is (omega arith) c.put_listed_piece.ensures
