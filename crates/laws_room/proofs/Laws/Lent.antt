-- Theorem 1 of the lent tables: how many effects are interned at the end of a call. Assumes nothing.
use Rattle.std.specs.Prelude.{◌+◌, ◌≤◌, refl}
use Rattle.std.proofs.Common.{arith}
use Rattle.def_transfer.specs.Tables.{World}
use Rattle.def_transfer.specs.Instruction.{Instruction, apply_signature}
use Rattle.lent_context.specs.Lent.{interned_count, add_effect, added_at, put_key, cached_at, put_link, make_read, add_diagnostic}
use Rattle.lent_context.proofs.Laws.Ordered.{found_under}
use Rattle.lent_world.specs.World.{lent}
use Rattle.laws_room.specs.Room.{needs}
use Rattle.laws_room.proofs.Laws.Near.{Measured, ended}
use Rattle.laws_room.proofs.Laws.Bound.{signature_bound}

-- the count is a measure: an effect added is one more, and nothing else changes it
-- effects counted, and their captures not
unfoldable pub lent_measured : Measured lent
unfolding add_effect added_at put_key cached_at put_link make_read add_diagnostic
lent_measured = record {
  used = interned_count;
  found = found_under;
  most = λ c e. omega arith;
  least = λ c e. omega arith;
  key_used = λ c n k. refl;
  link_used = λ c v f. refl;
  read_used = λ c f i. refl;
  diagnostic_used = λ c n x. refl;
}

-- a call, refused or not, interns at most what its candidates need
pub interned_bound : (ins : Instruction) (w : World lent) → interned_count (ended (apply_signature ins w)) ≤ interned_count w.rest.context + needs ins.candidates
unfolding lent_measured
interned_bound ins w = (signature_bound lent_measured ins).most w

-- and none is lost
pub interned_least : (ins : Instruction) (w : World lent) → interned_count w.rest.context ≤ interned_count (ended (apply_signature ins w))
unfolding lent_measured
interned_least ins w = (signature_bound lent_measured ins).least w
