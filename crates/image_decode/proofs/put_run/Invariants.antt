use mathlib.Core.Path.{◌≡◌}
use Prim.Native.Nat.{◌-◌, ◌+◌, ◌≤◌}
use lib.ListN.{length}
use Rattle.lent_tables.specs.Words.{put_places}
use Rattle.def_image.specs.Decode.{list_from, place_at, places_from}
use Rattle.image_decode.proofs.put_run.Given as goal

abbrev pub invariant-loop-k : goal.invariant-loop-k
invariant-loop-k l = (l.k ≤ l.n) × (put_places l.t l.xs l.i l.w l.k (list_from (l.n - l.k) (l.first + l.k) (place_at l.im)) ≡ put_places l.t l.initial.xs l.i l.w 0 (places_from l.im l.first l.n)) × (length l.xs ≡ length l.initial.xs)
