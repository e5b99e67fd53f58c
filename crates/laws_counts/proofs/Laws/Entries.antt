-- The entries of a walk: what an entry adds to those made it takes from those that may still be made. Assumes nothing.
use Rattle.std.specs.Prelude.{ℕ, suc, ◌+◌, ◌-◌, ◌≤◌, Bool, not}
use native.Mathlib.Omega.{arith}
use Rattle.std.proofs.Common.{sym, subst}
use lib.Dec.{nleb→lt}
use Rattle.def_transfer.specs.Tables.{Tables, Work}
use Rattle.def_transfer.specs.State.{change}
use Rattle.def_transfer.specs.Context.{count_entry}
use Rattle.laws_counts.proofs.Laws.Grows.{Grows, unless_grows}

module _ {T : Tables} where
  -- the entries made so far, and those that the Freeze under way may still make
  -- what an entry adds to the first it takes from the second
  abbrev pub room : Work T → ℕ
  room k = k.entries + (4096 - k.freeze_entries)

module _ {T : Tables} (one_more_is : (n : ℕ) → T.one_more n ≤ suc n) where
  -- "the walk of one Freeze would make its 4,097th entry": 11
  -- so an entry that is counted leaves the sum as it was
  pub entry_room : Grows room 0 (count_entry {T = T})
  unfolding count_entry change
  entry_room = unless_grows _ 11 _ (λ w e. let l = nleb→lt 4096 w.rest.work.freeze_entries (subst (λ (b : Bool). lib.Dec.T (not b)) (sym e) tt) in let m = one_more_is w.rest.work.entries in omega arith)
