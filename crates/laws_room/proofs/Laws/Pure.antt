-- Theorem 1 of the tables of functions: how many records the interned effects take, counted one by one. Assumes nothing.
use Rattle.std.specs.Prelude.{suc, ◌+◌, ◌≤◌, ◌≡◌, refl, List, [], ◌∷◌, ◌++◌, length}
use Rattle.std.proofs.Common.{arith}
use Rattle.def_effects.specs.Effects.{AliasingEffect}
use Rattle.def_effects.specs.Keys.{effect_key}
use Rattle.def_transfer.specs.Tables.{World}
use Rattle.def_transfer.specs.Instruction.{Instruction, apply_signature}
use Rattle.def_transfer.specs.Pure.{pure}
use Rattle.def_transfer.proofs.Laws.Pure.{found_key}
use Rattle.laws_room.specs.Room.{records, needs}
use Rattle.laws_room.proofs.Laws.Near.{Measured, ended}
use Rattle.laws_room.proofs.Laws.Bound.{signature_bound}

-- one more effect at the end: its own record, and its captures'
pub records_append : (l : List AliasingEffect) (e : AliasingEffect) → records (l ++ (e ∷ [])) ≡ records l + suc (length (effect_key e).captures)
unfolding records
records_append [] e = omega arith
records_append (x ∷ l) e = let h = records_append l e in omega arith

-- the records are a measure
-- so that `size` is what an effect takes
unfoldable pub pure_measured : Measured pure
pure_measured = record {
  used = λ c. records c.interned;
  found = λ c. found_key c.interned;
  most = λ c e. let h = records_append c.interned e in omega arith;
  least = λ c e. let h = records_append c.interned e in omega arith;
  key_used = λ c n k. refl;
  link_used = λ c v f. refl;
  read_used = λ c f i. refl;
  diagnostic_used = λ c n x. refl;
}

-- a call, refused or not, takes at most the records that its candidates need
pub records_bound : (ins : Instruction) (w : World pure) → records (ended (apply_signature ins w)).interned ≤ records w.rest.context.interned + needs ins.candidates
unfolding pure_measured
records_bound ins w = (signature_bound pure_measured ins).most w
