-- Of a call that no class refuses nothing is lost. Assumes nothing.
use Prim.Native.Nat.{◌≤◌}
use native.Mathlib.Omega.{arith}
use Rattle.std.specs.Prelude.{◌≡◌}
use Rattle.std.proofs.Common.{ap}
use Rattle.base_tests.proofs.Laws.Choice.{ite_eq}
use Rattle.def_transfer.specs.Monad.{Res, ok, refused, Done}
use Rattle.def_transfer.specs.Tables.{World}
use Rattle.def_transfer.specs.Instruction.{apply_signature}
use Rattle.lent_world.specs.World.{lent}
use Rattle.laws_counts.proofs.Laws.Grows.{after}
use Rattle.laws_counts.proofs.Laws.Lossless.{Lossless, lossless}
use Rattle.call_outcome.specs.Calls.{Call, Outcome, call_class, lent_instruction, lent_world, refused_with, concluded, outcome}
use Rattle.laws_suffices.proofs.Laws.Suffices.{accepted_fits}

-- "The output list has 1,120 records (32 + 64 × 17, so it suffices)": of a call that no class refuses nothing is lost
-- the session's entries are a word of 32 bits
pub call_lossless : (c : Call) → call_class c ≡ 0 → c.session.entries ≤ 4294967295 → Lossless (lent_instruction c) (lent_world c)
call_lossless c e h = lossless (lent_instruction c) (lent_world c) (accepted_fits c e) h

-- what a call answers counts no more effects than its transfer listed
-- a call that the transfer refuses answers with none
ends_listed : (c : Call) (r : Res (World lent) Done) → (concluded c r).applied.count ≤ (after r).listed.count
ends_listed c (ok a w) = omega arith
ends_listed c (refused n w) = omega arith

-- such a call answers with at most 1,120 effects, so each has its record in the output list
pub nothing_lost : (c : Call) → call_class c ≡ 0 → c.session.entries ≤ 4294967295 → (outcome c).applied.count ≤ 1120
unfolding outcome
nothing_lost c e h =
    let k : (outcome c).applied.count ≡ (concluded c (apply_signature (lent_instruction c) (lent_world c))).applied.count = ap (λ (x : Outcome). x.applied.count) (ite_eq (call_class c) 0 _ (refused_with (call_class c) c) e) in
    let g = ends_listed c (apply_signature (lent_instruction c) (lent_world c)) in
    let l = (call_lossless c e h).listed in
    let m = (call_lossless c e h).suffices in
    omega arith
