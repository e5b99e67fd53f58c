-- Laws by which the code meets its definition. Assumes nothing.
use Rattle.std.specs.Prelude.{ℕ, suc, ◌+◌, ◌<◌, ◌≤◌, ◌≡◌}
use Rattle.std.proofs.Common.{arith, sym, ◌∙◌}
use Rattle.base_tests.proofs.Laws.Choice.{ite_lt, ite_ge}
use Rattle.lent_work.specs.Access.{access_of}

pub access_in : (i : ℕ) → i < 512 → i + 1 ≡ access_of i
unfolding access_of
access_in i h = let p : i + 1 ≡ suc i = omega arith in p ∙ sym (ite_lt i 512 (suc i) 0 h)

pub access_past : (i : ℕ) → 512 ≤ i → 0 ≡ access_of i
unfolding access_of
access_past i h = sym (ite_ge i 512 (suc i) 0 h)
