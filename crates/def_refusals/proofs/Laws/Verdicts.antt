-- No refusal is told by 0. Assumes nothing.
use Rattle.std.specs.Prelude.{◌≤◌, ◌≡◌, Result, Ok, Err}
use Rattle.std.proofs.Common.{arith, sym, ap, ◌∙◌}
use Rattle.def_refusals.specs.declared.Refusal.{Refusal}
use Rattle.def_refusals.specs.declared.Refusal.TheVariants as Refusal
use Rattle.def_refusals.specs.Verdicts.{number_of, class_of}

positive : (r : Refusal) → 1 ≤ number_of r
positive Refusal.Length = omega arith
positive Refusal.Count = omega arith
positive Refusal.Range = omega arith
positive Refusal.Order = omega arith
positive Refusal.Apply = omega arith
positive Refusal.Begun = omega arith
positive Refusal.NotBegun = omega arith
positive Refusal.Interned = omega arith
positive Refusal.Numbers = omega arith
positive Refusal.Diagnostics = omega arith
positive Refusal.Entries = omega arith
positive Refusal.Depth = omega arith

pub number_some : (r : Refusal) → number_of r ≡ 0 → ⊥
number_some r e = let p = positive r in omega arith

-- a verdict's number, by what the verdict is
pub class_ok : {A : Type 0} (v : Result A Refusal) (a : A) → v ≡ Ok a → class_of v ≡ 0
class_ok v a e = ap class_of e

pub class_err : {A : Type 0} (v : Result A Refusal) (r : Refusal) → v ≡ Err r → class_of v ≡ 0 → ⊥
class_err v r e z = number_some r (sym (ap class_of e) ∙ z)

pub class_is : {A : Type 0} (v : Result A Refusal) (r : Refusal) → v ≡ Err r → class_of v ≡ number_of r
class_is v r e = ap class_of e
