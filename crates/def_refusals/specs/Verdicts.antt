-- The numbers that refusals and verdicts are told by. Assumes nothing: these are definitions.
use Rattle.std.specs.Prelude.{ℕ, Result, Ok, Err}
use Rattle.def_refusals.specs.declared.Refusal.{Refusal}
use Rattle.def_refusals.specs.declared.Refusal.TheVariants as Refusal

-- the number of a refusal, as document 01's table of refused calls has it
-- 99 is none of its numbers, and no instruction comes to it
abbrev pub number_of : Refusal → ℕ
number_of Refusal.Length = 1
number_of Refusal.Count = 2
number_of Refusal.Range = 3
number_of Refusal.Order = 4
number_of Refusal.Apply = 5
number_of Refusal.Begun = 6
number_of Refusal.NotBegun = 7
number_of Refusal.Interned = 8
number_of Refusal.Numbers = 9
number_of Refusal.Diagnostics = 10
number_of Refusal.Entries = 11
number_of Refusal.Depth = 99

-- the number of a verdict: 0 where nothing is wrong
abbrev pub class_of : {A : Type 0} → Result A Refusal → ℕ
class_of (Ok a) = 0
class_of (Err refusal) = number_of refusal
