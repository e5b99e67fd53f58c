use Rattle.std.proofs.Common.{◌≡◌, ◌<◌, ◌≤◌, ℕ}
use Rattle.def_refusals.specs.Verdicts.{class_of}
use Rattle.refuse_words.specs.Classes.{lowest_below}
use Rattle.refuse_words.proofs.lowest.Given as goal

abbrev pub invariant-loop-k : goal.invariant-loop-k
invariant-loop-k g l =
    (l.k ≤ l.n)
    × ((classes : ℕ → ℕ) → ((j : ℕ) (v : _) → j < l.n → goal.F-post g l.test j v → class_of v ≡ classes j) → class_of l.worst ≡ lowest_below l.k classes)
