-- What the calls on two states come to, by the lists that they are lent, in the words of a contract. Assumes nothing: these are definitions.
use Rattle.std.specs.Prelude.{ℕ, Bool, List}
use Rattle.def_effects.specs.declared.Session.{Session}
use Rattle.def_transfer.specs.Monad.{Done}
use Rattle.state_calls.specs.Calls.{Outcome}
use Rattle.state_pairs.specs.MergeCalls as MergeCalls

-- merge of two lent states into a third
abbrev pub merge_of : List ℕ → List ℕ → List ℕ → List ℕ → Session → List ℕ → List ℕ → Outcome Bool
merge_of values1 sets1 values2 sets2 session values3 sets3 =
    MergeCalls.merge values1 sets1 values2 sets2 session values3 sets3

-- merge_from of the second into the first
abbrev pub merge_from_of : List ℕ → List ℕ → List ℕ → List ℕ → Session → Outcome Done
merge_from_of values1 sets1 values2 sets2 session = MergeCalls.merge_from values1 sets1 values2 sets2 session
