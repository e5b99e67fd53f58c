-- What the call for one instruction is lent and what it leaves, in the words of its contract. Assumes nothing: these are definitions.
use Rattle.std.specs.Prelude.{ℕ, ◌≡◌, Bool, List}
use Rattle.def_effects.specs.declared.Place.{Place}
use Rattle.def_effects.specs.declared.Session.{Session}
use Rattle.lent_layout.specs.Context.{ContextWords}
use Rattle.call_outcome.specs.Calls.{Answered, Call, Outcome, call, given, outcome}
use Rattle.call_outcome.specs.Isolation.{Isolation}
use Rattle.call_means.specs.Meaning.{MeansPlain}

-- the lists that a call is lent and what the slices of its context hold, as it begins, with what it takes by value
abbrev pub lent_call : List ℕ → List ℕ → Bool → ContextWords → Session → List ℕ → Place → ℕ → List ℕ → List ℕ → List ℕ → Call
lent_call values sets flag context session candidates lvalue own output scratch64 scratch32 =
    call values sets flag context session candidates lvalue own output scratch64 scratch32

-- what it answers, and the lists as it leaves them
abbrev pub left_by : Answered → List ℕ → List ℕ → ContextWords → List ℕ → List ℕ → List ℕ → Outcome
left_by r values sets context output scratch64 scratch32 =
    given r values sets context output scratch64 scratch32

-- demands 1 and 2, what comes of the call is the definition's outcome, at the lent tables and so to the word; it means the definition's on plain tables;
-- and demand 3, it ends alike with each of its twins
abbrev pub Meets : Call → Outcome → Type 0
Meets c x = (x ≡ outcome c) × MeansPlain c x × Isolation c x
