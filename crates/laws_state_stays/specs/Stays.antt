-- What a call on a state leaves is accepted. Assumes nothing: these are definitions.
use Rattle.std.specs.Prelude.{◌≡◌}
use Rattle.refuse_entries.specs.Words.{state_refusal}
use Rattle.state_calls.specs.Calls.{Outcome}

-- what a call leaves is accepted
abbrev pub Stays : {A : Type 0} → Outcome A → Type 0
Stays o = state_refusal o.values o.sets o.session.next o.session.access ≡ 0
