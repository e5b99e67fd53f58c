-- What the call answers where the session is lent: the same without it. Assumes nothing: these are definitions.
use Rattle.std.specs.Prelude.{Bool, Result, Ok, Err}
use Rattle.def_effects.specs.declared.Session.{Session}
use Rattle.def_refusals.specs.declared.Refusal.{Refusal}
use Rattle.def_refusals.specs.Verdicts.{number_of}
use Rattle.call_outcome.specs.Calls.{Answered}
use Rattle.call_apply_lent.specs.declared.Answer.{Answer}

-- an answer, with the session that was written back: "The session .. is a small struct lent by `&mut`"
-- so that the promise is that of the call below
abbrev pub told_beside : Session → Bool → Result Answer Refusal → Answered
told_beside session flag (Ok a) = record { refusal = 0; count = a.count; entries = a.entries; session = session; flag = a.flag }
told_beside session flag (Err refusal) = record { refusal = number_of refusal; count = 0; entries = 0; session = session; flag = flag }
