-- Demand 3 of the call for one instruction (document 01, 'Reach of an instruction'). Assumes nothing: these are definitions.
use Rattle.std.specs.Prelude.{◌≡◌, length}
use Rattle.def_transfer.specs.Tables.{State}
use Rattle.def_transfer.specs.Reach.{Node, entry, Reach, Agree}
use Rattle.lent_world.specs.World.{lent}
use Rattle.refuse_entries.specs.Words.{state_refusal}
use Rattle.call_outcome.specs.Calls.{Call, Outcome, lent_instruction, outcome}

-- the state that a call is lent, and the one that it leaves
-- values, sets, and the function-expression flag
abbrev pub state_of : Call → State lent
state_of c = record { values = c.values; sets = c.sets; is_function_expression = c.flag }

-- the state as a call leaves it
abbrev pub end_state : Outcome → State lent
end_state x = record { values = x.values; sets = x.sets; is_function_expression = x.applied.flag }

-- the reach of a call's instruction, in the state that it is lent
abbrev pub reach : Call → Node → Type 0
reach c = Reach lent (lent_instruction c) c.session c.context (state_of c)

-- a state that the call accepts: "nothing in it earns 1 to 4"
-- with the session's next number and access
abbrev pub Accepted : Call → Type 0
Accepted c = state_refusal c.values c.sets c.session.next c.session.access ≡ 0

-- two calls "lent the same instruction", "with equal context and session", "output lists and scratch of equal length, whatever these hold",
-- from accepted states of the same identifiers "that agree on its reach", flags included
pub record Twins (c d : Call) : Type 0 where
  pub candidates : c.candidates ≡ d.candidates
  pub lvalue : c.lvalue ≡ d.lvalue
  pub own : c.own ≡ d.own
  pub context : c.context ≡ d.context
  pub session : c.session ≡ d.session
  pub output : length c.output ≡ length d.output
  pub scratch64 : length c.scratch64 ≡ length d.scratch64
  pub scratch32 : length c.scratch32 ≡ length d.scratch32
  pub identifiers : length c.sets ≡ length d.sets
  pub accepted : Accepted c
  pub accepted' : Accepted d
  pub agree : Agree lent (reach c) (state_of c) (state_of d)

-- how two such calls end: "both refused with the same number, or the same effects field by field in the same order, equal walk counts, context and session;
-- entries in reach end equal, every entry outside ends exactly as that run found it, refused or not"
pub record Alike (c d : Call) (x y : Outcome) : Type 0 where
  pub applied : x.applied ≡ y.applied
  pub output : x.output ≡ y.output
  pub context : x.context ≡ y.context
  pub entries : (n : Node) → reach c n → entry lent (end_state x) n ≡ entry lent (end_state y) n
  pub outside : (n : Node) → ¬ (reach c n) → entry lent (end_state x) n ≡ entry lent (state_of c) n
  pub outside' : (n : Node) → ¬ (reach c n) → entry lent (end_state y) n ≡ entry lent (state_of d) n

-- demand 3 of a call that ends with x: it ends alike with every other run of the same call from a state that agrees on reach
-- that run ends as the contract of this very call says, with `outcome`
abbrev pub Isolation : Call → Outcome → Type 0
Isolation c x = (d : Call) → Twins c d → Alike c d x (outcome d)
