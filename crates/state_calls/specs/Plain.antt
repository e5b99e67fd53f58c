-- What a call on a lent state means on plain tables, where a state is two functions. Assumes nothing: these are definitions.
use Rattle.std.specs.Prelude.{ℕ, ◌≡◌, Bool, false, List, []}
use Rattle.def_effects.specs.declared.Session.{Session}
use Rattle.def_transfer.specs.Monad.{ok, M, return, ◌>>=◌}
use Rattle.def_transfer.specs.Tables.{World}
use Rattle.def_transfer.specs.State.{set_of}
use Rattle.def_transfer.specs.Pure.{pure}
use Rattle.base_sets.specs.Members.{values_of}
use Rattle.lent_values.specs.Cells.{value_at}
use Rattle.lent_sets.specs.Rows.{set_at}
use Rattle.state_calls.specs.Calls.{context_with, Outcome}

-- the plain world that two lent lists and a session mean: each value number with its entry, each identifier with its set
abbrev pub plainly : Bool → List ℕ → List ℕ → Session → World pure
plainly ref vs ss s = record {
  state = record { values = value_at vs; sets = set_at ss; is_function_expression = false };
  rest = record { session = s; context = context_with ref; work = record { initialized = []; listed = []; freeze_entries = 0; entries = 0 } };
}

-- demand 2 at plain tables: where a call is not refused, the plain computation, from what the lists mean, answers what the call answers, and ends in what the lists then mean
unfoldable pub MeansPlain : {A : Type 0} → Bool → M (World pure) A → List ℕ → List ℕ → Session → Outcome A → Type 0
MeansPlain ref m vs ss s o = o.refusal ≡ 0 → m (plainly ref vs ss s) ≡ ok o.answer (plainly ref o.values o.sets o.session)

-- what a call comes to, made of what it answers and leaves
abbrev pub leaving : {A : Type 0} → ℕ → A → List ℕ → List ℕ → Session → Outcome A
leaving n a vs ss s = record { refusal = n; answer = a; values = vs; sets = ss; session = s }

-- the values of a place, ascending; the transfer itself has no name for them (`values_for`)
unfoldable pub values_for : ℕ → M (World pure) (List ℕ)
values_for i = do
  o ← set_of i
  return (values_of o)
