-- What a call for one instruction means: the definition on plain tables, of what was lent. `abstract` says what the words of a context mean.
-- Assumes nothing: these are definitions.
use Rattle.std.specs.Prelude.{ℕ, ◌*◌, ◌≤◌, ◌≡◌, [], length, get_or}
use Rattle.def_transfer.specs.Monad.{Res, ok, refused, Done}
use Rattle.def_transfer.specs.Tables.{World}
use Rattle.def_transfer.specs.Instruction.{apply_signature}
use Rattle.def_transfer.specs.Pure.{pure}
use Rattle.lent_values.specs.Cells.{value_at}
use Rattle.lent_sets.specs.Rows.{set_at}
use Rattle.lent_context.specs.Lent.{effects_in}
use Rattle.lent_context.specs.Abstract.{abstract}
use Rattle.call_outcome.specs.Calls.{Call, Outcome, call_class, lent_instruction, refused_with}
use Rattle.lent_layout.specs.Layout.{output}
use Rattle.lent_layout.specs.Layout as Layout

-- the world that a call begins in: an entry for each value number, a set for each identifier, the context's tables; nothing is listed yet
abbrev pub plain_world : Call → World pure
plain_world c = record {
  state = record { values = value_at c.values; sets = set_at c.sets; is_function_expression = c.flag };
  rest = record { session = c.session; context = abstract c.context; work = record { initialized = []; listed = []; freeze_entries = 0; entries = 0 } };
}

-- what a call that is not refused leaves means a plain world: the effects in order, and zero behind them ("those after the last effect are zero");
-- entries, session and flag; values and sets entry by entry; the context table by table
pub record Leaves (o : Outcome) (w : World pure) : Type 0 where
  pub refusal : o.applied.refusal ≡ 0
  pub count : o.applied.count ≡ length w.rest.work.listed
  pub effects : effects_in output o.output 0 o.applied.count ≡ w.rest.work.listed
  pub behind : (k : ℕ) → o.applied.count * Layout.effect_words ≤ k → get_or o.output k 0 ≡ 0
  pub entries : o.applied.entries ≡ w.rest.work.entries
  pub session : o.applied.session ≡ w.rest.session
  pub flag : o.applied.flag ≡ w.state.is_function_expression
  pub values : value_at o.values ≡ w.state.values
  pub sets : set_at o.sets ≡ w.state.sets
  pub context : abstract o.context ≡ w.rest.context

-- by how the plain transfer ends
abbrev pub MeansEnd : Call → Outcome → Res (World pure) Done → Type 0
MeansEnd c o (ok a w) = Leaves o w
MeansEnd c o (refused n w) = o ≡ refused_with n c

-- demand 2 on plain tables: a call that earns none of 1 to 5 ends as the definition ends on what it was lent
abbrev pub MeansPlain : Call → Outcome → Type 0
MeansPlain c o = call_class c ≡ 0 → MeansEnd c o (apply_signature (lent_instruction c) (plain_world c))
