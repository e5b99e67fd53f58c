-- The call for one instruction: what it is lent and given, which class refuses it, and what comes of it (document 01, 'Refused calls').
-- Assumes nothing: these are definitions.
use Rattle.std.specs.Prelude.{ℕ, ◌+◌, ◌*◌, ◌/◌, ◌%◌, Bool, not, ◌||◌, List, eqb, ltb, length, Result, Ok, Err}
use Rattle.base_tests.specs.Tests.{ite}
use Rattle.lent_copies.specs.Copies.{zeros}
use Rattle.def_effects.specs.declared.Place.{Place}
use Rattle.def_effects.specs.declared.Session.{Session}
use Rattle.def_transfer.specs.Monad.{Res, ok, refused, Done}
use Rattle.def_transfer.specs.Tables.{World}
use Rattle.def_transfer.specs.Instruction.{Instruction, apply_signature}
use Rattle.lent_work.specs.declared.Run.{Run}
use Rattle.lent_work.specs.Marks.{no_marks}
use Rattle.lent_tables.specs.declared.Table.{Table}
use Rattle.lent_layout.specs.Layout as Layout
use Rattle.lent_layout.specs.Context.{ContextWords}
use Rattle.lent_world.specs.World.{lent, world}
use Rattle.refuse_entries.specs.Words.{identifiers, state_refusal}
use Rattle.refuse_class.specs.Class.{lower}
use Rattle.refuse_words.specs.Classes.{earns}
use Rattle.refuse_instruction.specs.EffectClasses.{instruction_class}
use Rattle.refuse_records.specs.Accepting.{context_class}
use Rattle.call_parts.specs.Instructions.{instruction_of}
use Rattle.lent_context.specs.Lent.{interned_count, effects_in}
use Rattle.laws_room.specs.Room.{needs}
use Rattle.call_undo.specs.Saves.{saved_words}
use Rattle.call_outcome.specs.Attempts.{at_most, lengths_of}
use Rattle.def_refusals.specs.declared.Refusal.{Refusal}
use Rattle.def_refusals.specs.Verdicts.{number_of}
use Rattle.call_outcome.specs.declared.Applied.{Applied}

-- ---- what a call is lent and given

-- a state (values, sets, its function-expression flag), a context, a session, an instruction (candidates, lvalue, own function), the output list,
-- and scratch for the words of a state and of a context
pub record Call : Type 0 where
  pub values : List ℕ
  pub sets : List ℕ
  pub flag : Bool
  pub context : ContextWords
  pub session : Session
  pub candidates : List ℕ
  pub lvalue : Place
  pub own : ℕ
  pub output : List ℕ
  pub scratch64 : List ℕ
  pub scratch32 : List ℕ

-- the same, in the order of the function's parameters
abbrev pub call : List ℕ → List ℕ → Bool → ContextWords → Session → List ℕ → Place → ℕ → List ℕ → List ℕ → List ℕ → Call
call vs ss flag cs session xs lvalue own os s64 s32 = record {
  values = vs;
  sets = ss;
  flag = flag;
  context = cs;
  session = session;
  candidates = xs;
  lvalue = lvalue;
  own = own;
  output = os;
  scratch64 = s64;
  scratch32 = s32;
}

-- what a call answers: 0 or the number with which it is refused, how many effects the output list holds, the entries of all Freezes of the instruction,
-- the session, and the state's function-expression flag
pub record Answered : Type 0 where
  pub refusal : ℕ
  pub count : ℕ
  pub entries : ℕ
  pub session : Session
  pub flag : Bool

-- the same of what the code answers: "with a number come zero effects and count", and session and flag are as they were lent
abbrev pub told : Session → Bool → Result Applied Refusal → Answered
told session flag (Ok a) = record { refusal = 0; count = a.count; entries = a.entries; session = a.session; flag = a.flag }
told session flag (Err refusal) = record { refusal = number_of refusal; count = 0; entries = 0; session = session; flag = flag }

-- what a call answers, and what it leaves in all that it is lent
pub record Outcome : Type 0 where
  pub applied : Answered
  pub values : List ℕ
  pub sets : List ℕ
  pub context : ContextWords
  pub output : List ℕ
  pub scratch64 : List ℕ
  pub scratch32 : List ℕ

-- the same, in the order of the function's parameters
abbrev pub given : Answered → List ℕ → List ℕ → ContextWords → List ℕ → List ℕ → List ℕ → Outcome
given a vs ss cs os s64 s32 = record { applied = a; values = vs; sets = ss; context = cs; output = os; scratch64 = s64; scratch32 = s32 }

-- ---- 1 to 5

-- how many candidates there are
-- records of 98 words
abbrev pub candidate_count : List ℕ → ℕ
candidate_count xs = length xs / Layout.effect_words

-- for how many interned effects a context has to have room: those that it has, and those that the candidates can intern
-- no more than "a 2,049th key to intern" leaves, so that room for 2,048 always suffices
unfoldable pub room_for : ContextWords → List ℕ → ℕ
room_for c xs = at_most 2048 (interned_count c + needs (effects_in Layout.candidate_table xs 0 (candidate_count xs)))

-- whether a slice has the wrong length for a table of which n records are asked: too short for them, longer than the table can be, or ending in a
-- part of a record
unfoldable pub table_wrong : Table → ℕ → ℕ → Bool
table_wrong t n words = ltb words (n * t.width) || (ltb (t.count * t.width) words || not (eqb (words % t.width) 0))

-- whether a slice of a context has the wrong length, for so many identifiers and room for so many interned effects
-- at least as many records as are in use, and as the instruction can need; what can be written at any number is there for all numbers
unfoldable pub context_wrong : ℕ → ℕ → ContextWords → Bool
context_wrong identifiers room c =
    table_wrong Layout.identifiers identifiers (length c.identifiers)
    || (table_wrong Layout.functions (at_most 64 c.function_count) (length c.functions)
    || (table_wrong Layout.contexts (at_most 64 c.function_count) (length c.contexts)
    || (table_wrong Layout.links 512 (length c.links)
    || (table_wrong Layout.cached 512 (length c.keys)
    || (table_wrong Layout.key_order 512 (length c.key_order)
    || (table_wrong Layout.interned room (length c.effects)
    || (table_wrong Layout.effect_order room (length c.effect_order) || not (eqb (length c.diagnostics) Layout.diagnostics))))))))

-- whether a lent list has the wrong length: context, candidates, output list and scratch
-- "The output list has 1,120 records", 98 words each
unfoldable pub lengths_wrong : Call → Bool
lengths_wrong c =
    context_wrong (identifiers c.sets) (room_for c.context c.candidates) c.context
    || (not (eqb (length c.candidates % Layout.effect_words) 0)
    || (not (eqb (length c.output) Layout.output_words)
    || (not (eqb (length c.scratch32) (saved_words (lengths_of c.context))) || not (eqb (length c.scratch64) (1024 + length c.sets)))))

-- the lowest class that anything lent earns, or 0
-- "Order 1 to 5 over the whole input"
unfoldable pub call_class : Call → ℕ
call_class c =
    lower (earns 1 (lengths_wrong c))
    (lower (state_refusal c.values c.sets c.session.next c.session.access)
    (lower (context_class (identifiers c.sets) c.context c.session.next)
    (instruction_class (identifiers c.sets) c.context.function_count c.context c.candidates (candidate_count c.candidates) c.lvalue c.own)))

-- ---- what comes of a call

-- the instruction that is lent
-- "its candidates with their places and captures, its lvalue, and its own function if it has one"
abbrev pub lent_instruction : Call → Instruction
lent_instruction c = instruction_of c.candidates (candidate_count c.candidates) c.lvalue c.own

-- what an instruction has by value as it begins
-- no place initialized, no effect listed, no entry made
abbrev pub start_run : Session → Bool → Run
start_run s flag = record { session = s; flag = flag; marks = no_marks; listed = 0; freeze = 0; entries = 0 }

-- the world that a call begins in
-- whatever the output list holds
abbrev pub lent_world : Call → World lent
lent_world c = world c.values c.sets c.context c.output (start_run c.session c.flag)

-- a call refused: "After a refusal state, context and session are as before; output list and scratch are zero."
-- "With a number come zero effects and count."
abbrev pub refused_with : ℕ → Call → Outcome
refused_with n c =
    given (record { refusal = n; count = 0; entries = 0; session = c.session; flag = c.flag })
    c.values c.sets c.context (zeros (length c.output)) (zeros (length c.scratch64)) (zeros (length c.scratch32))

-- a call that ends in a world: its effects, its walk entries, its session, its tables
-- "Scratch is zero after each call."
abbrev pub ends_in : World lent → Call → Outcome
ends_in w c =
    given
    (record { refusal = 0; count = w.rest.work.listed.count; entries = w.rest.work.entries; session = w.rest.session; flag = w.state.is_function_expression })
    w.state.values w.state.sets w.rest.context w.rest.work.listed.words (zeros (length c.scratch64)) (zeros (length c.scratch32))

-- by how the definition's transfer ends
-- 6 to 11 come from it
abbrev pub concluded : Call → Res (World lent) Done → Outcome
concluded c (ok a w) = ends_in w c
concluded c (refused n w) = refused_with n c

-- what comes of a call: the class that it earns, "then the first met as the steps run"
-- `apply_signature` is the definition's, at the lent tables
unfoldable pub outcome : Call → Outcome
outcome c = ite (eqb (call_class c) 0) (concluded c (apply_signature (lent_instruction c) (lent_world c))) (refused_with (call_class c) c)
