-- The reach of an instruction, what it is for two states to agree on it, and how two runs end (document 01, 'Reach of an instruction').
-- Assumes nothing: these are definitions.
use Rattle.std.specs.Prelude.{ℕ, ◌≤◌, ◌<◌, ◌≡◌, Option, Some}
use mathlib.Core.List.{Memᴰ}
use Rattle.base_sets.specs.Members.{members}
use Rattle.def_kinds.specs.declared.AbstractValue.{AbstractValue}
use Rattle.def_effects.specs.declared.Session.{Session}
use Rattle.def_effects.specs.Places.{identifiers}
use Rattle.def_effects.specs.Effects.{AliasingEffect}
use Rattle.def_effects.specs.Keys.{EffectKey, names, creates}
use Rattle.def_transfer.specs.Monad.{Res, ok, refused, Done}
use Rattle.def_transfer.specs.Tables.{Tables, State, World}
use Rattle.def_transfer.specs.State.{from_identifier}
use Rattle.def_transfer.specs.Instruction.{Instruction}

-- what a state has entries at: a value number, an identifier
pub data Node : Type 0 where
  val id : ℕ → Node

-- "An entry of a state is, at a value number, its kind and reasons or their absence; at an identifier, its set or being undefined."
pub data Entry : Type 0 where
  valued : Option AbstractValue → Entry
  pointing : Option ℕ → Entry

-- "identifiers in candidates"
pub data Named (ins : Instruction) : ℕ → Type 0 where
  by_effect : {e : AliasingEffect} {i : ℕ} → Memᴰ e ins.candidates → Memᴰ i (names e) → Named ins i

-- "functions that candidates or the instruction create"
pub data Created (ins : Instruction) : ℕ → Type 0 where
  by_candidate : {e : AliasingEffect} {f : ℕ} → Memᴰ e ins.candidates → Memᴰ f (creates e) → Created ins f
  by_itself : {f : ℕ} → ins.own ≡ Some f → Created ins f

module _ (T : Tables) where
  abbrev pub entry : State T → Node → Entry
  entry s (val v) = valued (T.value_of s.values v)
  entry s (id i) = pointing (T.set_of s.sets i)

  -- "The smallest set with:"
  pub data Reach (ins : Instruction) (session : Session) (context : T.Context) (s : State T) : Node → Type 0 where
    -- "identifiers in candidates, the lvalue, and contexts of functions that candidates or the instruction create"
    in_candidate : {i : ℕ} → Named ins i → Reach ins session context s (id i)
    lvalue : Reach ins session context s (id ins.lvalue.identifier)
    in_created : {f j : ℕ} → Created ins f → Memᴰ j (identifiers (T.context_of context f)) → Reach ins session context s (id j)
    -- "of each identifier i in it, however it came in, its values and 512 + i"
    its_values : {i v l : ℕ} → Reach ins session context s (id i) → T.set_of s.sets i ≡ Some l → Memᴰ v (members l) → Reach ins session context s (val v)
    its_own : {i : ℕ} → Reach ins session context s (id i) → Reach ins session context s (val (from_identifier i))
    -- "of each value in it with a function, that function's context identifiers"
    its_context : {v f j : ℕ} → Reach ins session context s (val v) → T.link_of context v ≡ Some f → Memᴰ j (identifiers (T.context_of context f)) → Reach ins session context s (id j)
    -- "numbers cached under a key whose destination a candidate names"
    cached : {i n : ℕ} {k : EffectKey} → T.key_at context n ≡ Some k → k.into ≡ Some i → Named ins i → Reach ins session context s (val n)
    -- "all fresh numbers from the session's next number up, handed out before or not"
    fresh : {n : ℕ} → session.next ≤ n → n < 512 → Reach ins session context s (val n)

  -- "Two states agree on reach if all entries are equal in the reach taken in one of them"; "A state's function-expression flag .. agree too"
  pub record Agree (R : Node → Type 0) (s t : State T) : Type 0 where
    pub entries : (n : Node) → R n → entry s n ≡ entry t n
    pub flags : s.is_function_expression ≡ t.is_function_expression

  -- "every entry outside ends exactly as that run found it"
  abbrev pub Untouched : (Node → Type 0) → State T → State T → Type 0
  Untouched R s s' = (n : Node) → ¬ (R n) → entry s' n ≡ entry s n

  -- how two runs, from s and t, end: equal session, context, effects and counts; "entries in reach end equal", others as found
  pub record Ends (R : Node → Type 0) (s t : State T) (w u : World T) : Type 0 where
    pub same : w.rest ≡ u.rest
    pub agree : Agree R w.state u.state
    pub left : Untouched R s w.state
    pub right : Untouched R t u.state

  -- "both refused with the same number, or the same effects"
  abbrev pub Alike : (Node → Type 0) → State T → State T → Res (World T) Done → Res (World T) Done → Type 0
  Alike R s t (ok a w) (ok b u) = Ends R s t w u
  Alike R s t (ok a w) (refused n u) = ⊥
  Alike R s t (refused m w) (ok b u) = ⊥
  Alike R s t (refused m w) (refused n u) = (m ≡ n) × Ends R s t w u
