-- What leaves the work of an instruction as it is: the parts of the step that touch state, session and context. A measure of the work
-- stays in them, and in the freeze walk if it stays where an entry is counted. Assumes nothing.
use Prim.Native.Nat.{ℕ, zero, suc}
use native.Mathlib.Omega.{arith}
use Rattle.std.specs.Prelude.{◌≡◌, true, Option, None, Some}
use Rattle.std.proofs.Math.Path.{ap}
use mathlib.Core.List.{List, [], ◌∷◌}
use Rattle.def_kinds.specs.declared.AbstractValue.{AbstractValue}
use Rattle.def_effects.specs.declared.Span.{Span}
use Rattle.def_effects.specs.declared.Place.{Place}
use Rattle.def_effects.specs.declared.MutateVariant.{MutateVariant}
use Rattle.def_effects.specs.Effects.{AliasingEffect}
use Rattle.def_effects.specs.Keys.{EffectKey}
use Rattle.def_transfer.specs.Diagnostics.{Diagnostic}
use Rattle.def_transfer.specs.Tables.{Tables, Work, Rest}
use Rattle.def_transfer.specs.State.{ask, change, set_of, value_of, peek, initialize, point, record_access, kind_with_span, kind, define, or_insert, assign_set, assign, freeze_value, to_freeze, freeze}
use Rattle.def_transfer.specs.Context.{put_effect, intern_new, intern_effect, set_next, fresh_number, cache, or_fresh, get_or_create_value_id, link_to, make_read, put_diagnostic, new_identity, new_instance, intern_diagnostic, is_initialized, start_freeze, count_entry}
use Rattle.def_transfer.specs.Walk.{freeze_and_enter, enter_place, enter_context, freeze_function_captures_transitive, walk}
use Rattle.def_transfer.specs.Step.{create, is_written, any_written, update_context, mutate}
use Rattle.def_transfer.specs.Instruction.{define_lvalue}
use Rattle.laws_counts.proofs.Laws.Grows.{Grows, plain, bind_keeps, return_grows, if_grows, then_rest}

module _ {T : Tables} {μ : Work T → ℕ} where
  -- ---- the five that touch the state, and the two that touch the rest

  -- a set is read
  pub set_of_grows : {b : ℕ} (i : ℕ) → Grows μ b (set_of {T = T} i)
  unfolding set_of
  set_of_grows i = record { grows = λ w. omega arith }

  -- a value is read
  pub value_of_grows : {b : ℕ} (v : ℕ) → Grows μ b (value_of {T = T} v)
  unfolding value_of
  value_of_grows v = record { grows = λ w. omega arith }

  -- a kind is read
  pub peek_grows : {b : ℕ} (i : ℕ) → Grows μ b (peek {T = T} i)
  unfolding peek
  peek_grows i = record { grows = λ w. omega arith }

  -- a value is written
  pub initialize_grows : {b : ℕ} (v : ℕ) (a : AbstractValue) → Grows μ b (initialize {T = T} v a)
  unfolding initialize
  initialize_grows v a = record { grows = λ w. omega arith }

  -- a set is written
  pub point_grows : {b : ℕ} (i s : ℕ) → Grows μ b (point {T = T} i s)
  unfolding point
  point_grows i s = record { grows = λ w. omega arith }

  -- the rest is read
  pub ask_grows : {A : Type 0} {b : ℕ} (f : Rest T → A) → Grows μ b (ask f)
  unfolding ask
  ask_grows f = record { grows = λ w. omega arith }

  -- session or context change
  pub change_grows : {b : ℕ} (f : Rest T → Rest T) → ((r : Rest T) → (f r).work ≡ r.work) → Grows μ b (change f)
  unfolding change
  change_grows f h = record { grows = λ w. let k : μ (f w.rest).work ≡ μ w.rest.work = ap μ (h w.rest) in omega arith }

-- what `search` finds the bound of a part by
-- the seven computations that touch a world, and what composes them
pub ruleset base = (plain, set_of_grows, value_of_grows, peek_grows, initialize_grows, point_grows, ask_grows, change_grows)

module _ {T : Tables} {μ : Work T → ℕ} where
  -- ---- the state's operations, under the Rust's names: none touches the work

  -- the first undefined access goes into the session
  pub record_access_grows : {b : ℕ} (i : ℕ) (span : Span) → Grows μ b (record_access {T = T} i span)
  unfolding record_access
  record_access_grows i span = search base

  -- the kind of a place, with its access recorded
  pub kind_with_span_grows : {b : ℕ} (i : ℕ) (span : Span) → Grows μ b (kind_with_span {T = T} i span)
  unfolding kind_with_span
  kind_with_span_grows i span = search (base, record_access_grows)

  -- the kind of a place, without a span
  pub kind_grows : {b : ℕ} (i : ℕ) → Grows μ b (kind {T = T} i)
  unfolding kind
  kind_grows i = search (base, kind_with_span_grows)

  -- a place gets one value
  pub define_grows : {b : ℕ} (i v : ℕ) → Grows μ b (define {T = T} i v)
  unfolding define
  define_grows i v = search base

  -- a value where none stands yet
  pub or_insert_grows : {b : ℕ} (v : ℕ) (o : Option AbstractValue) → Grows μ b (or_insert {T = T} v o)
  unfolding or_insert
  or_insert_grows v None = search base
  or_insert_grows v (Some a) = search base

  -- a place gets the values of another, by the other's set
  -- with none, the other's own value
  pub assign_set_grows : {b : ℕ} (into from : ℕ) (o : Option ℕ) → Grows μ b (assign_set {T = T} into from o)
  unfolding assign_set
  assign_set_grows into from (Some s) = search base
  assign_set_grows into from None = search (base, or_insert_grows, define_grows)

  -- a place gets the values of another
  -- the other's set is read first
  pub assign_grows : {b : ℕ} (into from : ℕ) → Grows μ b (assign {T = T} into from)
  unfolding assign
  assign_grows into from = search (base, assign_set_grows)

  -- a value becomes Frozen
  pub freeze_value_grows : {b : ℕ} (reason v : ℕ) → Grows μ b (freeze_value {T = T} reason v)
  unfolding freeze_value
  freeze_value_grows reason v = search base

  -- the set that a freeze acts on
  pub to_freeze_grows : {b : ℕ} (i : ℕ) → Grows μ b (to_freeze {T = T} i)
  unfolding to_freeze
  to_freeze_grows i = search base

  -- each value of a place becomes Frozen
  pub freeze_grows : {b : ℕ} (i reason : ℕ) → Grows μ b (freeze {T = T} i reason)
  unfolding freeze
  freeze_grows i reason = search (base, to_freeze_grows, freeze_value_grows)

  -- ---- the context's operations: none touches the work

  -- an effect is interned
  pub put_effect_grows : {b : ℕ} (e : AliasingEffect) → Grows μ b (put_effect {T = T} e)
  unfolding put_effect
  put_effect_grows e = search base

  -- the effect found under a key, or the one given
  -- refused 8 where there is no room
  pub intern_new_grows : {b : ℕ} (e : AliasingEffect) (o : Option AliasingEffect) → Grows μ b (intern_new {T = T} e o)
  unfolding intern_new
  intern_new_grows e (Some x) = search base
  intern_new_grows e None = search (base, put_effect_grows)

  -- `intern_effect`
  pub intern_grows : {b : ℕ} (e : AliasingEffect) → Grows μ b (intern_effect {T = T} e)
  unfolding intern_effect
  intern_grows e = search (base, intern_new_grows)

  -- the next number is set
  pub set_next_grows : {b : ℕ} (n : ℕ) → Grows μ b (set_next {T = T} n)
  unfolding set_next
  set_next_grows n = search base

  -- a fresh number
  -- refused 9 where there is none
  pub fresh_number_grows : {b : ℕ} → Grows μ b (fresh_number {T = T})
  unfolding fresh_number
  fresh_number_grows = search (base, set_next_grows)

  -- a number is cached under a key
  pub cache_grows : {b : ℕ} (k : EffectKey) (n : ℕ) → Grows μ b (cache {T = T} k n)
  unfolding cache
  cache_grows k n = search base

  -- the number found, or a fresh one
  pub or_fresh_grows : {b : ℕ} (k : EffectKey) (o : Option ℕ) → Grows μ b (or_fresh {T = T} k o)
  unfolding or_fresh
  or_fresh_grows k (Some n) = search base
  or_fresh_grows k None = search (base, fresh_number_grows, cache_grows)

  -- `get_or_create_value_id`
  pub number_for_grows : {b : ℕ} (k : EffectKey) → Grows μ b (get_or_create_value_id {T = T} k)
  unfolding get_or_create_value_id
  number_for_grows k = search (base, or_fresh_grows)

  -- a value's function is noted
  pub link_to_grows : {b : ℕ} (v f : ℕ) → Grows μ b (link_to {T = T} v f)
  unfolding link_to
  link_to_grows v f = search base

  -- Capture places of a function made Read
  pub make_read_grows : {b : ℕ} (f i : ℕ) → Grows μ b (make_read {T = T} f i)
  unfolding make_read
  make_read_grows f i = search base

  -- a diagnostic is added
  pub put_diagnostic_grows : {b : ℕ} (n : ℕ) (d : Diagnostic) → Grows μ b (put_diagnostic {T = T} n d)
  unfolding put_diagnostic
  put_diagnostic_grows n d = search base

  -- the identity found, or the next
  -- refused 10 where there is none
  pub new_identity_grows : {b : ℕ} (o : Option ℕ) → Grows μ b (new_identity {T = T} o)
  unfolding new_identity
  new_identity_grows (Some n) = search base
  new_identity_grows None = search base

  -- the instance found, or a new one
  -- refused 10 where there is no room
  pub new_instance_grows : {b : ℕ} (n : ℕ) (d : Diagnostic) (o : Option ℕ) → Grows μ b (new_instance {T = T} n d o)
  unfolding new_instance
  new_instance_grows n d (Some m) = search base
  new_instance_grows n d None = search (base, put_diagnostic_grows)

  -- `intern_aliasing_diagnostic`
  pub intern_diagnostic_grows : {b : ℕ} (d : Diagnostic) → Grows μ b (intern_diagnostic {T = T} d)
  unfolding intern_diagnostic
  intern_diagnostic_grows d = search (base, new_identity_grows, new_instance_grows) depth 10

  -- whether a place is initialized in this instruction
  pub is_initialized_grows : {b : ℕ} (i : ℕ) → Grows μ b (is_initialized {T = T} i)
  unfolding is_initialized
  is_initialized_grows i = search base

  -- ---- parts of the step

  -- a place gets one value, of a kind
  pub create_grows : {b : ℕ} (into : Place) (v : ℕ) (a : AbstractValue) → Grows μ b (create {T = T} into v a)
  unfolding create
  create_grows into v a = search (base, define_grows)

  -- a capture that is defined and can be written
  pub is_written_grows : {b : ℕ} (p : Place) → Grows μ b (is_written {T = T} p)
  unfolding is_written
  is_written_grows p = search base

  -- whether there is one among several
  pub any_written_grows : {b : ℕ} (l : List Place) → Grows μ b (any_written {T = T} l)
  unfolding any_written
  any_written_grows [] = search base
  any_written_grows (p ∷ ps) = bind_keeps (is_written_grows p) (λ a. if_grows a (return_grows true) (any_written_grows ps))

  -- a context place of a new function, made Read where it cannot be written
  pub update_context_grows : {b : ℕ} (f : ℕ) (p : Place) → Grows μ b (update_context {T = T} f p)
  unfolding update_context
  update_context_grows f p = search (base, make_read_grows)

  -- `mutate_with_span`
  pub mutate_grows : {b : ℕ} (variant : MutateVariant) (p : Place) → Grows μ b (mutate {T = T} variant p)
  unfolding mutate
  mutate_grows variant p = search (base, kind_with_span_grows) depth 8

  -- "Last, an undefined lvalue becomes defined as its own value"
  pub define_lvalue_grows : {b : ℕ} (i : ℕ) → Grows μ b (define_lvalue {T = T} i)
  unfolding define_lvalue
  define_lvalue_grows i = search (base, define_grows) depth 8

  -- ---- the freeze walk

  -- "Each entry is counted": where counting an entry adds nothing to a measure, an entry and all that it leads to add nothing
  pub enter_grows : {b : ℕ} (d reason v : ℕ) → Grows μ 0 (count_entry {T = T}) → Grows μ b (freeze_function_captures_transitive {T = T} d reason v)
  unfolding freeze_function_captures_transitive enter_context enter_place freeze_and_enter
  enter_grows zero reason v h = search base
  enter_grows (suc d) reason v h = search (base, to_freeze_grows, freeze_value_grows, enter_grows {b = 0} d) depth 10

  -- "each Freeze starts from zero": a walk adds what its start adds
  pub walk_grows : {b : ℕ} (vs : List ℕ) (reason : ℕ) → Grows μ b (start_freeze {T = T}) → Grows μ 0 (count_entry {T = T}) → Grows μ b (walk {T = T} vs reason)
  unfolding walk
  walk_grows vs reason h k = then_rest h (search (base, enter_grows))
