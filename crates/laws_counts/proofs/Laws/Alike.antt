-- The text does the same over tables without limits: each function up to the parts of the step. Assumes nothing.
use Prim.Native.Nat.{ℕ, zero, suc}
use Rattle.std.specs.Prelude.{◌≡◌, Bool, true, false, ◌||◌, eqb, Option, None, Some}
use Rattle.std.proofs.Math.Path.{refl, ap}
use Rattle.std.proofs.Common.{sym}
use mathlib.Core.List.{List, [], ◌∷◌}
use Rattle.def_kinds.specs.declared.AbstractValue.{AbstractValue}
use Rattle.def_effects.specs.declared.Span.{Span}
use Rattle.def_effects.specs.declared.Place.{Place}
use Rattle.def_effects.specs.declared.Session.{Session}
use Rattle.def_effects.specs.declared.MutateVariant.{MutateVariant}
use Rattle.def_effects.specs.Effects.{AliasingEffect}
use Rattle.def_effects.specs.Keys.{EffectKey}
use Rattle.def_transfer.specs.Monad.{M, Done}
use Rattle.def_transfer.specs.Diagnostics.{Diagnostic}
use Rattle.def_transfer.specs.Tables.{Tables, Rest, World}
use Rattle.def_transfer.specs.State.{first_access, ask, set_of, value_of, peek, initialize, point, record_access, kind_with_span, kind, define, or_insert, assign_set, assign, freeze_value, to_freeze, freeze}
use Rattle.def_transfer.specs.Context.{put_effect, intern_new, intern_effect, set_next, fresh_number, cache, or_fresh, get_or_create_value_id, link_to, function_context, linked_context, make_read, put_diagnostic, new_identity, new_instance, intern_diagnostic, emit, is_initialized, put_initialized, begin, start_freeze, count_entry}
use Rattle.def_transfer.specs.Walk.{freeze_and_enter, enter_place, enter_context, freeze_function_captures_transitive, walk}
use Rattle.def_transfer.specs.Step.{Flow, Immutable, Same as SameFlow, Maybe, Nothing, create, is_written, any_written, any_ref, update_context, by_flow, mutate}
use Rattle.laws_counts.proofs.Laws.Unlimited.{unlimited, count_all, list_last, limit_session, limit_rest, Same, alike, bind_same, return_same, if_same, change_same, ask_same}

-- an access recorded leaves the entries
first_limit : (T : Tables) (a : ℕ) (span : Span) (s : Session) → first_access a span (limit_session T s) ≡ limit_session T (first_access a span s)
first_limit T a span s = go (eqb s.access 0)
  where
    go : (b : Bool) → ◌≡◌ {A = Session} (elim b as (λ x. Session) [ true ↦ record { next = s.next; access = a; span = span; entries = count_all T s.entries } | false ↦ limit_session T s ])
        (limit_session T (elim b as (λ x. Session) [ true ↦ record { next = s.next; access = a; span = span; entries = s.entries } | false ↦ s ]))
    go true = refl
    go false = refl

-- whether a place of some is a ref
any_ref_is : (T : Tables) (l : List Place) (r : Rest (unlimited T)) → any_ref {T = T} l (limit_rest T r) ≡ any_ref {T = unlimited T} l r
unfolding any_ref
any_ref_is T [] r = refl
any_ref_is T (p ∷ ps) r = ap (λ (b : Bool). T.is_ref r.context p.identifier || b) (any_ref_is T ps r)

module _ {T : Tables} where
  -- ---- the five that touch the state, which is the same in both

  -- a set is read
  pub set_of_same : (i : ℕ) → Same T (set_of i) (set_of i)
  unfolding set_of
  set_of_same i = record { same = λ w. refl }

  -- a value is read
  pub value_of_same : (v : ℕ) → Same T (value_of v) (value_of v)
  unfolding value_of
  value_of_same v = record { same = λ w. refl }

  -- a kind is read
  pub peek_same : (i : ℕ) → Same T (peek i) (peek i)
  unfolding peek
  peek_same i = record { same = λ w. refl }

  -- a value is written
  pub initialize_same : (v : ℕ) (a : AbstractValue) → Same T (initialize v a) (initialize v a)
  unfolding initialize
  initialize_same v a = record { same = λ w. refl }

  -- a set is written
  pub point_same : (i s : ℕ) → Same T (point i s) (point i s)
  unfolding point
  point_same i s = record { same = λ w. refl }

-- what `search` finds a function by
-- the computations that touch a world
pub ruleset touching = (alike, set_of_same, value_of_same, peek_same, initialize_same, point_same)

module _ {T : Tables} where
  -- ---- the state's operations, under the Rust's names

  -- the first undefined access goes into the session
  -- as `first_limit` says
  pub record_access_same : (i : ℕ) (span : Span) → Same T (record_access i span) (record_access i span)
  unfolding record_access
  record_access_same i span = change_same _ _ (λ r. ap (λ (s : Session). record { session = s; context = r.context; work = (limit_rest T r).work }) (first_limit T (T.access_of i) span r.session))

  -- the kind of a place, with its access recorded
  pub kind_with_span_same : (i : ℕ) (span : Span) → Same T (kind_with_span i span) (kind_with_span i span)
  unfolding kind_with_span
  kind_with_span_same i span = search (touching, record_access_same)

  -- the kind of a place, without a span
  pub kind_same : (i : ℕ) → Same T (kind i) (kind i)
  unfolding kind
  kind_same i = search (touching, kind_with_span_same)

  -- a place gets one value
  pub define_same : (i v : ℕ) → Same T (define i v) (define i v)
  unfolding define
  define_same i v = search touching

  -- a value where none stands yet
  pub or_insert_same : (v : ℕ) (o : Option AbstractValue) → Same T (or_insert v o) (or_insert v o)
  unfolding or_insert
  or_insert_same v None = search touching
  or_insert_same v (Some a) = search touching

  -- a place gets the values of another, by the other's set
  -- with none, the other's own value
  pub assign_set_same : (into from : ℕ) (o : Option ℕ) → Same T (assign_set into from o) (assign_set into from o)
  unfolding assign_set
  assign_set_same into from (Some s) = search touching
  assign_set_same into from None = search (touching, or_insert_same, define_same)

  -- a place gets the values of another
  -- the other's set is read first
  pub assign_same : (into from : ℕ) → Same T (assign into from) (assign into from)
  unfolding assign
  assign_same into from = search (touching, assign_set_same)

  -- a value becomes Frozen
  pub freeze_value_same : (reason v : ℕ) → Same T (freeze_value reason v) (freeze_value reason v)
  unfolding freeze_value
  freeze_value_same reason v = search touching

  -- the set that a freeze acts on
  pub to_freeze_same : (i : ℕ) → Same T (to_freeze i) (to_freeze i)
  unfolding to_freeze
  to_freeze_same i = search touching

  -- each value of a place becomes Frozen
  pub freeze_same : (i reason : ℕ) → Same T (freeze i reason) (freeze i reason)
  unfolding freeze
  freeze_same i reason = search (touching, to_freeze_same, freeze_value_same)

  -- ---- the context's operations: the context is the same in both

  -- an effect is interned
  pub put_effect_same : (e : AliasingEffect) → Same T (put_effect e) (put_effect e)
  unfolding put_effect
  put_effect_same e = search touching

  -- the effect found under a key, or the one given
  pub intern_new_same : (e : AliasingEffect) (o : Option AliasingEffect) → Same T (intern_new e o) (intern_new e o)
  unfolding intern_new
  intern_new_same e (Some x) = search touching
  intern_new_same e None = search (touching, put_effect_same)

  -- `intern_effect`
  pub intern_same : (e : AliasingEffect) → Same T (intern_effect e) (intern_effect e)
  unfolding intern_effect
  intern_same e = search (touching, intern_new_same)

  -- the next number is set
  pub set_next_same : (n : ℕ) → Same T (set_next n) (set_next n)
  unfolding set_next
  set_next_same n = search touching

  -- a fresh number
  pub fresh_number_same : Same T fresh_number fresh_number
  unfolding fresh_number
  fresh_number_same = search (touching, set_next_same)

  -- a number is cached under a key
  pub cache_same : (k : EffectKey) (n : ℕ) → Same T (cache k n) (cache k n)
  unfolding cache
  cache_same k n = search touching

  -- the number found, or a fresh one
  pub or_fresh_same : (k : EffectKey) (o : Option ℕ) → Same T (or_fresh k o) (or_fresh k o)
  unfolding or_fresh
  or_fresh_same k (Some n) = search touching
  or_fresh_same k None = search (touching, fresh_number_same, cache_same)

  -- `get_or_create_value_id`
  pub number_for_same : (k : EffectKey) → Same T (get_or_create_value_id k) (get_or_create_value_id k)
  unfolding get_or_create_value_id
  number_for_same k = search (touching, or_fresh_same)

  -- a value's function is noted
  pub link_to_same : (v f : ℕ) → Same T (link_to v f) (link_to v f)
  unfolding link_to
  link_to_same v f = search touching

  -- Capture places of a function made Read
  pub make_read_same : (f i : ℕ) → Same T (make_read f i) (make_read f i)
  unfolding make_read
  make_read_same f i = search touching

  -- a diagnostic is added
  pub put_diagnostic_same : (n : ℕ) (d : Diagnostic) → Same T (put_diagnostic n d) (put_diagnostic n d)
  unfolding put_diagnostic
  put_diagnostic_same n d = search touching

  -- the identity found, or the next
  pub new_identity_same : (o : Option ℕ) → Same T (new_identity o) (new_identity o)
  unfolding new_identity
  new_identity_same (Some n) = search touching
  new_identity_same None = search touching

  -- the instance found, or a new one
  pub new_instance_same : (n : ℕ) (d : Diagnostic) (o : Option ℕ) → Same T (new_instance n d o) (new_instance n d o)
  unfolding new_instance
  new_instance_same n d (Some m) = search touching
  new_instance_same n d None = search (touching, put_diagnostic_same)

  -- `intern_aliasing_diagnostic`
  pub intern_diagnostic_same : (d : Diagnostic) → Same T (intern_diagnostic d) (intern_diagnostic d)
  unfolding intern_diagnostic
  intern_diagnostic_same d = search (touching, new_identity_same, new_instance_same) depth 10

  -- ---- the work of the instruction

  -- an effect is listed: at the end of the list, and after the last of the tables
  -- as `list_last` says
  pub emit_same : (e : AliasingEffect) → Same T (emit e) (emit e)
  unfolding emit
  emit_same e = change_same _ _ (λ r. ap (λ (l : T.Listed). record { session = limit_session T r.session; context = r.context; work = record { initialized = r.work.initialized; listed = l; freeze_entries = r.work.freeze_entries; entries = count_all T r.work.entries } }) (sym (list_last T T.none_listed r.work.listed e)))

  -- whether a place is initialized in this instruction
  pub is_initialized_same : (i : ℕ) → Same T (is_initialized i) (is_initialized i)
  unfolding is_initialized
  is_initialized_same i = search touching

  -- a place is marked as initialized
  pub put_initialized_same : (i : ℕ) → Same T (put_initialized i) (put_initialized i)
  unfolding put_initialized
  put_initialized_same i = search touching

  -- "into a place already initialized in this instruction": 6
  pub begin_same : (i : ℕ) → Same T (begin i) (begin i)
  unfolding begin
  begin_same i = search (touching, is_initialized_same, put_initialized_same)

  -- "each Freeze starts from zero"
  pub start_freeze_same : Same T start_freeze start_freeze
  unfolding start_freeze
  start_freeze_same = search touching

  -- an entry is counted: one more, and as the tables count one more
  -- refused by the same count of the Freeze under way
  pub count_entry_same : Same T count_entry count_entry
  unfolding count_entry count_all
  count_entry_same = search touching

  -- ---- the freeze walk

  -- the context places of a value's function
  linked_same : (v : ℕ) → Same T (ask (linked_context v)) (ask (linked_context v))
  unfolding linked_context function_context
  linked_same v = ask_same _ _ (λ r. refl)

  -- an entry, and all that it leads to
  -- by the depth
  pub enter_same : (d reason v : ℕ) → Same T (freeze_function_captures_transitive d reason v) (freeze_function_captures_transitive d reason v)
  unfolding freeze_function_captures_transitive enter_context enter_place freeze_and_enter
  enter_same zero reason v = search touching
  enter_same (suc d) reason v = search (touching, count_entry_same, linked_same, to_freeze_same, freeze_value_same, enter_same d) depth 10

  -- "It enters each value of the frozen place."
  pub walk_same : (vs : List ℕ) (reason : ℕ) → Same T (walk vs reason) (walk vs reason)
  unfolding walk
  walk_same vs reason = search (touching, start_freeze_same, enter_same)

  -- ---- parts of the step

  -- a place gets one value, of a kind
  pub create_same : (into : Place) (v : ℕ) (a : AbstractValue) → Same T (create into v a) (create into v a)
  unfolding create
  create_same into v a = search (touching, define_same)

  -- a capture that is defined and can be written
  pub is_written_same : (p : Place) → Same T (is_written p) (is_written p)
  unfolding is_written
  is_written_same p = search touching

  -- whether there is one among several
  pub any_written_same : (l : List Place) → Same T (any_written l) (any_written l)
  unfolding any_written
  any_written_same [] = search touching
  any_written_same (p ∷ ps) = bind_same (is_written_same p) (λ b. if_same b (return_same true) (any_written_same ps))

  -- whether a place of some is a ref, as it is asked for
  -- as `any_ref_is` says
  pub any_ref_same : (l : List Place) → Same T (ask (any_ref l)) (ask (any_ref l))
  any_ref_same l = ask_same _ _ (any_ref_is T l)

  -- a function's context places
  pub function_context_same : (f : ℕ) → Same T (ask (function_context f)) (ask (function_context f))
  unfolding function_context
  function_context_same f = ask_same _ _ (λ r. refl)

  -- a context place of a new function, made Read where it cannot be written
  pub update_context_same : (f : ℕ) (p : Place) → Same T (update_context f p) (update_context f p)
  unfolding update_context
  update_context_same f p = search (touching, make_read_same)

  -- `mutate_with_span`
  pub mutate_same : (variant : MutateVariant) (p : Place) → Same T (mutate variant p) (mutate variant p)
  unfolding mutate
  mutate_same variant p = search (touching, kind_with_span_same) depth 8

  -- what a flow comes to is one of three, or nothing
  pub by_flow_same : (x : Flow) {i s m : M (World T) Done} {j t n : M (World (unlimited T)) Done} → Same T i j → Same T s t → Same T m n → Same T (by_flow x i s m) (by_flow x j t n)
  unfolding by_flow
  by_flow_same Immutable p q r = p
  by_flow_same SameFlow p q r = q
  by_flow_same Maybe p q r = r
  by_flow_same Nothing p q r = search touching
