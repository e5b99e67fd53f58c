-- The functions of the text up to the parts of the step: each does the same where there is more room, and only interning an effect takes
-- any. Assumes nothing.
use Prim.Native.Nat.{ℕ, zero, suc}
use native.Mathlib.Omega.{arith}
use Rattle.std.specs.Prelude.{◌≡◌, Bool, ◌||◌, leb, Option, None, Some}
use Rattle.std.proofs.Math.Path.{refl, ap}
use Rattle.std.proofs.Common.{◌∙◌}
use Rattle.std.proofs.Math.Bool.{true, false}
use mathlib.Core.List.{List, [], ◌∷◌}
use Rattle.def_kinds.specs.declared.AbstractValue.{AbstractValue}
use Rattle.def_effects.specs.declared.Span.{Span}
use Rattle.def_effects.specs.declared.Place.{Place}
use Rattle.def_effects.specs.declared.MutateVariant.{MutateVariant}
use Rattle.def_effects.specs.Effects.{AliasingEffect}
use Rattle.def_effects.specs.Keys.{EffectKey, effect_key}
use Rattle.def_transfer.specs.Monad.{M, Done, ◌>>=◌, ◌>>◌, and_then, return, refuse, when◌then◌else◌}
use Rattle.def_transfer.specs.Diagnostics.{Diagnostic}
use Rattle.def_transfer.specs.Tables.{Tables, Rest, World}
use Rattle.def_transfer.specs.State.{ask, change, set_of, value_of, peek, initialize, point, record_access, kind_with_span, kind, define, or_insert, assign_set, assign, freeze_value, to_freeze, freeze}
use Rattle.def_transfer.specs.Context.{put_effect, intern_new, intern_effect, set_next, fresh_number, cache, or_fresh, get_or_create_value_id, link_to, function_context, linked_context, make_read, put_diagnostic, new_identity, new_instance, intern_diagnostic, emit, is_initialized, put_initialized, begin, start_freeze, count_entry}
use Rattle.def_transfer.specs.Walk.{freeze_and_enter, enter_place, enter_context, freeze_function_captures_transitive, walk}
use Rattle.def_transfer.specs.Step.{Flow, Immutable, Same, Maybe, Nothing, create, is_written, any_written, any_ref, update_context, by_flow, mutate}
use Rattle.def_transfer.specs.Instruction.{define_lvalue}
use Rattle.def_transfer.proofs.Laws.Derived.{refreshed_key}
use Rattle.laws_room.specs.Room.{size}
use Rattle.laws_room.proofs.Laws.Near.{Measured, Padded, across, Holds, Near, plain, bind_keeps, then_rest, return_near, done_near, if_near, refuse_near, ask_near, context_near}

-- ---- what is read of a context by a function of its own

module _ {T : Tables} (𝓟 : Padded T) where
  -- the context places of a value's function
  linked : (v : ℕ) (r : Rest T) (d : T.Context) → 𝓟.Pad r.context d → linked_context v (across d r) ≡ linked_context v r
  unfolding linked_context function_context
  linked v r d p = ap (places_of d) (𝓟.link_of p v) ∙ go (T.link_of r.context v)
    where
      places_of : T.Context → Option ℕ → List Place
      places_of c o = elim o as (λ x. List Place) [ None ↦ [] | Some f ↦ T.context_of c f ]

      go : (o : Option ℕ) → places_of d o ≡ places_of r.context o
      go None = refl
      go (Some f) = 𝓟.context_of p f

  -- whether a place of some is a ref
  any_ref_is : (l : List Place) (r : Rest T) (d : T.Context) → 𝓟.Pad r.context d → any_ref l (across d r) ≡ any_ref l r
  unfolding any_ref
  any_ref_is [] r d p = refl
  any_ref_is (x ∷ xs) r d p = ap (λ (t : Bool). t || any_ref xs (across d r)) (𝓟.is_ref p x.identifier) ∙ ap (λ (t : Bool). T.is_ref r.context x.identifier || t) (any_ref_is xs r d p)

-- ---- the five that touch the state, which is the same in both

module _ {T : Tables} {𝓟 : Padded T} where
  -- a set is read
  pub set_of_near : {b : ℕ} (i : ℕ) → Near 𝓟 b (set_of i)
  unfolding set_of
  set_of_near i = record { near = λ w d p l. record { long = d; same = refl; pad = p; most = omega arith; least = omega arith } }

  -- a value is read
  pub value_of_near : {b : ℕ} (v : ℕ) → Near 𝓟 b (value_of v)
  unfolding value_of
  value_of_near v = record { near = λ w d p l. record { long = d; same = refl; pad = p; most = omega arith; least = omega arith } }

  -- a kind is read
  pub peek_near : {b : ℕ} (i : ℕ) → Near 𝓟 b (peek i)
  unfolding peek
  peek_near i = record { near = λ w d p l. record { long = d; same = refl; pad = p; most = omega arith; least = omega arith } }

  -- a value is written
  pub initialize_near : {b : ℕ} (v : ℕ) (a : AbstractValue) → Near 𝓟 b (initialize v a)
  unfolding initialize
  initialize_near v a = record { near = λ w d p l. record { long = d; same = refl; pad = p; most = omega arith; least = omega arith } }

  -- a set is written
  pub point_near : {b : ℕ} (i s : ℕ) → Near 𝓟 b (point i s)
  unfolding point
  point_near i s = record { near = λ w d p l. record { long = d; same = refl; pad = p; most = omega arith; least = omega arith } }

-- what `search` finds a function by
-- the computations that touch a world, and what composes them
pub ruleset base = (plain, set_of_near, value_of_near, peek_near, initialize_near, point_near)

module _ {T : Tables} {𝓟 : Padded T} where
  -- ---- the state's operations, under the Rust's names

  -- the first undefined access goes into the session
  pub record_access_near : {b : ℕ} (i : ℕ) (span : Span) → Near 𝓟 b (record_access i span)
  unfolding record_access
  record_access_near i span = search base

  -- the kind of a place, with its access recorded
  pub kind_with_span_near : {b : ℕ} (i : ℕ) (span : Span) → Near 𝓟 b (kind_with_span i span)
  unfolding kind_with_span
  kind_with_span_near i span = search (base, record_access_near)

  -- the kind of a place, without a span
  pub kind_near : {b : ℕ} (i : ℕ) → Near 𝓟 b (kind i)
  unfolding kind
  kind_near i = search (base, kind_with_span_near)

  -- a place gets one value
  pub define_near : {b : ℕ} (i v : ℕ) → Near 𝓟 b (define i v)
  unfolding define
  define_near i v = search base

  -- a value where none stands yet
  pub or_insert_near : {b : ℕ} (v : ℕ) (o : Option AbstractValue) → Near 𝓟 b (or_insert v o)
  unfolding or_insert
  or_insert_near v None = search base
  or_insert_near v (Some a) = search base

  -- a place gets the values of another, by the other's set
  -- with none, the other's own value
  pub assign_set_near : {b : ℕ} (into from : ℕ) (o : Option ℕ) → Near 𝓟 b (assign_set into from o)
  unfolding assign_set
  assign_set_near into from (Some s) = search base
  assign_set_near into from None = search (base, or_insert_near, define_near)

  -- a place gets the values of another
  -- the other's set is read first
  pub assign_near : {b : ℕ} (into from : ℕ) → Near 𝓟 b (assign into from)
  unfolding assign
  assign_near into from = search (base, assign_set_near)

  -- a value becomes Frozen
  pub freeze_value_near : {b : ℕ} (reason v : ℕ) → Near 𝓟 b (freeze_value reason v)
  unfolding freeze_value
  freeze_value_near reason v = search base

  -- the set that a freeze acts on
  pub to_freeze_near : {b : ℕ} (i : ℕ) → Near 𝓟 b (to_freeze i)
  unfolding to_freeze
  to_freeze_near i = search base

  -- each value of a place becomes Frozen
  pub freeze_near : {b : ℕ} (i reason : ℕ) → Near 𝓟 b (freeze i reason)
  unfolding freeze
  freeze_near i reason = search (base, to_freeze_near, freeze_value_near)

  -- ---- interned effects

  -- an effect is added, and takes its size
  -- the one function that needs room
  pub put_effect_near : (e : AliasingEffect) → Near 𝓟 (size (effect_key e)) (put_effect e)
  unfolding put_effect
  put_effect_near e = context_near _ (λ c d p l. 𝓟.add_effect p e l) (λ d. 𝓟.measured.most d e) (λ d. 𝓟.measured.least d e)

  -- the effect found under a key, or the one given
  -- refused 8 where there is no room in any table
  pub intern_new_near : (e : AliasingEffect) (o : Option AliasingEffect) → Near 𝓟 (size (effect_key e)) (intern_new e o)
  unfolding intern_new
  intern_new_near e (Some x) = return_near _
  intern_new_near e None = bind_keeps (ask_near _ (λ r d p. 𝓟.interned_count p)) (λ n. if_near _ (refuse_near 8) (then_rest (put_effect_near e) (return_near e)))

  -- `intern_effect`
  pub intern_near : (e : AliasingEffect) → Near 𝓟 (size (effect_key e)) (intern_effect e)
  unfolding intern_effect
  intern_near e = bind_keeps (ask_near _ (λ r d p. 𝓟.find_effect p (effect_key e))) (intern_new_near e)

-- ---- interning keeps the key

module _ {T : Tables} (𝓜 : Measured T) (e : AliasingEffect) where
  -- one found has it by the laws of the tables, a new one is the one given
  known : (o : Option AliasingEffect) → ((x : AliasingEffect) → o ≡ Some x → effect_key e ≡ effect_key x) → (w : World T) → Holds (λ x. effect_key e ≡ effect_key x) (intern_new e o w)
  unfolding intern_new ask ◌>>=◌ ◌>>◌ and_then when◌then◌else◌ return refuse put_effect change
  known (Some x) h w = refreshed_key e x (h x refl)
  known None h w = go (leb 2048 (T.interned_count w.rest.context))
    where
      go : (b : Bool) → Holds (λ x. effect_key e ≡ effect_key x) ((when b then refuse 8 else (put_effect {T = T} e >> return e)) w)
      go true = tt
      go false = refl

  -- the effect that interning hands out has the key of the one that was given
  -- so that both need the same
  pub intern_key : (w : World T) → Holds (λ x. effect_key e ≡ effect_key x) (intern_effect e w)
  unfolding intern_effect ask ◌>>=◌ and_then
  intern_key w = known (T.find_effect w.rest.context (effect_key e)) (𝓜.found w.rest.context (effect_key e)) w

module _ {T : Tables} {𝓟 : Padded T} where
  -- ---- value numbers and links

  -- the next number is set
  pub set_next_near : {b : ℕ} (n : ℕ) → Near 𝓟 b (set_next n)
  unfolding set_next
  set_next_near n = search base

  -- a fresh number
  pub fresh_number_near : {b : ℕ} → Near 𝓟 b fresh_number
  unfolding fresh_number
  fresh_number_near = search (base, set_next_near)

  -- a number is cached under a key
  pub cache_near : {b : ℕ} (k : EffectKey) (n : ℕ) → Near 𝓟 b (cache k n)
  unfolding cache
  cache_near k n = context_near _ (λ c d p l. 𝓟.put_key p n k) (λ d. let h = 𝓟.measured.key_used d n k in omega arith) (λ d. let h = 𝓟.measured.key_used d n k in omega arith)

  -- the number found, or a fresh one
  pub or_fresh_near : {b : ℕ} (k : EffectKey) (o : Option ℕ) → Near 𝓟 b (or_fresh k o)
  unfolding or_fresh
  or_fresh_near k (Some n) = search base
  or_fresh_near k None = search (base, fresh_number_near, cache_near)

  -- `get_or_create_value_id`
  pub number_for_near : {b : ℕ} (k : EffectKey) → Near 𝓟 b (get_or_create_value_id k)
  unfolding get_or_create_value_id
  number_for_near k = search (base, or_fresh_near, 𝓟.find_number)

  -- a value's function is noted
  pub link_to_near : {b : ℕ} (v f : ℕ) → Near 𝓟 b (link_to v f)
  unfolding link_to
  link_to_near v f = context_near _ (λ c d p l. 𝓟.put_link p v f) (λ d. let h = 𝓟.measured.link_used d v f in omega arith) (λ d. let h = 𝓟.measured.link_used d v f in omega arith)

  -- Capture places of a function made Read
  pub make_read_near : {b : ℕ} (f i : ℕ) → Near 𝓟 b (make_read f i)
  unfolding make_read
  make_read_near f i = context_near _ (λ c d p l. 𝓟.make_read p f i) (λ d. let h = 𝓟.measured.read_used d f i in omega arith) (λ d. let h = 𝓟.measured.read_used d f i in omega arith)

  -- ---- diagnostics

  -- a diagnostic is added
  pub put_diagnostic_near : {b : ℕ} (n : ℕ) (x : Diagnostic) → Near 𝓟 b (put_diagnostic n x)
  unfolding put_diagnostic
  put_diagnostic_near n x = context_near _ (λ c d p l. 𝓟.add_diagnostic p n x) (λ d. let h = 𝓟.measured.diagnostic_used d n x in omega arith) (λ d. let h = 𝓟.measured.diagnostic_used d n x in omega arith)

  -- the identity found, or the next
  pub new_identity_near : {b : ℕ} (o : Option ℕ) → Near 𝓟 b (new_identity o)
  unfolding new_identity
  new_identity_near (Some n) = search base
  new_identity_near None = search (base, 𝓟.identity_count)

  -- the instance found, or a new one
  pub new_instance_near : {b : ℕ} (n : ℕ) (x : Diagnostic) (o : Option ℕ) → Near 𝓟 b (new_instance n x o)
  unfolding new_instance
  new_instance_near n x (Some m) = search base
  new_instance_near n x None = search (base, put_diagnostic_near, 𝓟.instance_count)

  -- `intern_aliasing_diagnostic`
  pub intern_diagnostic_near : {b : ℕ} (x : Diagnostic) → Near 𝓟 b (intern_diagnostic x)
  unfolding intern_diagnostic
  intern_diagnostic_near x = search (base, new_identity_near, new_instance_near, 𝓟.find_identity, 𝓟.find_instance) depth 10

  -- ---- the work of the instruction

  -- an effect is listed
  pub emit_near : {b : ℕ} (e : AliasingEffect) → Near 𝓟 b (emit e)
  unfolding emit
  emit_near e = search base

  -- whether a place is initialized in this instruction
  pub is_initialized_near : {b : ℕ} (i : ℕ) → Near 𝓟 b (is_initialized i)
  unfolding is_initialized
  is_initialized_near i = search base

  -- a place is marked as initialized
  pub put_initialized_near : {b : ℕ} (i : ℕ) → Near 𝓟 b (put_initialized i)
  unfolding put_initialized
  put_initialized_near i = search base

  -- "into a place already initialized in this instruction": 6
  pub begin_near : {b : ℕ} (i : ℕ) → Near 𝓟 b (begin i)
  unfolding begin
  begin_near i = search (base, is_initialized_near, put_initialized_near)

  -- "each Freeze starts from zero"
  pub start_freeze_near : {b : ℕ} → Near 𝓟 b start_freeze
  unfolding start_freeze
  start_freeze_near = search base

  -- an entry is counted
  pub count_entry_near : {b : ℕ} → Near 𝓟 b count_entry
  unfolding count_entry
  count_entry_near = search base

  -- ---- the freeze walk

  -- the context places of a value's function
  pub linked_near : {b : ℕ} (v : ℕ) → Near 𝓟 b (ask (linked_context v))
  linked_near v = ask_near _ (linked 𝓟 v)

  -- an entry, and all that it leads to
  -- by the depth
  pub enter_near : {b : ℕ} (d reason v : ℕ) → Near 𝓟 b (freeze_function_captures_transitive d reason v)
  unfolding freeze_function_captures_transitive enter_context enter_place freeze_and_enter
  enter_near zero reason v = search base
  enter_near (suc d) reason v = search (base, count_entry_near, linked_near, to_freeze_near, freeze_value_near, enter_near {b = 0} d) depth 10

  -- "It enters each value of the frozen place."
  pub walk_near : {b : ℕ} (vs : List ℕ) (reason : ℕ) → Near 𝓟 b (walk vs reason)
  unfolding walk
  walk_near vs reason = search (base, start_freeze_near, enter_near)

  -- ---- parts of the step

  -- a place gets one value, of a kind
  pub create_near : {b : ℕ} (into : Place) (v : ℕ) (a : AbstractValue) → Near 𝓟 b (create into v a)
  unfolding create
  create_near into v a = search (base, define_near)

  -- a capture that is defined and can be written
  pub is_written_near : {b : ℕ} (p : Place) → Near 𝓟 b (is_written p)
  unfolding is_written
  is_written_near p = search base

  -- whether there is one among several
  pub any_written_near : {b : ℕ} (l : List Place) → Near 𝓟 b (any_written l)
  unfolding any_written
  any_written_near [] = search base
  any_written_near (p ∷ ps) = bind_keeps (is_written_near p) (λ t. if_near t (return_near true) (any_written_near ps))

  -- whether a place of some is a ref
  pub any_ref_near : {b : ℕ} (l : List Place) → Near 𝓟 b (ask (any_ref l))
  any_ref_near l = ask_near _ (any_ref_is 𝓟 l)

  -- a function's context places
  pub function_context_near : {b : ℕ} (f : ℕ) → Near 𝓟 b (ask (function_context f))
  unfolding function_context
  function_context_near f = ask_near _ (λ r d p. 𝓟.context_of p f)

  -- a context place of a new function, made Read where it cannot be written
  pub update_context_near : {b : ℕ} (f : ℕ) (p : Place) → Near 𝓟 b (update_context f p)
  unfolding update_context
  update_context_near f p = search (base, make_read_near)

  -- `mutate_with_span`
  pub mutate_near : {b : ℕ} (variant : MutateVariant) (p : Place) → Near 𝓟 b (mutate variant p)
  unfolding mutate
  mutate_near variant p = search (base, kind_with_span_near, 𝓟.is_ref) depth 8

  -- what a flow comes to is one of three, or nothing
  pub by_flow_near : {b : ℕ} (x : Flow) {i s m : M (World T) Done} → Near 𝓟 b i → Near 𝓟 b s → Near 𝓟 b m → Near 𝓟 b (by_flow x i s m)
  unfolding by_flow
  by_flow_near Immutable p q r = p
  by_flow_near Same p q r = q
  by_flow_near Maybe p q r = r
  by_flow_near Nothing p q r = done_near

  -- "Last, an undefined lvalue becomes defined as its own value"
  pub define_lvalue_near : {b : ℕ} (i : ℕ) → Near 𝓟 b (define_lvalue i)
  unfolding define_lvalue
  define_lvalue_near i = search (base, define_near) depth 8
