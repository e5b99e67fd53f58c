-- The transfer keeps within its reach: each part of the step, the fold over the candidates, and the lvalue step. Assumes nothing.
use Prim.Native.Nat.{ℕ, zero, suc, ◌≤◌, ◌<◌}
use Rattle.std.proofs.Common.{le_refl, le_trans, not-suc-le-zero, sym}
use Rattle.std.proofs.Math.Nat.{le-suc}
use Rattle.std.specs.Prelude.{◌≡◌, Bool, false, not, Option, None, Some}
use Rattle.std.proofs.Math.Path.{refl, subst}
use Rattle.std.proofs.Math.Bool.{true}
use mathlib.Core.List.{List, [], ◌∷◌}
use Rattle.std.proofs.Math.Logic.{⊎_elim}
use lib.Dec.{leb, ltb, nleb→lt, ltb→lt}
use Rattle.base_sets.specs.Members.{members, singleton, values_of}
use Rattle.base_tests.specs.Tests.{All}
use Rattle.base_sets.proofs.Laws.Member.{all_singleton}
use Rattle.def_kinds.specs.declared.ValueKind.{ValueKind}
use Rattle.def_kinds.specs.declared.AbstractValue.{AbstractValue}
use Rattle.def_effects.specs.declared.Span.{Span}
use Rattle.def_effects.specs.declared.Place.{Place}
use Rattle.def_effects.specs.declared.AliasingDiagnostic.{AliasingDiagnostic}
use Rattle.def_effects.specs.declared.MutateVariant.{MutateVariant}
use Rattle.def_effects.specs.declared.MutationResult.{MutationResult}
use Rattle.def_effects.specs.declared.MutationResult.TheVariants as Result
use Rattle.def_effects.specs.Places.{identifiers}
use Rattle.def_effects.specs.Effects.{AliasingEffect, Freeze, Mutate, MutateConditionally, MutateTransitive, MutateTransitiveConditionally, Capture, Alias, MaybeAlias, Assign, Create, CreateFrom, ImmutableCapture, CreateFunction, MutateFrozen, MutateGlobal, Impure, Render}
use Rattle.def_effects.specs.Keys.{EffectKey, effect_key, named_by, names, creates, listed}
use Rattle.def_transfer.specs.Monad.{M, Done, each}
use Rattle.def_transfer.specs.Diagnostics.{Diagnostic}
use Rattle.def_transfer.specs.Tables.{Tables, State, Rest, World}
use Rattle.def_transfer.specs.State.{ask, record_access, kind_with_span, kind, define, or_insert, assign_set, assign, freeze_value, to_freeze, freeze, from_identifier}
use Rattle.def_transfer.specs.Context.{refreshed, put_effect, intern_new, intern_effect, set_next, fresh_number, cache, or_fresh, get_or_create_value_id, link_to, function_context, linked_context, make_read, put_diagnostic, new_identity, new_instance, intern_diagnostic, emit, is_initialized, put_initialized, begin, start_freeze, count_entry}
use Rattle.def_transfer.specs.Walk.{freeze_and_enter, enter_place, enter_context, freeze_function_captures_transitive, walk}
use Rattle.def_transfer.specs.Step.{Flow, Immutable, Same, Maybe, Nothing, Source, FromContext, FromNothing, FromFrozen, FromMutable, Destination, flow_of, create, is_written, any_written, update_context, by_flow, mutate, flowing, report_modified, report_hoisted, report, mutating, freezing, creating, capturing_immutably, list_created, creating_from, assigning, creating_function, act, apply_effect}
use Rattle.def_transfer.specs.Instruction.{Instruction, report_early, early_error, early_errors, define_lvalue, run}
use Rattle.def_transfer.specs.Reach.{Node, val, id}
use Rattle.def_transfer.specs.Lawful.{Lawful}
use Rattle.def_transfer.proofs.Laws.Sim.{Any, bind_sim, then_sim, bind_any, return_sim, done_sim, refuse_sim, if_sim, test_sim, each_sim}
use Rattle.def_transfer.proofs.Laws.Worlds.{Reaching, Keeps, sims, set_of_sim, peek_sim, bind_number, bind_set, bind_places, each_place, each_reached, ask_sim, look_sim, change_sim}
use Rattle.def_transfer.proofs.Laws.Closed.{Closed, closed_same, reaching}
use Rattle.def_transfer.proofs.Laws.Derived.{refreshed_key, has_all, first_next, rank, lower, rank_4}

module _ {T : Tables} (L : Lawful T) (R : Node → Type 0) (N F : ℕ → Type 0) (s₀ t₀ : State T) (own : (i : ℕ) → R (id i) → R (val (from_identifier i))) (named : (i : ℕ) → N i → R (id i)) where
  abbrev 𝓡 : Reaching T
  𝓡 = reaching T L.Kept R N F s₀ t₀

  -- ---- session and context: each change keeps what R asks of them

  record_access_sim : (i : ℕ) (span : Span) → Keeps L 𝓡 Any (record_access i span)
  unfolding record_access
  record_access_sim i span = change_sim _ (λ r k. subst (λ (n : ℕ). Closed T L.Kept R N F n r.context) (sym (first_next (T.access_of i) span r.session)) k)

  emit_sim : (e : AliasingEffect) → Keeps L 𝓡 Any (emit e)
  unfolding emit
  emit_sim e = search sims

  is_initialized_sim : (i : ℕ) → Keeps L 𝓡 Any (is_initialized i)
  unfolding is_initialized
  is_initialized_sim i = search sims

  put_initialized_sim : (i : ℕ) → Keeps L 𝓡 Any (put_initialized i)
  unfolding put_initialized
  put_initialized_sim i = search sims

  begin_sim : (i : ℕ) → Keeps L 𝓡 Any (begin i)
  unfolding begin
  begin_sim i = search (sims, is_initialized_sim, put_initialized_sim)

  start_freeze_sim : Keeps L 𝓡 Any start_freeze
  unfolding start_freeze
  start_freeze_sim = search sims

  count_entry_sim : Keeps L 𝓡 Any count_entry
  unfolding count_entry
  count_entry_sim = search sims

  put_diagnostic_sim : (n : ℕ) (d : Diagnostic) → Keeps L 𝓡 Any (put_diagnostic n d)
  unfolding put_diagnostic
  put_diagnostic_sim n d = change_sim _ (λ r h. closed_same T L.Kept R N F _ _ _ (L.diagnostic_same r.context n d) (L.diagnostic_kept r.context n d) h)

  new_identity_sim : (o : Option ℕ) → Keeps L 𝓡 Any (new_identity o)
  unfolding new_identity
  new_identity_sim (Some n) = search sims
  new_identity_sim None = search sims

  new_instance_sim : (n : ℕ) (d : Diagnostic) (o : Option ℕ) → Keeps L 𝓡 Any (new_instance n d o)
  unfolding new_instance
  new_instance_sim n d (Some m) = search sims
  new_instance_sim n d None = search (sims, put_diagnostic_sim)

  intern_diagnostic_sim : (d : Diagnostic) → Keeps L 𝓡 Any (intern_diagnostic d)
  unfolding intern_diagnostic
  intern_diagnostic_sim d = search (sims, new_identity_sim, new_instance_sim) depth 10

  put_effect_sim : (e : AliasingEffect) → Keeps L 𝓡 Any (put_effect e)
  unfolding put_effect
  put_effect_sim e = change_sim _ (λ r h. closed_same T L.Kept R N F _ _ _ (L.effect_same r.context e) (L.effect_kept r.context e) h)

  -- the effect that is used has the key of the one that was given
  intern_new_sim : (e : AliasingEffect) (o : Option AliasingEffect) → ((x : AliasingEffect) → o ≡ Some x → effect_key e ≡ effect_key x) → Keeps L 𝓡 (λ x. effect_key e ≡ effect_key x) (intern_new e o)
  unfolding intern_new
  intern_new_sim e (Some x) h = return_sim (refreshed e x) (refreshed_key e x (h x refl))
  intern_new_sim e None h = search (sims, put_effect_sim)

  intern_sim : (e : AliasingEffect) → Keeps L 𝓡 (λ x. effect_key e ≡ effect_key x) (intern_effect e)
  unfolding intern_effect
  intern_sim e =
      bind_sim (ask_sim {Q = λ o. (x : AliasingEffect) → o ≡ Some x → effect_key e ≡ effect_key x} _ (λ r h. L.effect_found r.context (effect_key e))) (intern_new_sim e)

  set_next_sim : (n : ℕ) → ((m : ℕ) → n ≤ m → m < 512 → R (val m)) → Keeps L 𝓡 Any (set_next n)
  unfolding set_next
  set_next_sim n h = change_sim _ (λ r k. record { kept = k.kept; fresh_in = h; cached_in = k.cached_in; links_in = k.links_in; created_in = k.created_in })

  fresh_number_sim : Keeps L 𝓡 (λ n. R (val n)) fresh_number
  unfolding fresh_number
  fresh_number_sim =
      bind_sim (ask_sim {Q = λ n. (m : ℕ) → n ≤ m → m < 512 → R (val m)} _ (λ r h. h.fresh_in)) (λ n h.
      test_sim (leb 512 n) (λ _. refuse_sim 9 tt) (λ e.
      then_sim (set_next_sim (suc n) (λ m l. h m (le_trans (le-suc n) l))) (return_sim n (h n (le_refl n) (nleb→lt 512 n (subst (λ (b : Bool). lib.Dec.T (not b)) (sym e) tt))))))

  cache_sim : (k : EffectKey) (n : ℕ) → R (val n) → Keeps L 𝓡 Any (cache k n)
  unfolding cache
  cache_sim k n q = change_sim _ (λ r c. record {
    kept = L.key_kept r.context n k c.kept;
    fresh_in = c.fresh_in;
    cached_in = λ m i j e g a. ⊎_elim (λ z. subst (λ (y : ℕ). R (val y)) z q) (λ z. c.cached_in m i j z g a) (L.key_put r.context n m k j e);
    links_in = λ v p f e. subst (All (λ j. R (id j))) (sym (L.key_contexts r.context n k f)) (c.links_in v p f (L.key_links r.context n k v f e));
    created_in = λ f p. subst (All (λ j. R (id j))) (sym (L.key_contexts r.context n k f)) (c.created_in f p);
  })

  or_fresh_sim : (k : EffectKey) (o : Option ℕ) → All (λ n. R (val n)) (listed o) → Keeps L 𝓡 (λ n. R (val n)) (or_fresh k o)
  unfolding or_fresh
  or_fresh_sim k (Some n) h = search sims
  or_fresh_sim k None h = search (sims, fresh_number_sim, cache_sim)

  number_for_sim : (k : EffectKey) (i : ℕ) → k.into ≡ Some i → N i → Keeps L 𝓡 (λ n. R (val n)) (get_or_create_value_id k)
  unfolding get_or_create_value_id
  number_for_sim k i e a =
      bind_sim (ask_sim {Q = λ o. All (λ n. R (val n)) (listed o)} _ (λ r c. go (T.find_number r.context k) (λ n z. c.cached_in n i k (L.number_found r.context k n z) e a))) (or_fresh_sim k)
    where
      go : (o : Option ℕ) → ((n : ℕ) → o ≡ Some n → R (val n)) → All (λ n. R (val n)) (listed o)
      go None h = tt
      go (Some n) h = (h n refl, tt)

  function_context_sim : (f : ℕ) → F f → Keeps L 𝓡 (λ l. All (λ j. R (id j)) (identifiers l)) (ask (function_context f))
  unfolding function_context
  function_context_sim f q = ask_sim _ (λ r c. c.created_in f q)

  linked_context_sim : (v : ℕ) → R (val v) → Keeps L 𝓡 (λ l. All (λ j. R (id j)) (identifiers l)) (ask (linked_context v))
  unfolding linked_context function_context
  linked_context_sim v q = ask_sim _ (λ r c. go r (T.link_of r.context v) (c.links_in v q))
    where
      go : (r : Rest T) (o : Option ℕ) → ((f : ℕ) → o ≡ Some f → All (λ j. R (id j)) (identifiers (T.context_of r.context f)))
          → All (λ j. R (id j)) (identifiers (elim o [ None ↦ [] | Some f ↦ T.context_of r.context f ]))
      go r None h = tt
      go r (Some f) h = h f refl

  link_to_sim : (v f : ℕ) → F f → Keeps L 𝓡 Any (link_to v f)
  unfolding link_to
  link_to_sim v f q = change_sim _ (λ r c. record {
    kept = L.link_kept r.context v f c.kept;
    fresh_in = c.fresh_in;
    cached_in = λ n i k e g a. c.cached_in n i k (L.link_keys r.context v f n k e) g a;
    links_in = λ x p g e. subst (All (λ j. R (id j))) (sym (L.link_contexts r.context v f g))
        (⊎_elim (λ z. subst (λ (y : ℕ). All (λ j. R (id j)) (identifiers (T.context_of r.context y))) z (c.created_in f q)) (c.links_in x p g) (L.link_put r.context v f x g c.kept e));
    created_in = λ g p. subst (All (λ j. R (id j))) (sym (L.link_contexts r.context v f g)) (c.created_in g p);
  })

  make_read_sim : (f i : ℕ) → Keeps L 𝓡 Any (make_read f i)
  unfolding make_read
  make_read_sim f i = change_sim _ (λ r h. closed_same T L.Kept R N F _ _ _ (L.read_same r.context f i) (L.read_kept r.context f i) h)

  -- ---- the rest is found by search: each computation is made of those above

  each_named : {f : Place → M (World T) Done} (l : List Place) → All N (identifiers l) → ((p : Place) → N p.identifier → Keeps L 𝓡 Any (f p)) → Keeps L 𝓡 Any (each l f)
  each_named l a h = each_place N l a h

  all_named : (l : List ℕ) → All N l → All (λ i. R (id i)) l
  all_named [] a = tt
  all_named (x ∷ xs) a = (named x a.0, all_named xs a.1)

  singleton_in : (v : ℕ) → R (val v) → All (λ v. R (val v)) (members (singleton v))
  singleton_in v r = all_singleton (λ v. R (val v)) v r

  ruleset base = (sims, singleton_in, all_named, each_named, record_access_sim, emit_sim, is_initialized_sim, begin_sim, count_entry_sim, start_freeze_sim, intern_diagnostic_sim, number_for_sim, linked_context_sim, function_context_sim, link_to_sim, make_read_sim)

  kind_with_span_sim : (i : ℕ) (span : Span) → R (id i) → Keeps L 𝓡 Any (kind_with_span i span)
  unfolding kind_with_span
  kind_with_span_sim i span r = search base

  kind_sim : (i : ℕ) → R (id i) → Keeps L 𝓡 Any (kind i)
  unfolding kind
  kind_sim i r = search (base, kind_with_span_sim)

  to_freeze_sim : (i : ℕ) → R (id i) → Keeps L 𝓡 (λ o. All (λ v. R (val v)) (values_of o)) (to_freeze i)
  unfolding to_freeze
  to_freeze_sim i r = search base

  freeze_value_sim : (reason v : ℕ) → R (val v) → Keeps L 𝓡 Any (freeze_value reason v)
  unfolding freeze_value
  freeze_value_sim reason v r = search base

  freeze_sim : (i reason : ℕ) → R (id i) → Keeps L 𝓡 Any (freeze i reason)
  unfolding freeze
  freeze_sim i reason r = search (base, to_freeze_sim, freeze_value_sim)

  enter_sim : (d reason v : ℕ) → R (val v) → Keeps L 𝓡 Any (freeze_function_captures_transitive d reason v)
  unfolding freeze_function_captures_transitive enter_context enter_place freeze_and_enter
  enter_sim zero reason v r = search base
  enter_sim (suc d) reason v r = search (base, to_freeze_sim, freeze_value_sim, enter_sim d) depth 10

  walk_sim : (vs : List ℕ) (reason : ℕ) → All (λ v. R (val v)) vs → Keeps L 𝓡 Any (walk vs reason)
  unfolding walk
  walk_sim vs reason a = search (base, enter_sim)

  define_sim : (i v : ℕ) → R (id i) → R (val v) → Keeps L 𝓡 Any (define i v)
  unfolding define
  define_sim i v r q = search base

  create_sim : (p : Place) (v : ℕ) (a : AbstractValue) → R (id p.identifier) → R (val v) → Keeps L 𝓡 Any (create p v a)
  unfolding create
  create_sim p v a r q = search (base, define_sim)

  or_insert_sim : (v : ℕ) (o : Option AbstractValue) → R (val v) → Keeps L 𝓡 Any (or_insert v o)
  unfolding or_insert
  or_insert_sim v (Some a) r = search base
  or_insert_sim v None r = search base

  assign_set_sim : (into from : ℕ) (o : Option ℕ) → R (id into) → R (id from) → All (λ v. R (val v)) (values_of o) → Keeps L 𝓡 Any (assign_set into from o)
  unfolding assign_set
  assign_set_sim into from (Some s) p q a = search base
  assign_set_sim into from None p q a = search (base, or_insert_sim, define_sim, own)

  assign_sim : (into from : ℕ) → R (id into) → R (id from) → Keeps L 𝓡 Any (assign into from)
  unfolding assign
  assign_sim into from p q = search (base, assign_set_sim)

  is_written_sim : (p : Place) → R (id p.identifier) → Keeps L 𝓡 Any (is_written p)
  unfolding is_written
  is_written_sim p r = search base

  any_written_sim : (l : List Place) → All (λ i. R (id i)) (identifiers l) → Keeps L 𝓡 Any (any_written l)
  unfolding any_written
  any_written_sim [] a = search base
  any_written_sim (c ∷ cs) a = search (base, is_written_sim, any_written_sim cs)

  update_context_sim : (f : ℕ) (p : Place) → R (id p.identifier) → Keeps L 𝓡 Any (update_context f p)
  unfolding update_context
  update_context_sim f p r = search base

  by_flow_sim : (x : Flow) (i s m : M (World T) Done) → Keeps L 𝓡 Any i → Keeps L 𝓡 Any s → Keeps L 𝓡 Any m → Keeps L 𝓡 Any (by_flow x i s m)
  unfolding by_flow
  by_flow_sim Immutable i s m p q r = p
  by_flow_sim Same i s m p q r = q
  by_flow_sim Maybe i s m p q r = r
  by_flow_sim Nothing i s m p q r = done_sim

  -- of MaybeAlias no MaybeAlias is derived
  flow_of_sim : (into : Destination) (from : Source) (i s m : M (World T) Done) → Keeps L 𝓡 Any i → Keeps L 𝓡 Any s → Keeps L 𝓡 Any (by_flow (flow_of true into from) i s m)
  unfolding by_flow flow_of
  flow_of_sim into FromContext i s m p q = q
  flow_of_sim into FromNothing i s m p q = q
  flow_of_sim into FromFrozen i s m p q = p
  flow_of_sim into FromMutable i s m p q = q

  mutate_sim : (v : MutateVariant) (p : Place) → R (id p.identifier) → Keeps L 𝓡 Any (mutate v p)
  unfolding mutate
  mutate_sim v p r = search (base, kind_with_span_sim) depth 8

  -- ---- one effect, over any step of the derived ones, which are of lower rank
  ruleset parts = (base, kind_with_span_sim, kind_sim, freeze_sim, walk_sim, create_sim, assign_sim, any_written_sim, update_context_sim, by_flow_sim, flow_of_sim, mutate_sim)

  module _ (again : AliasingEffect → M (World T) Done) where
    flowing_sim : (e : AliasingEffect) (f i : Place) → R (id f.identifier) → R (id i.identifier) → Keeps L 𝓡 Any (again (ImmutableCapture f i)) → Keeps L 𝓡 Any (again (MaybeAlias f i)) → Keeps L 𝓡 Any (flowing again false e f i)
    unfolding flowing
    flowing_sim e f i p q h k = search parts depth 8

    maybe_sim : (e : AliasingEffect) (f i : Place) → R (id f.identifier) → R (id i.identifier) → Keeps L 𝓡 Any (again (ImmutableCapture f i)) → Keeps L 𝓡 Any (flowing again true e f i)
    unfolding flowing
    maybe_sim e f i p q h = search parts depth 8

    report_modified_sim : (p : Place) (a : AbstractValue) → ((d : AliasingDiagnostic) → Keeps L 𝓡 Any (again (MutateFrozen p d))) → ((d : AliasingDiagnostic) → Keeps L 𝓡 Any (again (MutateGlobal p d))) → Keeps L 𝓡 Any (report_modified again p a)
    unfolding report_modified
    report_modified_sim p a h k = search parts depth 10

    report_hoisted_sim : (p : Place) → ((d : AliasingDiagnostic) → Keeps L 𝓡 Any (again (MutateFrozen p d))) → Keeps L 𝓡 Any (report_hoisted again p)
    unfolding report_hoisted
    report_hoisted_sim p h = search parts depth 10

    report_sim : (e : AliasingEffect) (p : Place) (x : MutationResult) → R (id p.identifier) → ((d : AliasingDiagnostic) → Keeps L 𝓡 Any (again (MutateFrozen p d))) → ((d : AliasingDiagnostic) → Keeps L 𝓡 Any (again (MutateGlobal p d))) → Keeps L 𝓡 Any (report again e p x)
    unfolding report
    report_sim e p Result.None r h k = search parts
    report_sim e p Result.Mutate r h k = search parts
    report_sim e p Result.MutateFrozen r h k = search (parts, report_modified_sim, report_hoisted_sim) depth 10
    report_sim e p Result.MutateGlobal r h k = search (parts, report_modified_sim) depth 10
    report_sim e p Result.MutateRef r h k = search parts

    mutating_sim : (v : MutateVariant) (e : AliasingEffect) (p : Place) → R (id p.identifier) → ((d : AliasingDiagnostic) → Keeps L 𝓡 Any (again (MutateFrozen p d))) → ((d : AliasingDiagnostic) → Keeps L 𝓡 Any (again (MutateGlobal p d))) → Keeps L 𝓡 Any (mutating again v e p)
    unfolding mutating
    mutating_sim v e p r h k = search (parts, report_sim) depth 10

    freezing_sim : (p : Place) (reason : ℕ) → R (id p.identifier) → Keeps L 𝓡 Any (freezing again p reason)
    unfolding freezing
    freezing_sim p reason r =
        bind_any (freeze_sim _ reason r) (λ acts. if_sim acts (then_sim (emit_sim _) (bind_any (look_sim _) (λ transitive.
        if_sim transitive (bind_set (set_of_sim _ r) (λ o a. walk_sim (values_of o) reason a)) done_sim))) done_sim)

    creating_sim : (p : Place) (k : ValueKind) (reason : ℕ) → N p.identifier → Keeps L 𝓡 Any (creating again p k reason)
    unfolding creating
    creating_sim p k reason n = search parts depth 12

    capturing_immutably_sim : (f i : Place) → R (id f.identifier) → Keeps L 𝓡 Any (capturing_immutably again f i)
    unfolding capturing_immutably
    capturing_immutably_sim f i r = search parts depth 12

    list_created_sim : (f i : Place) (a : AbstractValue) → Keeps L 𝓡 Any (again (ImmutableCapture f i)) → Keeps L 𝓡 Any (list_created again f i a)
    unfolding list_created
    list_created_sim f i a h = search parts depth 12

    creating_from_sim : (f i : Place) → R (id f.identifier) → N i.identifier → Keeps L 𝓡 Any (again (ImmutableCapture f i)) → Keeps L 𝓡 Any (creating_from again f i)
    unfolding creating_from
    creating_from_sim f i r n h = search (parts, list_created_sim) depth 12

    assigning_sim : (f i : Place) → R (id f.identifier) → N i.identifier → Keeps L 𝓡 Any (again (ImmutableCapture f i)) → Keeps L 𝓡 Any (assigning again f i)
    unfolding assigning
    assigning_sim f i r n h = search parts depth 12

    creating_function_sim : (cs : List Place) (f : ℕ) (i : Place) → All N (identifiers cs) → F f → N i.identifier → ((c : Place) → N c.identifier → Keeps L 𝓡 Any (again (Capture c i))) → Keeps L 𝓡 Any (creating_function again cs f i)
    unfolding creating_function
    creating_function_sim cs f i a q n h =
        let into : R (id i.identifier) = named i.identifier n in
        let derived : Keeps L 𝓡 Any (each cs (λ c. again (Capture c i))) = each_named cs a h in
        then_sim (begin_sim _) (then_sim (emit_sim _) (bind_any (any_written_sim cs (all_named (identifiers cs) a)) (λ written.
        bind_places (function_context_sim f q) (λ places r. bind_any (look_sim _) (λ tracked. bind_any (look_sim _) (λ refs.
        then_sim (each_reached places r (λ p. update_context_sim f p)) (bind_number (number_for_sim _ i.identifier refl n) (λ v m.
        then_sim (link_to_sim v f q) (then_sim (create_sim i v _ into m) derived)))))))))

  ruleset all = (parts, flowing_sim, maybe_sim, mutating_sim, freezing_sim, creating_sim, capturing_immutably_sim, creating_from_sim, assigning_sim)

  act_sim : (again : AliasingEffect → M (World T) Done) (e : AliasingEffect) → ((x : AliasingEffect) → lib.Dec.T (ltb (rank (effect_key x)) (rank (effect_key e))) → All N (names x) → All F (creates x) → Keeps L 𝓡 Any (again x))
      → All N (names e) → All F (creates e) → Keeps L 𝓡 Any (act again e)
  unfolding act
  act_sim again (Freeze p r) h n f = search all depth 12
  act_sim again (Mutate p r) h n f = search all depth 12
  act_sim again (MutateConditionally p) h n f = search all depth 12
  act_sim again (MutateTransitive p) h n f = search all depth 12
  act_sim again (MutateTransitiveConditionally p) h n f = search all depth 12
  act_sim again (Capture f i) h n g = search all depth 12
  act_sim again (Alias f i) h n g = search all depth 12
  act_sim again (MaybeAlias f i) h n g = search all depth 12
  act_sim again (Assign f i) h n g = search all depth 12
  act_sim again (Create i k r) h n f = search all depth 12
  act_sim again (CreateFrom f i) h n g = search all depth 12
  act_sim again (ImmutableCapture f i) h n g = search all depth 12
  act_sim again (CreateFunction cs g i) h n f = creating_function_sim again cs g i n.1 f.0 n.0 (λ c p. h (Capture c i) tt (p, (n.0, tt)) tt)
  act_sim again (MutateFrozen p d) h n f = search all depth 12
  act_sim again (MutateGlobal p d) h n f = search all depth 12
  act_sim again (Impure p d) h n f = search all depth 12
  act_sim again (Render p) h n f = search all depth 12

  step_sim : (d : ℕ) (e : AliasingEffect) → lib.Dec.T (ltb (rank (effect_key e)) d) → All N (names e) → All F (creates e) → Keeps L 𝓡 Any (apply_effect d e)
  unfolding apply_effect
  step_sim zero e h n f = absurd (not-suc-le-zero (ltb→lt (rank (effect_key e)) 0 h))
  step_sim (suc d) e h n f = bind_sim (intern_sim e) (λ x k.
      act_sim (apply_effect d) x
      (λ y q. step_sim d y (lower d (rank (effect_key y)) (rank (effect_key x)) q (subst (λ (z : EffectKey). lib.Dec.T (ltb (rank z) (suc d))) k h)))
      (subst (λ (z : EffectKey). All N (named_by z)) k n) (subst (λ (z : EffectKey). All F (listed z.function)) k f))

  -- ---- an instruction

  report_early_sim : (p : Place) → R (id p.identifier) → Keeps L 𝓡 Any (report_early p)
  unfolding report_early
  report_early_sim p r =
      bind_set (set_of_sim _ r) (λ o s. bind_any (peek_sim _ r) (λ a. bind_any (look_sim _) (λ name.
      if_sim _ (bind_any (intern_diagnostic_sim _) (λ d. emit_sim _)) done_sim)))

  early_error_sim : (f : ℕ) (p : Place) → F f → Keeps L 𝓡 Any (early_error f p)
  unfolding early_error function_context
  early_error_sim f p c =
      bind_sim (ask_sim {Q = λ b. b ≡ true → R (id p.identifier)} _ (λ r h. has_all (λ i. R (id i)) p.identifier (identifiers (T.context_of r.context f)) (h.created_in f c))) (λ b q.
      test_sim b (λ e. report_early_sim p (q e)) (λ _. done_sim))

  all_any : {A : Type 0} (l : List A) → All Any l
  all_any [] = tt
  all_any (x ∷ xs) = (tt, all_any xs)

  early_errors_sim : (o : Option ℕ) → All F (listed o) → Keeps L 𝓡 Any (early_errors o)
  unfolding early_errors
  early_errors_sim None a = search base
  early_errors_sim (Some f) a = bind_any (look_sim _) (λ places. each_sim {P = Any} places (all_any places) (λ p _. early_error_sim f p a.0))

  define_lvalue_sim : (i : ℕ) → R (id i) → Keeps L 𝓡 Any (define_lvalue i)
  unfolding define_lvalue
  define_lvalue_sim i r = search (base, define_sim, own) depth 8

  pub run_sim : (ins : Instruction) → All F (listed ins.own) → All (λ e. All N (names e) × All F (creates e)) ins.candidates → R (id ins.lvalue.identifier) → Keeps L 𝓡 Any (run ins)
  unfolding run
  run_sim ins o a r =
      then_sim (early_errors_sim ins.own o) (then_sim (each_sim ins.candidates a (λ e h. step_sim 4 e (rank_4 e) h.0 h.1))
      (then_sim (define_lvalue_sim ins.lvalue.identifier r) (change_sim _ (λ r c. c))))
