-- The text does the same over faithful tables as over plain ones: each function up to the parts of the step. Assumes nothing.
use Prim.Native.Nat.{ℕ, zero, suc, ◌+◌, ◌≤◌, ◌<◌}
use native.Mathlib.Omega.{arith}
use Rattle.std.proofs.Math.Path.{◌≡◌, refl, ap, ap₂, subst}
use Rattle.std.proofs.Common.{sym, ◌∙◌, ne_eqb}
use Rattle.std.specs.Prelude.{Bool, not, ◌||◌, Option, None, Some}
use Rattle.std.proofs.Math.Bool.{true, false}
use Rattle.std.proofs.lemmas.Bool.{false≢true}
use mathlib.Core.List.{List, [], ◌∷◌}
use lib.Dec.{eqb, leb, nleb→lt}
use Rattle.base_sets.specs.Members.{values_of}
use Rattle.def_kinds.specs.declared.AbstractValue.{AbstractValue}
use Rattle.def_effects.specs.declared.Span.{Span}
use Rattle.def_effects.specs.declared.Place.{Place}
use Rattle.def_effects.specs.declared.Session.{Session}
use Rattle.def_effects.specs.declared.MutateVariant.{MutateVariant}
use Rattle.def_effects.specs.Places.{identifiers}
use Rattle.def_effects.specs.Effects.{AliasingEffect}
use Rattle.def_effects.specs.Keys.{EffectKey, effect_key}
use Rattle.def_transfer.specs.Monad.{M, Done, and_then, ◌>>=◌, ◌>>◌, return, refuse, when◌then◌else◌}
use Rattle.def_transfer.specs.Diagnostics.{Diagnostic}
use Rattle.def_transfer.specs.Tables.{Tables, Rest, World}
use Rattle.def_transfer.specs.State.{first_access, from_identifier, ask, change, record_access, kind_with_span, kind, define, or_insert, assign_set, assign, freeze_value, to_freeze, freeze}
use Rattle.def_transfer.specs.Context.{refreshed, put_effect, intern_new, intern_effect, set_next, fresh_number, cache, or_fresh, get_or_create_value_id, link_to, function_context, linked_context, make_read, put_diagnostic, new_identity, new_instance, intern_diagnostic, emit, is_initialized, put_initialized, begin, start_freeze, count_entry}
use Rattle.def_transfer.specs.Walk.{freeze_and_enter, enter_place, enter_context, freeze_function_captures_transitive, walk}
use Rattle.def_transfer.specs.Step.{Flow, Immutable, Same, Maybe, Nothing, create, is_written, any_written, any_ref, update_context, by_flow, mutate}
use Rattle.def_transfer.specs.Instruction.{has}
use Rattle.def_transfer.specs.Pure.{pure, at, first_cached, is_key}
use Rattle.def_transfer.specs.Pure as Pure
use Rattle.def_transfer.proofs.Laws.Pure.{found_key}
use Rattle.def_transfer.proofs.Laws.Derived.{refreshed_key}
use Rattle.def_faithful.specs.Ranges.{Number, Fresh, Pointing, Reasoned, Short}
use Rattle.def_faithful.proofs.Laws.Ranges.{fresh_number_is, own_number, single_reasoned, none_reasoned, default_reasoned, pointing_members, singleton_set}
use Rattle.def_faithful.specs.Faithful.{Faithful}
use Rattle.def_faithful.proofs.Laws.Means.{Any, SameSession, SameRest, Related, Rel, Means, plain, then_means, bind_any, bind_set, return_means, done_means, refuse_means, if_means, each_value, each_any, When, always, when_bind, when_then, when_ask, look, look_found, when_test, when_change, ask_means, change_means}

-- ---- ranges

-- a number that is found cached lies where it was looked for
found_range : (m v : ℕ) (c : ℕ → Option EffectKey) (k : EffectKey) (x : ℕ) → first_cached m v c k ≡ Some x → (v ≤ x) × (x < v + m)
unfolding first_cached
found_range zero v c k x h = let z : ◌≡◌ {A = ℕ} 0 1 = cc in (omega arith, omega arith)
found_range (suc m) v c k x h = go (is_key k (c v)) (found_range m (suc v) c k x) h
  where
    go : (b : Bool) → (first_cached m (suc v) c k ≡ Some x → (suc v ≤ x) × (x < suc v + m)) → ◌≡◌ {A = Option ℕ} (elim b [ true ↦ Some v | false ↦ first_cached m (suc v) c k ]) (Some x) → (v ≤ x) × (x < v + suc m)
    go true p q = let e : v ≡ x = cc in (omega arith, omega arith)
    go false p q = let y = p q in let a = y.0 in let b = y.1 in (omega arith, omega arith)

-- a count that is not full
room : (k m : ℕ) → leb k m ≡ false → m < k
room k m e = nleb→lt k m (subst (λ (b : Bool). lib.Dec.T (not b)) (sym e) tt)

-- what stands at another number than the one written
other_number : {A : Type 0} (f : ℕ → A) (i : ℕ) (x : A) (j : ℕ) → (i ≡ j → ⊥) → at f i x j ≡ f j
unfolding at
other_number {A = A} f i x j n = ap (λ (b : Bool). elim b as (λ _. A) [ true ↦ x | false ↦ f j ]) (ne_eqb i j n)

-- an access leaves the next number
first_next : (a : ℕ) (span : Span) (t : Session) → (first_access a span t).next ≡ t.next
first_next a span t = go (eqb t.access 0)
  where
    go : (b : Bool) → (elim b as (λ x. Session) [ true ↦ record { next = t.next; access = a; span = span; entries = t.entries } | false ↦ t ]).next ≡ t.next
    go true = refl
    go false = refl

-- the number n, where it is fresh, is handed out under a key
abbrev hand_out : {T : Tables} → EffectKey → ℕ → M (World T) ℕ
hand_out k n = (when leb 512 n then refuse 9 else (set_next (suc n) >> return n)) >>= (λ v. cache k v >> return v)

module _ {n : ℕ} {T : Tables} {F : Faithful n T} where
  -- ---- what is read of session, context and work

  pub read_ref : (i : ℕ) (r : Rest T) (q : Rest pure) → SameRest F r q → T.is_ref r.context i ≡ pure.is_ref q.context i
  read_ref i r q h = F.ref_is r.context i h.fit ∙ ap (λ (c : Pure.Context). pure.is_ref c i) h.context

  pub read_hoisted : (i : ℕ) (r : Rest T) (q : Rest pure) → SameRest F r q → T.is_hoisted r.context i ≡ pure.is_hoisted q.context i
  read_hoisted i r q h = F.hoisted_is r.context i h.fit ∙ ap (λ (c : Pure.Context). pure.is_hoisted c i) h.context

  pub read_access : (i : ℕ) (r : Rest T) (q : Rest pure) → i < n → SameRest F r q → T.access_span r.context i ≡ pure.access_span q.context i
  read_access i r q l h = F.access_is r.context i h.fit l ∙ ap (λ (c : Pure.Context). pure.access_span c i) h.context

  pub read_name : (i : ℕ) (r : Rest T) (q : Rest pure) → SameRest F r q → T.name_of r.context i ≡ pure.name_of q.context i
  read_name i r q h = F.name_is r.context i h.fit ∙ ap (λ (c : Pure.Context). pure.name_of c i) h.context

  pub read_transitive : (r : Rest T) (q : Rest pure) → SameRest F r q → T.is_transitive r.context ≡ pure.is_transitive q.context
  read_transitive r q h = F.transitive_is r.context h.fit ∙ ap (λ (c : Pure.Context). pure.is_transitive c) h.context

  pub read_places_is : (f : ℕ) (r : Rest T) (q : Rest pure) → SameRest F r q → T.context_of r.context f ≡ pure.context_of q.context f
  read_places_is f r q h = F.places_is r.context f h.fit ∙ ap (λ (c : Pure.Context). pure.context_of c f) h.context

  pub read_inside : (f : ℕ) (r : Rest T) (q : Rest pure) → SameRest F r q → T.mutated_inside r.context f ≡ pure.mutated_inside q.context f
  read_inside f r q h = F.inside_is r.context f h.fit ∙ ap (λ (c : Pure.Context). pure.mutated_inside c f) h.context

  pub read_tracked : (f : ℕ) (r : Rest T) (q : Rest pure) → SameRest F r q → T.has_tracked_side_effect r.context f ≡ pure.has_tracked_side_effect q.context f
  read_tracked f r q h = F.tracked_is r.context f h.fit ∙ ap (λ (c : Pure.Context). pure.has_tracked_side_effect c f) h.context

  read_link : (v : ℕ) (r : Rest T) (q : Rest pure) → SameRest F r q → T.link_of r.context v ≡ pure.link_of q.context v
  read_link v r q h = F.link_is r.context v h.fit ∙ ap (λ (c : Pure.Context). pure.link_of c v) h.context

  read_count : (r : Rest T) (q : Rest pure) → SameRest F r q → T.interned_count r.context ≡ pure.interned_count q.context
  read_count r q h = F.count_is r.context h.fit ∙ ap (λ (c : Pure.Context). pure.interned_count c) h.context

  read_effect : (k : EffectKey) (r : Rest T) (q : Rest pure) → SameRest F r q → T.find_effect r.context k ≡ pure.find_effect q.context k
  read_effect k r q h = F.effect_is r.context k h.fit ∙ ap (λ (c : Pure.Context). pure.find_effect c k) h.context

  read_number : (k : EffectKey) (r : Rest T) (q : Rest pure) → SameRest F r q → T.find_number r.context k ≡ pure.find_number q.context k
  read_number k r q h = F.number_is r.context k h.fit ∙ ap (λ (c : Pure.Context). pure.find_number c k) h.context

  read_identities : (r : Rest T) (q : Rest pure) → SameRest F r q → T.identity_count r.context ≡ pure.identity_count q.context
  read_identities r q h = F.identities_is r.context h.fit ∙ ap (λ (c : Pure.Context). pure.identity_count c) h.context

  read_instances : (r : Rest T) (q : Rest pure) → SameRest F r q → T.instance_count r.context ≡ pure.instance_count q.context
  read_instances r q h = F.instances_is r.context h.fit ∙ ap (λ (c : Pure.Context). pure.instance_count c) h.context

  read_identity : (d : Diagnostic) (r : Rest T) (q : Rest pure) → SameRest F r q → T.find_identity r.context d ≡ pure.find_identity q.context d
  read_identity d r q h = F.identity_is r.context d h.fit ∙ ap (λ (c : Pure.Context). pure.find_identity c d) h.context

  read_instance : (m : ℕ) (d : Diagnostic) (r : Rest T) (q : Rest pure) → SameRest F r q → T.find_instance r.context m d ≡ pure.find_instance q.context m d
  read_instance m d r q h = F.instance_is r.context m d h.fit ∙ ap (λ (c : Pure.Context). pure.find_instance c m d) h.context

  read_any_ref : (l : List Place) (r : Rest T) (q : Rest pure) → SameRest F r q → any_ref {T = T} l r ≡ any_ref {T = pure} l q
  unfolding any_ref
  read_any_ref [] r q h = refl
  read_any_ref (p ∷ ps) r q h = ap₂ (λ (a b : Bool). a || b) (read_ref p.identifier r q h) (read_any_ref ps r q h)

  pub read_near : (f i : ℕ) (r : Rest T) (q : Rest pure) → SameRest F r q → has i (identifiers (T.context_of r.context f)) ≡ has i (identifiers (pure.context_of q.context f))
  read_near f i r q h = ap (λ (l : List Place). has i (identifiers l)) (read_places_is f r q h)

  pub any_ref_means : (l : List Place) → Means F Any (ask (any_ref l)) (ask (any_ref l))
  any_ref_means l = ask_means _ _ (read_any_ref l)

  pub function_context_means : (f : ℕ) → Means F Any (ask (function_context f)) (ask (function_context f))
  unfolding function_context
  function_context_means f = ask_means _ _ (read_places_is f)

  pub linked_context_means : (v : ℕ) → Means F Any (ask (linked_context v)) (ask (linked_context v))
  unfolding linked_context function_context
  linked_context_means v = ask_means _ _ (λ r q h. go r q h (T.link_of r.context v) (pure.link_of q.context v) (read_link v r q h))
    where
      go : (r : Rest T) (q : Rest pure) → SameRest F r q → (a b : Option ℕ) → a ≡ b
          → ◌≡◌ {A = List Place} (elim a [ None ↦ [] | Some f ↦ T.context_of r.context f ]) (elim b [ None ↦ [] | Some f ↦ pure.context_of q.context f ])
      go r q h None b e = ap (λ (o : Option ℕ). elim o as (λ x. List Place) [ None ↦ [] | Some f ↦ pure.context_of q.context f ]) e
      go r q h (Some f) b e = read_places_is f r q h ∙ ap (λ (o : Option ℕ). elim o as (λ x. List Place) [ None ↦ [] | Some f ↦ pure.context_of q.context f ]) e

  -- ---- what is changed of them

  on_context_is : {r : Rest T} {q : Rest pure} (c : T.Context) (d : Pure.Context) → F.FitContext c → F.meaning c ≡ d → d.cached ≡ q.context.cached → SameRest F r q
      → SameRest F (record { session = r.session; context = c; work = r.work }) (record { session = q.session; context = d; work = q.work })
  on_context_is c d p e k h = record { session = h.session; fit = p; context = e; unused = λ v l. ap (λ (f : ℕ → Option EffectKey). f v) k ∙ h.unused v l; work = h.work }

  pub link_to_means : (v f : ℕ) → Fresh v → Means F Any (link_to v f) (link_to v f)
  unfolding link_to
  link_to_means v f p = change_means _ _ (λ r q h. on_context_is _ _ (F.link_fit r.context v f h.fit p) (F.link_put r.context v f h.fit p ∙ ap (λ (c : Pure.Context). pure.put_link c v f) h.context) refl h)

  pub make_read_means : (f i : ℕ) → Means F Any (make_read f i) (make_read f i)
  unfolding make_read
  make_read_means f i = change_means _ _ (λ r q h. on_context_is _ _ (F.read_fit r.context f i h.fit) (F.read_made r.context f i h.fit ∙ ap (λ (c : Pure.Context). pure.make_read c f i) h.context) refl h)

  pub emit_means : (e : AliasingEffect) → Short (effect_key e) → Means F Any (emit e) (emit e)
  unfolding emit
  emit_means e s = change_means _ _ (λ r q h. record {
    session = h.session;
    fit = h.fit;
    context = h.context;
    unused = h.unused;
    work = record { initialized = h.work.initialized; listed = F.list_put r.work.listed q.work.listed e h.work.listed s; freeze_entries = h.work.freeze_entries; entries = h.work.entries };
  })

  pub is_initialized_means : (i : ℕ) → i < n → Means F Any (is_initialized i) (is_initialized i)
  unfolding is_initialized
  is_initialized_means i l = ask_means _ _ (λ r q h. F.mark_is r.work.initialized q.work.initialized i h.work.initialized l)

  put_initialized_means : (i : ℕ) → i < n → Means F Any (put_initialized i) (put_initialized i)
  unfolding put_initialized
  put_initialized_means i l = change_means _ _ (λ r q h. record {
    session = h.session;
    fit = h.fit;
    context = h.context;
    unused = h.unused;
    work = record { initialized = F.mark_put r.work.initialized q.work.initialized i h.work.initialized l; listed = h.work.listed; freeze_entries = h.work.freeze_entries; entries = h.work.entries };
  })

  pub begin_means : (i : ℕ) → i < n → Means F Any (begin i) (begin i)
  unfolding begin
  begin_means i l = search (plain, is_initialized_means, put_initialized_means)

  pub start_freeze_means : Means F Any start_freeze start_freeze
  unfolding start_freeze
  start_freeze_means = change_means _ _ (λ r q h. record {
    session = h.session;
    fit = h.fit;
    context = h.context;
    unused = h.unused;
    work = record { initialized = h.work.initialized; listed = h.work.listed; freeze_entries = refl; entries = h.work.entries };
  })

  one_entry : Means F Any (change {T = T} (λ r. record { session = r.session; context = r.context; work = record { initialized = r.work.initialized; listed = r.work.listed; freeze_entries = suc r.work.freeze_entries; entries = T.one_more r.work.entries } }))
      (change (λ r. record { session = r.session; context = r.context; work = record { initialized = r.work.initialized; listed = r.work.listed; freeze_entries = suc r.work.freeze_entries; entries = suc r.work.entries } }))
  one_entry = change_means _ _ (λ r q h. record {
    session = h.session;
    fit = h.fit;
    context = h.context;
    unused = h.unused;
    work = record { initialized = h.work.initialized; listed = h.work.listed; freeze_entries = ap suc h.work.freeze_entries; entries = F.one_more_is r.work.entries q.work.entries h.work.entries };
  })

  pub count_entry_means : Means F Any count_entry count_entry
  unfolding count_entry
  count_entry_means = bind_any (ask_means _ _ (λ r q h. ap (leb 4096) h.work.freeze_entries)) (λ full. if_means full (refuse_means 11) one_entry)

  first_same : (i : ℕ) (span : Span) (s t : Session) → SameSession F s t → i < n → SameSession F (first_access (T.access_of i) span s) (first_access (suc i) span t)
  first_same i span s t h l = go (eqb s.access 0) (eqb t.access 0) (ap (λ (x : ℕ). eqb x 0) h.access)
    where
      go : (a b : Bool) → a ≡ b → SameSession F (elim a as (λ x. Session) [ true ↦ record { next = s.next; access = T.access_of i; span = span; entries = s.entries } | false ↦ s ])
          (elim b as (λ x. Session) [ true ↦ record { next = t.next; access = suc i; span = span; entries = t.entries } | false ↦ t ])
      go true true e = record { low = h.low; next = h.next; access = F.access_of_is i l; span = refl; entries = h.entries }
      go true false e = absurd (false≢true (sym e))
      go false true e = absurd (false≢true e)
      go false false e = h

  pub record_access_means : (i : ℕ) (span : Span) → i < n → Means F Any (record_access i span) (record_access i span)
  unfolding record_access
  record_access_means i span l = change_means _ _ (λ r q h. record { session = first_same i span r.session q.session h.session l; fit = h.fit; context = h.context; unused = λ v m. h.unused v (subst (λ (x : ℕ). x ≤ v) (first_next (suc i) span q.session) m); work = h.work })

  -- ---- interned effects

  -- an effect is added where none has its key and there is room
  put_effect_when : (e : AliasingEffect) → Short (effect_key e) → (m : ℕ) → m < 2048 → When F Any (λ r. (T.find_effect r.context (effect_key e) ≡ None) × (T.interned_count r.context ≡ m)) (put_effect e) (put_effect e)
  unfolding put_effect
  put_effect_when e s m l = when_change _ _ (λ r q h x.
      let room : T.interned_count r.context < 2048 = let y = x.1 in omega arith in
      on_context_is _ _ (F.effect_fit r.context e h.fit room s x.0) (F.effect_add r.context e h.fit room s x.0 ∙ ap (λ (c : Pure.Context). pure.add_effect c e) h.context) refl h)

  -- the effect that is used has the key of the one that was given
  intern_new_when : (e : AliasingEffect) → Short (effect_key e) → (o : Option AliasingEffect) → ((x : AliasingEffect) → o ≡ Some x → effect_key e ≡ effect_key x)
      → When F (λ x. effect_key e ≡ effect_key x) (λ r. T.find_effect r.context (effect_key e) ≡ o) (intern_new e o) (intern_new e o)
  unfolding intern_new
  intern_new_when e s (Some x) h = always (return_means (refreshed e x) (refreshed_key e x (h x refl)))
  intern_new_when e s None h = when_ask _ _ read_count (λ m. when_test (leb 2048 m) (refuse_means 8) (λ z. when_then (put_effect_when e s m (room 2048 m z)) (return_means e refl)))

  pub intern_means : (e : AliasingEffect) → Short (effect_key e) → Means F (λ x. effect_key e ≡ effect_key x) (intern_effect e) (intern_effect e)
  unfolding intern_effect
  intern_means e s = look_found _ _ (read_effect (effect_key e)) (λ r q h x z. found_key q.context.interned (effect_key e) x (sym (read_effect (effect_key e) r q h) ∙ z)) (intern_new_when e s)

  -- ---- value numbers

  hand_out_when : (k : EffectKey) → Short k → (m : ℕ) → When F Fresh (λ r. (T.find_number r.context k ≡ None) × (r.session.next ≡ m)) (hand_out k m) (hand_out k m)
  unfolding set_next cache change return refuse when◌then◌else◌ ◌>>=◌ ◌>>◌ and_then
  hand_out_when k s m = record { runs = λ w u h x. go w u h x (leb 512 m) refl }
    where
      go : (w : World T) (u : World pure) → Related F w u → (T.find_number w.rest.context k ≡ None) × (w.rest.session.next ≡ m) → (b : Bool) → leb 512 m ≡ b
          → Rel F Fresh (((when b then refuse 9 else (set_next (suc m) >> return m)) >>= (λ v. cache k v >> return v)) w) (((when b then refuse 9 else (set_next (suc m) >> return m)) >>= (λ v. cache k v >> return v)) u)
      go w u h x true e = (refl, h)
      go w u h x false e = (
        refl,
        fresh,
        record {
          state = h.state;
          rest = record {
            session = record { low = omega arith; next = refl; access = h.rest.session.access; span = h.rest.session.span; entries = h.rest.session.entries };
            fit = F.key_fit w.rest.context m k h.rest.fit fresh s none_there x.0;
            context = F.key_put w.rest.context m k h.rest.fit fresh s none_there x.0 ∙ ap (λ (c : Pure.Context). pure.put_key c m k) h.rest.context;
            unused = λ v l. other_number u.rest.context.cached m (Some k) v (λ q. omega arith) ∙ h.rest.unused v (omega arith);
            work = h.rest.work;
          };
        },
      )
        where
          fresh : Fresh m
          fresh = record { low = subst (λ (y : ℕ). 1 ≤ y) x.1 h.rest.session.low; high = room 512 m e }

          same_next : u.rest.session.next ≡ m
          same_next = sym h.rest.session.next ∙ x.1

          none_there : T.key_at w.rest.context m ≡ None
          none_there = F.key_is w.rest.context m h.rest.fit ∙ ap (λ (c : Pure.Context). pure.key_at c m) h.rest.context ∙ h.rest.unused m (omega arith)

  or_fresh_when : (k : EffectKey) → Short k → (o : Option ℕ) → ((v : ℕ) → o ≡ Some v → Fresh v) → When F Fresh (λ r. T.find_number r.context k ≡ o) (or_fresh k o) (or_fresh k o)
  unfolding or_fresh fresh_number ask ◌>>=◌ and_then
  or_fresh_when k s (Some v) h = always (return_means v (h v refl))
  or_fresh_when k s None h = record {
    runs = λ w u i x. subst (λ (m : ℕ). Rel F Fresh (hand_out k w.rest.session.next w) (hand_out k m u)) i.rest.session.next ((hand_out_when k s w.rest.session.next).runs w u i (x, refl));
  }

  pub number_for_means : (k : EffectKey) → Short k → Means F Fresh (get_or_create_value_id k) (get_or_create_value_id k)
  unfolding get_or_create_value_id
  number_for_means k s = look_found _ _ (read_number k) (λ r q h v z.
      let y = found_range 511 1 q.context.cached k v (sym (read_number k r q h) ∙ z) in let a = y.0 in let b = y.1 in record { low = a; high = omega arith }) (or_fresh_when k s)

  -- ---- diagnostics

  put_diagnostic_when : (i : ℕ) (d : Diagnostic) (m : ℕ) → m < 256 → When F Any (λ r. (T.find_instance r.context i d ≡ None) × (T.instance_count r.context ≡ m)) (put_diagnostic i d) (put_diagnostic i d)
  unfolding put_diagnostic
  put_diagnostic_when i d m l = when_change _ _ (λ r q h x.
      let room : T.instance_count r.context < 256 = let y = x.1 in omega arith in
      on_context_is _ _ (F.diagnostic_fit r.context i d h.fit room x.0) (F.diagnostic_add r.context i d h.fit room x.0 ∙ ap (λ (c : Pure.Context). pure.add_diagnostic c i d) h.context) refl h)

  new_identity_means : (o : Option ℕ) → Means F Any (new_identity o) (new_identity o)
  unfolding new_identity
  new_identity_means (Some i) = return_means i tt
  new_identity_means None = bind_any (ask_means _ _ read_identities) (λ m. if_means (leb 256 m) (refuse_means 10) (return_means m tt))

  new_instance_when : (i : ℕ) (d : Diagnostic) (o : Option ℕ) → When F Any (λ r. T.find_instance r.context i d ≡ o) (new_instance i d o) (new_instance i d o)
  unfolding new_instance
  new_instance_when i d (Some m) = always (return_means m tt)
  new_instance_when i d None = when_ask _ _ read_instances (λ m. when_test (leb 256 m) (refuse_means 10) (λ z. when_then (put_diagnostic_when i d m (room 256 m z)) (return_means m tt)))

  pub intern_diagnostic_means : (d : Diagnostic) → Means F Any (intern_diagnostic d) (intern_diagnostic d)
  unfolding intern_diagnostic
  intern_diagnostic_means d =
      bind_any (ask_means _ _ (read_identity d)) (λ o. bind_any (new_identity_means o) (λ i.
      look _ _ (read_instance i d) (λ p. when_bind (new_instance_when i d p) (λ m _. return_means _ tt))))

-- ---- what `search` goes by

pub ruleset reads = (read_ref, read_hoisted, read_access, read_name, read_transitive, read_inside, read_tracked, read_near, any_ref_means, function_context_means)

pub ruleset base = (plain, reads, fresh_number_is, own_number, single_reasoned, none_reasoned, default_reasoned, singleton_set, pointing_members, linked_context_means, link_to_means, make_read_means, emit_means, is_initialized_means, begin_means, start_freeze_means, count_entry_means, record_access_means, number_for_means, intern_diagnostic_means)

module _ {n : ℕ} {T : Tables} {F : Faithful n T} where
  pub kind_with_span_means : (i : ℕ) (span : Span) → i < n → Means F Reasoned (kind_with_span i span) (kind_with_span i span)
  unfolding kind_with_span
  kind_with_span_means i span l = search base

  pub kind_means : (i : ℕ) → i < n → Means F Reasoned (kind i) (kind i)
  unfolding kind
  kind_means i l = search (base, kind_with_span_means)

  pub define_means : (i v : ℕ) → i < n → Number v → Means F Any (define i v) (define i v)
  unfolding define
  define_means i v l p = search base

  or_insert_means : (v : ℕ) (o : Option AbstractValue) → Number v → Means F Any (or_insert v o) (or_insert v o)
  unfolding or_insert
  or_insert_means v None p = search base
  or_insert_means v (Some a) p = search base

  assign_set_means : (into from : ℕ) (o : Option ℕ) → into < n → from < n → Pointing o → Means F Any (assign_set into from o) (assign_set into from o)
  unfolding assign_set
  assign_set_means into from (Some s) p q a = search base
  assign_set_means into from None p q a = let l : Number (from_identifier from) = own_number n from F.few q in search (base, or_insert_means, define_means)

  pub assign_means : (into from : ℕ) → into < n → from < n → Means F Any (assign into from) (assign into from)
  unfolding assign
  assign_means into from p q = search (base, assign_set_means)

  freeze_value_means : (reason v : ℕ) → Number v → Means F Any (freeze_value reason v) (freeze_value reason v)
  unfolding freeze_value
  freeze_value_means reason v p = search base

  to_freeze_means : (i : ℕ) → Means F Pointing (to_freeze i) (to_freeze i)
  unfolding to_freeze
  to_freeze_means i = search base

  pub freeze_means : (i reason : ℕ) → Means F Any (freeze i reason) (freeze i reason)
  unfolding freeze
  freeze_means i reason = search (base, to_freeze_means, freeze_value_means)

  enter_means : (d reason v : ℕ) → Means F Any (freeze_function_captures_transitive d reason v) (freeze_function_captures_transitive d reason v)
  unfolding freeze_function_captures_transitive enter_context enter_place freeze_and_enter
  enter_means zero reason v = search base
  enter_means (suc d) reason v = then_means count_entry_means (bind_any (linked_context_means v) (λ places. each_any places (λ p. bind_set (to_freeze_means _) (λ o a. each_value (values_of o) (pointing_members o a) (λ x y. then_means (freeze_value_means reason x y) (enter_means d reason x))))))

  pub walk_means : (vs : List ℕ) (reason : ℕ) → Means F Any (walk vs reason) (walk vs reason)
  unfolding walk
  walk_means vs reason = then_means start_freeze_means (each_any vs (enter_means 4097 reason))

  pub create_means : (p : Place) (v : ℕ) (a : AbstractValue) → p.identifier < n → Number v → Reasoned a → Means F Any (create p v a) (create p v a)
  unfolding create
  create_means p v a l q r = search (base, define_means)

  is_written_means : (p : Place) → Means F Any (is_written p) (is_written p)
  unfolding is_written
  is_written_means p = search base

  pub any_written_means : (l : List Place) → Means F Any (any_written l) (any_written l)
  unfolding any_written
  any_written_means [] = return_means false tt
  any_written_means (p ∷ ps) = bind_any (is_written_means p) (λ b. if_means b (return_means true tt) (any_written_means ps))

  pub update_context_means : (f : ℕ) (p : Place) → Means F Any (update_context f p) (update_context f p)
  unfolding update_context
  update_context_means f p = search base

  pub mutate_means : (variant : MutateVariant) (p : Place) → p.identifier < n → Means F Any (mutate variant p) (mutate variant p)
  unfolding mutate
  mutate_means variant p l = search (base, kind_with_span_means) depth 8

  pub by_flow_means : (x : Flow) {i s m : M (World T) Done} {j t k : M (World pure) Done} → Means F Any i j → Means F Any s t → Means F Any m k → Means F Any (by_flow x i s m) (by_flow x j t k)
  unfolding by_flow
  by_flow_means Immutable p q r = p
  by_flow_means Same p q r = q
  by_flow_means Maybe p q r = r
  by_flow_means Nothing p q r = done_means

pub ruleset parts = (base, kind_with_span_means, kind_means, define_means, assign_means, freeze_means, walk_means, create_means, any_written_means, update_context_means, mutate_means, by_flow_means)
