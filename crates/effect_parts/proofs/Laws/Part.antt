-- Laws by which the code of the parts meets the definition. Assumes nothing.
use Rattle.std.specs.List.{list_any, range_with_len}
use Rattle.std.specs.Prelude.{ℕ, zero, suc, ◌||◌, ◌+◌, ◌*◌, ◌^◌, ◌≤◌, ◌<◌, ◌≡◌, Bool, true, false, ◌&&◌, eqb, ltb}
use Rattle.std.proofs.Common.{add-one, ◌∙◌}
use Rattle.std.proofs.Math.Path.{refl, sym, ap, ap₂}
use mathlib.Core.List.{List}
use Rattle.base_tests.specs.Tests.{ite, is_some}
use Rattle.base_tests.proofs.Laws.Choice.{ite_lt, ite_ge}
use Rattle.def_kinds.specs.declared.AbstractValue.{AbstractValue}
use Rattle.def_kinds.specs.Kinds.{writable}
use Rattle.def_effects.specs.declared.Span.{Span}
use Rattle.def_effects.specs.declared.Place.{Place}
use Rattle.def_effects.specs.declared.Session.{Session}
use Rattle.def_effects.specs.Places.{no_span}
use Rattle.def_effects.specs.Effects.{AliasingEffect}
use Rattle.def_transfer.specs.Monad.{Res, ok, refused, Done, and_then, ◌>>=◌, ◌>>◌, return, refuse, done, when◌then◌else◌}
use Rattle.def_transfer.specs.Tables.{World}
use Rattle.def_transfer.specs.State as State
use Rattle.def_transfer.specs.State.{kind_of, ask, change}
use Rattle.def_transfer.specs.Context as Context
use Rattle.def_transfer.specs.Step as Step
use Rattle.lent_values.specs.Cells.{value_at, put_value}
use Rattle.lent_sets.specs.Rows.{set_at, put_set}
use Rattle.lent_tables.specs.Words.{field, place_in, places_in}
use Rattle.lent_effects.specs.Records.{put_effect, captures_of, counted_places}
use Rattle.lent_work.specs.declared.Run.{Run}
use Rattle.lent_work.specs.declared.Marks.{Marks}
use Rattle.lent_work.specs.Marks.{is_marked, marked}
use Rattle.laws_monad.proofs.Laws.Answers.{bind_ok, if_true, if_false}
use Rattle.lent_world.specs.World.{lent, world, put_listed}
use Rattle.lent_work.specs.Access.{access_of}
use Rattle.effect_parts.specs.Parts.{with_session}
use Rattle.state_ops.specs.Use.{after_use}
use Rattle.lent_layout.specs.Layout.{one_run, output}
use Rattle.lent_layout.specs.Context.{ContextWords}

-- ---- an effect is listed

module _ (vs ss : List ℕ) (cs : ContextWords) (os : List ℕ) (e : AliasingEffect) where
  -- a count that fills its word stays
  pub emit_full : (r : Run) → 4294967295 ≤ r.listed → Context.emit e (world vs ss cs os r) ≡ ok tt (world vs ss cs os r)
  unfolding Context.emit change put_listed
  emit_full r h = ap (λ (l : _). ok tt (record { state = (world vs ss cs os r).state; rest = record { session = r.session; context = cs; work = record { initialized = r.marks; listed = l; freeze_entries = r.freeze; entries = r.entries } } })) (ite_ge r.listed 4294967295 _ _ h)

  -- the record after the last
  pub emit_one : (r : Run) (n : ℕ) (us : List ℕ) → r.listed < 4294967295 → n ≡ r.listed → us ≡ put_effect output os n e
      → Context.emit e (world vs ss cs os r) ≡ ok tt (world vs ss cs us (record { session = r.session; flag = r.flag; marks = r.marks; listed = r.listed + 1; freeze = r.freeze; entries = r.entries }))
  unfolding Context.emit change put_listed
  emit_one r n us h m g =
      ap (λ (l : _). ok tt (record { state = (world vs ss cs os r).state; rest = record { session = r.session; context = cs; work = record { initialized = r.marks; listed = l; freeze_entries = r.freeze; entries = r.entries } } })) (ite_lt r.listed 4294967295 _ _ h)
      ∙ ap₂ (λ (l : List ℕ) (k : ℕ). ok tt (world vs ss cs l (record { session = r.session; flag = r.flag; marks = r.marks; listed = k; freeze = r.freeze; entries = r.entries }))) (ap (λ (k : ℕ). put_effect output os k e) (sym m) ∙ sym g) (sym (add-one r.listed))

-- ---- a place begins

module _ (vs ss : List ℕ) (cs : ContextWords) (os : List ℕ) (r : Run) (i : ℕ) (b : Bool) (e : b ≡ is_marked r.marks i) where
  pub begin_again : b ≡ true → Context.begin i (world vs ss cs os r) ≡ refused 6 (world vs ss cs os r)
  unfolding Context.begin Context.is_initialized ask refuse
  begin_again h = bind_ok _ _ _ _ _ _ refl (if_true _ _ _ _ _ (sym e ∙ h) refl)

  pub begin_first : (m : Marks) → b ≡ false → m ≡ marked r.marks i
      → Context.begin i (world vs ss cs os r) ≡ ok tt (world vs ss cs os (record { session = r.session; flag = r.flag; marks = m; listed = r.listed; freeze = r.freeze; entries = r.entries }))
  unfolding Context.begin Context.is_initialized Context.put_initialized ask change
  begin_first m h g =
      bind_ok _ _ _ _ _ _ refl (if_false _ _ _ _ _ (sym e ∙ h)
      (ap (λ (k : Marks). ok tt (world vs ss cs os (record { session = r.session; flag = r.flag; marks = k; listed = r.listed; freeze = r.freeze; entries = r.entries }))) (sym g)))

-- ---- the kind of a place, and its first undefined access

pub kind_is : (vs ss : List ℕ) (r : Run) (i : ℕ) (span : Span) (a : AbstractValue) (s : Session) (u : Run) → a ≡ kind_of (value_at vs) (set_at ss i) → s ≡ after_use ss r.session i span → u ≡ with_session s r
    → (cs : ContextWords) (os : List ℕ) → State.kind_with_span i span (world vs ss cs os r) ≡ ok a (world vs ss cs os u)
unfolding State.kind_with_span State.set_of State.peek State.record_access State.change after_use access_of done when◌then◌else◌ return ◌>>◌ ◌>>=◌ and_then
kind_is vs ss r i span a s u e g h cs os =
    go (is_some (set_at ss i)) (eqb r.session.access 0)
    ∙ ap₂ (λ (x : AbstractValue) (y : Run). ok x (world vs ss cs os y)) (sym e) (sym (h ∙ ap (λ (t : Session). with_session t r) g))
  where
    first : Session
    first = record { next = r.session.next; access = ite (ltb i 512) (suc i) 0; span = span; entries = r.session.entries }

    go : (x y : Bool)
        → and_then {A = Done} (elim x as (λ z. Res (World lent) Done) [ true ↦ ok tt (world vs ss cs os r) | false ↦ ok tt (world vs ss cs os (with_session (elim y as (λ z. Session) [ true ↦ first | false ↦ r.session ]) r)) ]) (λ _ w. ok (kind_of (value_at w.state.values) (set_at w.state.sets i)) w)
        ≡ ok (kind_of (value_at vs) (set_at ss i)) (world vs ss cs os (with_session (ite x r.session (ite y first r.session)) r))
    go true y = refl
    go false true = refl
    go false false = refl

pub kind_plain : (w u : World lent) (i : ℕ) (a : AbstractValue) → State.kind_with_span i no_span w ≡ ok a u → State.kind i w ≡ ok a u
unfolding State.kind
kind_plain w u i a h = h

-- ---- a place gets a value

pub create_is : (vs us ss ts : List ℕ) (p : Place) (v n : ℕ) (a : AbstractValue) → n ≡ v → us ≡ put_value vs n a → ts ≡ put_set ss p.identifier (2 ^ v)
    → (cs : ContextWords) (os : List ℕ) (r : Run) → Step.create p v a (world vs ss cs os r) ≡ ok tt (world us ts cs os r)
unfolding Step.create State.initialize State.define State.point ◌>>◌ ◌>>=◌ and_then
create_is vs us ss ts p v n a m g h cs os r =
    ap₂ (λ (x y : List ℕ). ok tt (world x y cs os r)) (ap (λ (k : ℕ). put_value vs k a) (sym m) ∙ sym g) (sym h)

-- ---- captured places that can be written

module _ (vs ss : List ℕ) (cs : ContextWords) (os : List ℕ) (r : Run) (p : Place) where
  pub written_not : (b : Bool) → b ≡ is_some (set_at ss p.identifier) → b ≡ false → Step.is_written p (world vs ss cs os r) ≡ ok false (world vs ss cs os r)
  unfolding Step.is_written State.set_of State.peek return ◌>>=◌ and_then
  written_not b e h = ap (λ (x : Bool). ok (x && writable (kind_of (value_at vs) (set_at ss p.identifier)).kind) (world vs ss cs os r)) (sym e ∙ h)

  pub written_is : (b x : Bool) (a : AbstractValue) → b ≡ is_some (set_at ss p.identifier) → b ≡ true → a ≡ kind_of (value_at vs) (set_at ss p.identifier) → x ≡ writable a.kind → Step.is_written p (world vs ss cs os r) ≡ ok x (world vs ss cs os r)
  unfolding Step.is_written State.set_of State.peek return ◌>>=◌ and_then
  written_is b x a e h g f =
      ap (λ (y : Bool). ok (y && writable (kind_of (value_at vs) (set_at ss p.identifier)).kind) (world vs ss cs os r)) (sym e ∙ h)
      ∙ ap (λ (y : Bool). ok y (world vs ss cs os r)) (sym (f ∙ ap (λ (y : AbstractValue). writable y.kind) g))

-- the places of captures, in a world
module _ (w : World lent) where
  -- whether a place is defined and can be written
  -- the definition's test
  abbrev pub writes : Place → Bool
  writes p = is_some (set_at w.state.sets p.identifier) && writable (kind_of (value_at w.state.values) (set_at w.state.sets p.identifier)).kind

  writes_is : (p : Place) → Step.is_written p w ≡ ok (writes p) w
  unfolding Step.is_written State.set_of State.peek return ◌>>=◌ and_then
  writes_is p = refl

  -- what a test of a place said is that
  pub writes_told : (p : Place) (b : Bool) → Step.is_written p w ≡ ok b w → b ≡ writes p
  writes_told p b h = ap said (sym h ∙ writes_is p)
    where
      said : Res (World lent) Bool → Bool
      said (ok x u) = x
      said (refused n u) = false

  module _ (ws : List ℕ) where
    -- a search of the captures from one on finds what the definition does
    written_from : (n a : ℕ) → Step.any_written (places_in one_run ws 0 1 a n) w ≡ ok (list_any (λ k. writes (place_in one_run ws 0 (1 + k * 5))) (range_with_len a n)) w
    unfolding Step.any_written places_in return when◌then◌else◌
    written_from zero a = refl
    written_from (suc n) a =
        bind_ok _ _ _ _ _ _ (writes_is (place_in one_run ws 0 (1 + a * 5)))
        (go (writes (place_in one_run ws 0 (1 + a * 5))) (written_from n (suc a) ∙ ap (λ (y : ℕ). ok (list_any (λ k. writes (place_in one_run ws 0 (1 + k * 5))) (range_with_len y n)) w) (sym (add-one a))))
      where
        go : (b : Bool) {x : Bool} → Step.any_written (places_in one_run ws 0 1 (suc a) n) w ≡ ok x w → (when b then return true else Step.any_written (places_in one_run ws 0 1 (suc a) n)) w ≡ ok (b || x) w
        go true h = refl
        go false h = h

    -- all of them
    pub written_any : (n : ℕ) (b : Bool) → n ≡ field one_run ws 0 0 → b ≡ list_any (λ k. writes (place_in one_run ws 0 (1 + k * 5))) (range_with_len 0 n) → Step.any_written (captures_of ws) w ≡ ok b w
    unfolding counted_places
    written_any n b e h = ap (λ (m : ℕ). Step.any_written (places_in one_run ws 0 1 0 m) w) (sym e) ∙ written_from n 0 ∙ ap (λ (x : Bool). ok x w) (sym h)
