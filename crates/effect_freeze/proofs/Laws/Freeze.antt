-- Laws by which the code of a Freeze meets the definition. Assumes nothing.
use Rattle.std.specs.Prelude.{ℕ, ◌-◌, ◌≤◌, ◌≡◌, Bool, true, false, List, Option, None, Some}
use Rattle.std.proofs.Common.{arith, sym, ap, ap₂, ◌∙◌}
use Rattle.std.proofs.Math.Path.{refl}
use Rattle.def_effects.specs.declared.Place.{Place}
use Rattle.def_effects.specs.Effects.{AliasingEffect}
use Rattle.def_transfer.specs.Monad.{Res, ok, refused, M, Done, each}
use Rattle.def_transfer.specs.Tables.{World}
use Rattle.def_transfer.specs.State.{ask, change, set_of}
use Rattle.base_sets.specs.Members.{values_of}
use Rattle.def_transfer.specs.State as State
use Rattle.def_transfer.specs.Context.{start_freeze, emit}
use Rattle.def_transfer.specs.Walk.{freeze_function_captures_transitive, walk}
use Rattle.def_transfer.specs.Step.{freezing}
use Rattle.lent_sets.specs.Rows.{set_at}
use Rattle.state_ops.specs.Lists.{freezes, frozen_values}
use Rattle.state_ops.proofs.Laws.Text.{freeze_lists}
use Rattle.lent_layout.specs.Context.{ContextWords}
use Rattle.lent_context.specs.Lent.{is_transitive}
use Rattle.lent_work.specs.declared.Run.{Run}
use Rattle.lent_effects.specs.declared.AliasingEffect.TheVariants as Head
use Rattle.lent_effects.specs.Records.{effect_with}
use Rattle.laws_monad.proofs.Laws.Answers.{bind_ok, then_ok, if_true, if_false, done_ok}
use Rattle.lent_world.specs.World.{lent, world}
use Rattle.lent_world.specs.declared.World.{World as Lent}
use Rattle.lent_world.specs.Promise.{seen}
use Rattle.effect_walk.specs.Walks.{value_from}
use Rattle.effect_walk.proofs.Laws.Walk.{RunsRow, row_fails, row_ends}

-- what is lent, with no entry made yet
abbrev started : Lent → Lent
started w = record {
  values = w.values;
  sets = w.sets;
  context = w.context;
  output = w.output;
  run = record { session = w.run.session; flag = w.run.flag; marks = w.run.marks; listed = w.run.listed; freeze = 0; entries = w.run.entries };
}

-- each Freeze starts from zero, and enters the values of its place
abbrev pub Walks : ℕ → Lent → Lent → ℕ → ℕ → Type 0
Walks reason v w i from = RunsRow reason (λ F. F) v w i from

module _ (u : Lent) (i reason : ℕ) where
  starts : (x : Res (World lent) Done) → each (values_of (set_at u.sets.now i)) (freeze_function_captures_transitive 4097 reason) (seen (started u)) ≡ x → walk (values_of (set_at u.sets.now i)) reason (seen u) ≡ x
  unfolding walk start_freeze change
  starts x h = then_ok _ _ _ _ _ _ refl h

  module _ (w : Lent) (from : ℕ) (a : Walks reason (started u) w i from) (o : Option ℕ) (e : o ≡ value_from w.sets.now i from) where
    -- an entry is refused
    pub walk_fails : (z : World lent) (x m : ℕ) → o ≡ Some m → ((d : ℕ) → 4096 - w.run.freeze ≤ d → freeze_function_captures_transitive d reason m (seen w) ≡ refused x z) → walk (values_of (set_at u.sets.now i)) reason (seen u) ≡ refused x z
    walk_fails z x m h g = starts _ (row_fails reason (λ F. F) (started u) w i from a o e z x m h g 4097 (omega arith))

    -- all values are entered
    pub walk_ends : o ≡ None → walk (values_of (set_at u.sets.now i)) reason (seen u) ≡ ok tt (seen w)
    walk_ends h = starts _ (row_ends reason (λ F. F) (started u) w i from a o e h 4097 (omega arith))

-- ---- the three ways through a Freeze

module _ (vs us ss : List ℕ) (cs : ContextWords) (os : List ℕ) (r : Run) (p : Place) (reason : ℕ) (b : Bool) (e : b ≡ freezes vs ss p.identifier) (g : us ≡ frozen_values vs ss p.identifier reason) (again : AliasingEffect → M (World lent) Done) where
  frozen_to : State.freeze p.identifier reason (world vs ss cs os r) ≡ ok b (world us ss cs os r)
  frozen_to = freeze_lists lent r.flag (world vs ss cs os r).rest vs ss p.identifier reason ∙ ap₂ (λ (x : Bool) (l : List ℕ). ok x (world l ss cs os r)) (sym e) (sym g)

  -- it does not act
  pub freezing_not : b ≡ false → freezing again p reason (world vs ss cs os r) ≡ ok tt (world us ss cs os r)
  unfolding freezing
  freezing_not h = bind_ok _ _ _ _ _ _ frozen_to (if_false _ _ _ _ _ h (done_ok _))

  module _ (hs : List Place) (w : World lent) (t : Bool) (h : b ≡ true) (q : emit (effect_with (Head.Freeze p reason) hs) (world us ss cs os r) ≡ ok tt w) (o : t ≡ is_transitive w.rest.context) where
    -- it acts, and both options are off
    pub freezing_plain : t ≡ false → freezing again p reason (world vs ss cs os r) ≡ ok tt w
    unfolding freezing ask effect_with
    freezing_plain z =
        bind_ok _ _ _ _ _ _ frozen_to (if_true _ _ _ _ _ h (then_ok _ _ _ _ _ _ q
        (bind_ok _ _ _ _ _ _ (ap (λ (x : Bool). ok x w) (sym o)) (if_false _ _ _ _ _ z (done_ok _)))))

    -- it acts, and its values are walked
    -- the walk decides what the whole comes to
    pub freezing_walks : t ≡ true → (x : Res (World lent) Done) → walk (values_of (set_at w.state.sets p.identifier)) reason w ≡ x → freezing again p reason (world vs ss cs os r) ≡ x
    unfolding freezing ask set_of effect_with
    freezing_walks z x k =
        bind_ok _ _ _ _ _ _ frozen_to (if_true _ _ _ _ _ h (then_ok _ _ _ _ _ _ q
        (bind_ok _ _ _ _ _ _ (ap (λ (y : Bool). ok y w) (sym o)) (if_true _ _ _ _ _ z (bind_ok _ _ _ _ _ _ refl k)))))
