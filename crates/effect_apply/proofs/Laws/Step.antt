-- Laws by which the step and the functions that derive effects meet the definition. Assumes nothing.
use Rattle.std.specs.Prelude.{ℕ, zero, suc, ◌+◌, ◌-◌, ◌*◌, ◌≤◌, ◌<◌, ◌≡◌, Bool, true, false, List}
use native.Mathlib.Omega.{arith}
use Rattle.std.proofs.Math.Path.{refl, sym, ap}
use Rattle.std.proofs.Common.{◌∙◌}
use Rattle.def_kinds.specs.declared.AbstractValue.{AbstractValue}
use Rattle.def_kinds.specs.Kinds.{is_frozen}
use Rattle.def_effects.specs.declared.Place.{Place}
use Rattle.def_effects.specs.declared.MutateVariant.{MutateVariant}
use Rattle.def_effects.specs.Effects.{AliasingEffect, Capture, CreateFrom}
use Rattle.def_effects.specs.Keys.{AssignFrozen}
use Rattle.def_transfer.specs.Monad.{Res, ok, refused, M, Done, ◌>>=◌, refuse, each}
use Rattle.def_transfer.specs.Tables.{World}
use Rattle.def_transfer.specs.Context.{intern_effect, emit}
use Rattle.def_transfer.specs.Step.{act, apply_effect, mutating, assigning, creating_from, creating_function}
use Rattle.lent_tables.specs.Words.{field, place_in, places_in}
use Rattle.lent_tables.proofs.Laws.Word.{places_more, places_none}
use Rattle.lent_effects.specs.declared.AliasingEffect.{AliasingEffect as Head}
use Rattle.lent_effects.specs.Records.{effect_with, captures_of, counted_places}
use Rattle.laws_monad.proofs.Laws.Answers.{bind_ok, bind_fails, then_ok, then_fails, if_true, if_false, done_ok}
use Rattle.laws_monad.proofs.Laws.Each.{each_ok, each_fails, each_done}
use Rattle.lent_world.specs.World.{lent}
use Rattle.effect_acts.specs.declared.FlowKind.{FlowKind}
use Rattle.effect_acts.specs.declared.Act.{Act}
use Rattle.effect_acts.specs.declared.Act.TheVariants.{Plain, Mutating, Flowing, Assigning, CreatingFrom, CreatingFunction}
use Rattle.effect_acts.specs.declared.Next.{Next}
use Rattle.effect_acts.specs.declared.Next.TheVariants.{Nothing, Itself, Derived}
use Rattle.effect_acts.specs.Acts.{act_of, follow}
use Rattle.effect_flow.specs.Flows.{flows}
use Rattle.effect_create.specs.Creations as Creations
use Rattle.effect_create.specs.Creations.{numbered, assigned}
use Rattle.effect_apply.specs.Steps.{does, creates}
use Rattle.lent_layout.specs.Layout.{one_run}

-- ---- the step: interned, then acted on

-- no depth is left
pub step_none : (d : ℕ) (e : AliasingEffect) (w : World lent) → d ≡ 0 → apply_effect d e w ≡ refused 99 w
unfolding apply_effect refuse
step_none zero e w h = refl
step_none (suc d) e w h = absurd (omega arith)

opened : (d : ℕ) (e : AliasingEffect) (w : World lent) → ¬ (d ≡ 0) → apply_effect d e w ≡ (intern_effect e >>= act (apply_effect (d - 1))) w
unfolding apply_effect
opened zero e w h = absurd (h refl)
opened (suc d) e w h = let z : suc d - 1 ≡ d = omega arith in ap (λ (n : ℕ). (intern_effect e >>= act (apply_effect n)) w) (sym z)

module _ (d : ℕ) (e : AliasingEffect) (w : World lent) (h : ¬ (d ≡ 0)) where
  -- interning is refused
  -- "interning before the step"
  pub step_refused : (n : ℕ) (u : World lent) → intern_effect e w ≡ refused n u → apply_effect d e w ≡ refused n u
  step_refused n u i = opened d e w h ∙ bind_fails _ _ n w u i

  -- what stands for the effect acts
  pub step_acts : (y : AliasingEffect) (u : World lent) (x : Res (World lent) Done) → intern_effect e w ≡ ok y u → act (apply_effect (d - 1)) y u ≡ x → apply_effect d e w ≡ x
  step_acts y u x i g = opened d e w h ∙ bind_ok _ _ w u y x i g

-- ---- what an effect does, by its kind

-- the definition's cases, put together
acts_does : (again : AliasingEffect → M (World lent) Done) (x : Head) (ds : List Place) (w : World lent) → act again (effect_with x ds) w ≡ does again (effect_with x ds) ds (act_of x) w
unfolding act effect_with act_of does flows
acts_does again (Head.Freeze p r) ds w = refl
acts_does again (Head.Mutate p r) ds w = refl
acts_does again (Head.MutateConditionally p) ds w = refl
acts_does again (Head.MutateTransitive p) ds w = refl
acts_does again (Head.MutateTransitiveConditionally p) ds w = refl
acts_does again (Head.Capture f i) ds w = refl
acts_does again (Head.Alias f i) ds w = refl
acts_does again (Head.MaybeAlias f i) ds w = refl
acts_does again (Head.Assign f i) ds w = refl
acts_does again (Head.Create i k r) ds w = refl
acts_does again (Head.CreateFrom f i) ds w = refl
acts_does again (Head.ImmutableCapture f i) ds w = refl
acts_does again (Head.CreateFunction f i) ds w = refl
acts_does again (Head.MutateFrozen p d) ds w = refl
acts_does again (Head.MutateGlobal p d) ds w = refl
acts_does again (Head.Impure p d) ds w = refl
acts_does again (Head.Render p) ds w = refl

-- captures matter only to what creates a function
same_effect : (x : Head) (ds cs : List Place) → creates (act_of x) ≡ false → effect_with x ds ≡ effect_with x cs
unfolding effect_with act_of
same_effect (Head.Freeze p r) ds cs h = refl
same_effect (Head.Mutate p r) ds cs h = refl
same_effect (Head.MutateConditionally p) ds cs h = refl
same_effect (Head.MutateTransitive p) ds cs h = refl
same_effect (Head.MutateTransitiveConditionally p) ds cs h = refl
same_effect (Head.Capture f i) ds cs h = refl
same_effect (Head.Alias f i) ds cs h = refl
same_effect (Head.MaybeAlias f i) ds cs h = refl
same_effect (Head.Assign f i) ds cs h = refl
same_effect (Head.Create i k r) ds cs h = refl
same_effect (Head.CreateFrom f i) ds cs h = refl
same_effect (Head.ImmutableCapture f i) ds cs h = refl
same_effect (Head.CreateFunction f i) ds cs h = let z : ◌≡◌ {A = ℕ} 0 1 = cc in absurd (omega arith)
same_effect (Head.MutateFrozen p d) ds cs h = refl
same_effect (Head.MutateGlobal p d) ds cs h = refl
same_effect (Head.Impure p d) ds cs h = refl
same_effect (Head.Render p) ds cs h = refl

-- an effect that is found to be plain is
pub plain_is : (x : Head) (a : Act) → a ≡ act_of x → a ≡ Plain → Plain ≡ act_of x
plain_is x a e h = sym h ∙ e

module _ (again : AliasingEffect → M (World lent) Done) (x : Head) (ds cs : List Place) (a : Act) (w : World lent) (y : Res (World lent) Done) (e : a ≡ act_of x) where
  kind_of_act : (b : Act) → a ≡ b → creates b ≡ false → does again (effect_with x cs) cs b w ≡ y → act again (effect_with x ds) w ≡ y
  kind_of_act b h n g =
      ap (λ (z : AliasingEffect). act again z w) (same_effect x ds cs (ap creates (sym e ∙ h) ∙ n)) ∙ acts_does again x cs w
      ∙ ap (λ (z : Act). does again (effect_with x cs) cs z w) (sym e ∙ h) ∙ g

  -- an arm for each kind
  pub arm_plain : a ≡ Plain → act again (effect_with x cs) w ≡ y → act again (effect_with x ds) w ≡ y
  unfolding does
  arm_plain h g = kind_of_act Plain h refl g

  pub arm_mutating : (v : MutateVariant) (p : Place) → a ≡ Mutating v p → mutating again v (effect_with x cs) p w ≡ y → act again (effect_with x ds) w ≡ y
  unfolding does
  arm_mutating v p h g = kind_of_act (Mutating v p) h refl g

  pub arm_flowing : (k : FlowKind) (f i : Place) → a ≡ Flowing k f i → flows again k (effect_with x cs) f i w ≡ y → act again (effect_with x ds) w ≡ y
  unfolding does
  arm_flowing k f i h g = kind_of_act (Flowing k f i) h refl g

  pub arm_assigning : (f i : Place) → a ≡ Assigning f i → assigning again f i w ≡ y → act again (effect_with x ds) w ≡ y
  unfolding does
  arm_assigning f i h g = kind_of_act (Assigning f i) h refl g

  pub arm_from : (f i : Place) → a ≡ CreatingFrom f i → creating_from again f i w ≡ y → act again (effect_with x ds) w ≡ y
  unfolding does
  arm_from f i h g = kind_of_act (CreatingFrom f i) h refl g

  pub arm_function : (f : ℕ) (i : Place) → a ≡ CreatingFunction f i → creating_function again ds f i w ≡ y → act again (effect_with x ds) w ≡ y
  unfolding does
  arm_function f i h g = acts_does again x ds w ∙ ap (λ (z : Act). does again (effect_with x ds) ds z w) (sym e ∙ h) ∙ g

-- ---- what comes next

module _ (again : AliasingEffect → M (World lent) Done) (e : AliasingEffect) (cs : List Place) (n : Next) (w : World lent) where
  pub follow_nothing : n ≡ Nothing → follow again e cs n w ≡ ok tt w
  unfolding follow
  follow_nothing h = ap (λ (m : Next). follow again e cs m w) h ∙ done_ok w

  pub follow_itself : (u : World lent) → n ≡ Itself → emit e w ≡ ok tt u → follow again e cs n w ≡ ok tt u
  unfolding follow
  follow_itself u h g = ap (λ (m : Next). follow again e cs m w) h ∙ g

  pub follow_derived : (x : Head) (y : Res (World lent) Done) → n ≡ Derived x → again (effect_with x cs) w ≡ y → follow again e cs n w ≡ y
  unfolding follow
  follow_derived x y h g = ap (λ (m : Next). follow again e cs m w) h ∙ g

-- what a CreateFrom lists is itself
pub created_follows : (again : AliasingEffect → M (World lent) Done) (f i : Place) (cs : List Place) (n : Next) (w : World lent) (y : Res (World lent) Done) → follow again (effect_with (Head.CreateFrom f i) cs) cs n w ≡ y → follow again (CreateFrom f i) cs n w ≡ y
unfolding effect_with
created_follows again f i cs n w y h = h

-- ---- Assign, once its source was looked at

module _ (again : AliasingEffect → M (World lent) Done) (f i : Place) (a : AbstractValue) (cs : List Place) (w : World lent) (b : Bool) (e : b ≡ is_frozen a.kind) where
  pub assign_plain : (y : Res (World lent) Done) → b ≡ false → assigned f i a w ≡ y → Creations.assigning again f i a w ≡ y
  unfolding Creations.assigning
  assign_plain y h g = if_false _ _ _ _ _ (sym e ∙ h) g

  module _ (h : b ≡ true) where
    pub assign_stops : (n : ℕ) (u : World lent) → again (effect_with (Head.ImmutableCapture f i) cs) w ≡ refused n u → Creations.assigning again f i a w ≡ refused n u
    unfolding Creations.assigning effect_with
    assign_stops n u s = if_true _ _ _ _ _ (sym e ∙ h) (then_fails _ _ _ _ _ s)

    pub assign_goes : (u : World lent) (y : Res (World lent) Done) → again (effect_with (Head.ImmutableCapture f i) cs) w ≡ ok tt u → numbered AssignFrozen f i a u ≡ y → Creations.assigning again f i a w ≡ y
    unfolding Creations.assigning effect_with
    assign_goes u y s g = if_true _ _ _ _ _ (sym e ∙ h) (then_ok _ _ _ _ _ _ s g)

-- ---- each capture of a new function

module _ (again : AliasingEffect → M (World lent) Done) (into : Place) (ws : List ℕ) where
  abbrev derives : Place → M (World lent) Done
  derives c = again (Capture c into)

  -- what a loop over the captures has still to derive
  -- from the loop's own start
  pub captures_start : (n : ℕ) (w : World lent) → n ≡ field one_run ws 0 0 → each (captures_of ws) derives w ≡ each (places_in one_run ws 0 1 0 (n - 0)) derives w
  unfolding counted_places
  captures_start n w e = let z : n - 0 ≡ n = omega arith in ap (λ (m : ℕ). each (places_in one_run ws 0 1 0 m) derives w) (sym e ∙ sym z)

  module _ (n k : ℕ) (p : Place) (w : World lent) (cs : List Place) (h : k < n) (e : p ≡ place_in one_run ws 0 (1 + k * 5)) where
    derived : (x : Res (World lent) Done) → again (effect_with (Head.Capture p into) cs) w ≡ x → derives (place_in one_run ws 0 (1 + k * 5)) w ≡ x
    unfolding effect_with
    derived x s = ap (λ (q : Place). derives q w) (sym e) ∙ s

    pub captures_next : (u : World lent) → again (effect_with (Head.Capture p into) cs) w ≡ ok tt u → each (places_in one_run ws 0 1 k (n - k)) derives w ≡ each (places_in one_run ws 0 1 (k + 1) (n - (k + 1))) derives u
    captures_next u s = each_ok derives _ _ _ w u (places_more one_run ws 0 1 k n h) (derived _ s)

    pub captures_stop : (m : ℕ) (u : World lent) → again (effect_with (Head.Capture p into) cs) w ≡ refused m u → each (places_in one_run ws 0 1 k (n - k)) derives w ≡ refused m u
    captures_stop m u s = each_fails derives _ _ _ m w u (places_more one_run ws 0 1 k n h) (derived _ s)

  pub captures_end : (n k : ℕ) (w : World lent) → n ≤ k → each (places_in one_run ws 0 1 k (n - k)) derives w ≡ ok tt w
  captures_end n k w h = each_done derives _ w (places_none one_run ws 0 1 k n h)

-- the captures that were chosen
pub chosen_copied : (again : AliasingEffect → M (World lent) Done) (ws : List ℕ) (cs : List Place) (f : ℕ) (i : Place) (w : World lent) (y : Res (World lent) Done) → captures_of ws ≡ cs → creating_function again (captures_of ws) f i w ≡ y → creating_function again cs f i w ≡ y
chosen_copied again ws cs f i w y e h = ap (λ (l : List Place). creating_function again l f i w) (sym e) ∙ h
