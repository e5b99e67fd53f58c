-- Laws by which the code of creations meets the definition. Assumes nothing.
use Rattle.std.specs.Prelude.{ℕ, zero, suc, ◌-◌, ◌≤◌, ◌<◌, ◌≡◌, refl, Bool, true, false, get_or, Option, None, Some}
use Rattle.std.proofs.Common.{arith, ◌∙◌}
use Rattle.std.specs.Option.{MatchOption, unwrap_or}
use Rattle.std.proofs.Math.Path.{sym, ap, ap₂}
use mathlib.Core.List.{List, [], ◌∷◌}
use Rattle.def_kinds.specs.declared.ValueKind.{ValueKind}
use Rattle.def_kinds.specs.declared.AbstractValue.{AbstractValue}
use Rattle.def_kinds.specs.Kinds.{copied, is_frozen}
use Rattle.def_kinds.specs.Reasons.{has_reason, first_in, primary_reason, single}
use Rattle.def_kinds.specs.Values.{mk}
use Rattle.def_effects.specs.declared.Place.{Place}
use Rattle.def_effects.specs.Effects.{AliasingEffect, Create, CreateFrom}
use Rattle.def_effects.specs.Keys.{EffectKey, effect_key, two}
use Rattle.def_transfer.specs.Monad.{Res, ok, refused, M, Done, return, done}
use Rattle.def_transfer.specs.Tables.{World}
use Rattle.def_transfer.specs.State as State
use Rattle.def_transfer.specs.Context.{get_or_create_value_id, emit, begin}
use Rattle.def_transfer.specs.Step as Step
use Rattle.def_transfer.specs.Step.{create}
use Rattle.lent_effects.specs.declared.AliasingEffect.TheVariants as Head
use Rattle.lent_effects.specs.Records.{effect_with}
use Rattle.lent_layout.specs.Context.{ContextWords}
use Rattle.lent_work.specs.declared.Run.{Run}
use Rattle.state_ops.specs.Lists.{assigned_values, assigned_sets}
use Rattle.state_ops.proofs.Laws.Text.{assign_lists}
use Rattle.laws_monad.proofs.Laws.Answers.{bind_ok, bind_fails, then_ok, then_fails, if_true, if_false, done_ok}
use Rattle.lent_world.specs.World.{lent, world}
use Rattle.effect_acts.specs.declared.Next.TheVariants as Next
use Rattle.effect_acts.specs.Acts.{follow}
use Rattle.effect_create.specs.Creations.{numbered, assigned, assigning}

-- ---- the first reason of a set

-- n numbers from k on
-- the definition's order of the reasons is that of their numbers
unfoldable pub up_from : ℕ → ℕ → List ℕ
up_from k zero = []
up_from k (suc n) = k ∷ up_from (suc k) n

-- the first of the reasons from n on that a set has, Other for none
unfoldable pub primary_from : ℕ → ℕ → ℕ
primary_from s n = get_or (up_from n (11 - n)) (first_in (up_from n (11 - n)) s) 11

-- at the start all reasons are left
-- the definition's list is the numbers from 0 on
pub primary_start : (s : ℕ) → primary_from s 0 ≡ primary_reason s
unfolding primary_from up_from primary_reason
primary_start s = refl

-- one more reason is at hand
primary_next : (s n : ℕ) → n < 11 → primary_from s n ≡ elim (has_reason s n) as (λ b. ℕ) [ true ↦ n | false ↦ primary_from s (suc n) ]
unfolding primary_from up_from first_in
primary_next s n l =
    let m : 11 - n ≡ suc (11 - suc n) = omega arith in
    ap (λ (y : ℕ). get_or (up_from n y) (first_in (up_from n y) s) 11) m ∙ by (has_reason s n)
  where
    -- the test, either way
    by : (b : Bool) → get_or (n ∷ up_from (suc n) (11 - suc n)) (elim b as (λ b. ℕ) [ true ↦ 0 | false ↦ suc (first_in (up_from (suc n) (11 - suc n)) s) ]) 11 ≡ elim b as (λ b. ℕ) [ true ↦ n | false ↦ get_or (up_from (suc n) (11 - suc n)) (first_in (up_from (suc n) (11 - suc n)) s) 11 ]
    by true = refl
    by false = refl

module _ (s : ℕ) where
  -- the set has none of the first k
  walked : (k : ℕ) → k ≤ 11 → ((j : ℕ) → 0 ≤ j → j < k → has_reason s j ≡ false) → primary_from s k ≡ primary_reason s
  walked zero l none = primary_start s
  walked (suc k) l none =
      sym (primary_next s k (omega arith) ∙ ap (λ (x : Bool). elim x as (λ b. ℕ) [ true ↦ k | false ↦ primary_from s (suc k) ]) (none k (omega arith) (omega arith)))
      ∙ walked k (omega arith) (λ j z m. none j z (omega arith))

  -- what the search of the numbers below 11 finds
  pub primary_is : (r : Option ℕ)
      → MatchOption r ((k : ℕ) → 0 ≤ k → k < 11 → has_reason s k ≡ false) (λ i. (0 ≤ i) × (i < 11) × (has_reason s i ≡ true) × ((k : ℕ) → 0 ≤ k → k < i → has_reason s k ≡ false))
      → unwrap_or r 11 ≡ primary_reason s
  unfolding primary_from up_from first_in
  primary_is None h = walked 11 (omega arith) h
  primary_is (Some i) h =
      sym (primary_next s i h.1 ∙ ap (λ (x : Bool). elim x as (λ b. ℕ) [ true ↦ i | false ↦ primary_from s (suc i) ]) h.2)
      ∙ walked i (omega (arith, h.1)) h.3

-- ---- a Create

module _ (w : World lent) (p : Place) (k : ValueKind) (q : ℕ) (again : AliasingEffect → M (World lent) Done) where
  -- the place already began
  -- "6 .. into a place already initialized"
  pub creating_refused : (n : ℕ) (x : World lent) → begin p.identifier w ≡ refused n x → Step.creating again p k q w ≡ refused n x
  unfolding Step.creating
  creating_refused n x e = then_fails _ _ _ _ _ e

  module _ (u : World lent) (e : begin p.identifier w ≡ ok tt u) (key : EffectKey) (ps : List Place) (z : key ≡ effect_key (effect_with (Head.Create p k q) ps)) where
    -- its number is that under the effect's key
    create_number : (x : World lent) → get_or_create_value_id (effect_key (Create p k q)) x ≡ get_or_create_value_id key x
    unfolding effect_with
    create_number x = ap (λ (i : EffectKey). get_or_create_value_id i x) (sym z)

    -- no number is left
    -- "9 a fresh number is needed at next 512"
    pub creating_full : (n : ℕ) (x : World lent) → get_or_create_value_id key u ≡ refused n x → Step.creating again p k q w ≡ refused n x
    unfolding Step.creating
    creating_full n x g = then_ok _ _ _ _ _ _ e (bind_fails _ _ _ _ _ (create_number _ ∙ g))

    -- the place gets its number, with the kind and that one reason
    pub creating_done : (v : ℕ) (x : World lent) → get_or_create_value_id key u ≡ ok v x → (b : ℕ) (y t : World lent) → b ≡ single q → create p v (mk k b) x ≡ ok tt y
        → emit (effect_with (Head.Create p k q) ps) y ≡ ok tt t → Step.creating again p k q w ≡ ok tt t
    unfolding Step.creating effect_with
    creating_done v x g b y t s c l =
        then_ok _ _ _ _ _ _ e (bind_ok _ _ _ _ _ _ (create_number _ ∙ g)
        (then_ok _ _ _ _ _ _ (ap (λ (i : ℕ). create p v (mk k i) x) (sym s) ∙ c) l))

-- ---- an ImmutableCapture

module _ (w u : World lent) (from into : Place) (a : AbstractValue) (again : AliasingEffect → M (World lent) Done) (b : Bool)
    (e : State.kind from.identifier w ≡ ok a u) (g : b ≡ copied a.kind) where
  -- its source is Primitive or Global
  pub capturing_copied : b ≡ true → Step.capturing_immutably again from into w ≡ ok tt u
  unfolding Step.capturing_immutably
  capturing_copied h = bind_ok _ _ _ _ _ _ e (if_true _ _ _ _ _ (sym g ∙ h) (done_ok _))

  -- any other source
  pub capturing_listed : (hs : List Place) (t : World lent) → b ≡ false → emit (effect_with (Head.ImmutableCapture from into) hs) u ≡ ok tt t → Step.capturing_immutably again from into w ≡ ok tt t
  unfolding Step.capturing_immutably effect_with
  capturing_listed hs t h l = bind_ok _ _ _ _ _ _ e (if_false _ _ _ _ _ (sym g ∙ h) l)

-- ---- a place gets the number under a key of two places

module _ (w : World lent) (code : ℕ) (from into : Place) (a : AbstractValue) (key : EffectKey) (z : key ≡ two code from into) where
  -- its number is that under the two places
  two_number : (x : World lent) → get_or_create_value_id (two code from into) x ≡ get_or_create_value_id key x
  two_number x = ap (λ (i : EffectKey). get_or_create_value_id i x) (sym z)

  -- no number is left
  -- "9 a fresh number is needed at next 512"
  pub numbered_full : (n : ℕ) (x : World lent) → get_or_create_value_id key w ≡ refused n x → numbered code from into a w ≡ refused n x
  unfolding numbered
  numbered_full n x g = bind_fails _ _ _ _ _ (two_number _ ∙ g)

  -- the place gets it
  pub numbered_done : (v : ℕ) (x y : World lent) → get_or_create_value_id key w ≡ ok v x → create into v a x ≡ ok tt y → numbered code from into a w ≡ ok tt y
  unfolding numbered
  numbered_done v x y g c = bind_ok _ _ _ _ _ _ (two_number _ ∙ g) c

-- ---- an Assign

-- of what is not frozen
module _ (w : World lent) (from into : Place) (a : AbstractValue) (b : Bool) (e : b ≡ copied a.kind) where
  -- it is copied
  pub assigned_copied : b ≡ true → assigned from into a w ≡ numbered 19 from into a w
  unfolding assigned
  assigned_copied h = if_true _ _ _ _ _ (sym e ∙ h) refl

  -- it is not copied
  -- the place gets the source's set, and the effect is listed
  pub assigned_listed : (x t : World lent) (hs : List Place) → b ≡ false → State.assign into.identifier from.identifier w ≡ ok tt x
      → emit (effect_with (Head.Assign from into) hs) x ≡ ok tt t → assigned from into a w ≡ ok tt t
  unfolding assigned effect_with
  assigned_listed x t hs h k l = if_false _ _ _ _ _ (sym e ∙ h) (then_ok _ _ _ _ _ _ k l)

-- the lists of an assignment are the definition's
pub assign_is : (vs ss : List ℕ) (cs : ContextWords) (os : List ℕ) (r : Run) (into from : ℕ) (us ts : List ℕ) → us ≡ assigned_values vs ss from → ts ≡ assigned_sets ss into from → State.assign into from (world vs ss cs os r) ≡ ok tt (world us ts cs os r)
assign_is vs ss cs os r into from us ts g k =
    assign_lists lent r.flag (world vs ss cs os r).rest vs ss into from ∙ ap₂ (λ (m o : List ℕ). ok tt (world m o cs os r)) (sym g) (sym k)

-- any Assign, as it begins
module _ (w : World lent) (from into : Place) (again : AliasingEffect → M (World lent) Done) where
  -- the destination already began
  pub assign_refused : (n : ℕ) (x : World lent) → begin into.identifier w ≡ refused n x → Step.assigning again from into w ≡ refused n x
  unfolding Step.assigning
  assign_refused n x e = then_fails _ _ _ _ _ e

  -- the source was looked at
  -- the definition's text is the same under names
  pub assign_begun : (u : World lent) → begin into.identifier w ≡ ok tt u → (a : AbstractValue) (t : World lent) → State.kind_with_span from.identifier from.span u ≡ ok a t
      → Step.assigning again from into w ≡ assigning again from into a t
  unfolding Step.assigning assigning assigned numbered
  assign_begun u e a t k = then_ok _ _ _ _ _ _ e (bind_ok _ _ _ _ _ _ k refl)

-- ---- what a CreateFrom lists

module _ (w : World lent) (from into : Place) (a : AbstractValue) (again : AliasingEffect → M (World lent) Done) (ps : List Place) (b : Bool) (e : b ≡ copied a.kind) where
  -- the source is copied
  pub listed_copied : (q : ℕ) (hs : List Place) (t : World lent) → b ≡ true → q ≡ primary_reason a.reason → emit (effect_with (Head.Create into a.kind q) hs) w ≡ ok tt t
      → Step.list_created again from into a w ≡ follow again (CreateFrom from into) ps Next.Nothing t
  unfolding Step.list_created effect_with follow done return
  listed_copied q hs t h s l =
      if_true _ _ _ _ _ (sym e ∙ h) (ap (λ (i : ℕ). emit (Create into a.kind i) w) (sym s) ∙ l)

  module _ (h : b ≡ false) (d : Bool) (g : d ≡ is_frozen a.kind) where
    -- the source is frozen
    -- a Create is listed, and an ImmutableCapture derived
    pub listed_frozen : (q : ℕ) (hs : List Place) (t : World lent) → d ≡ true → q ≡ primary_reason a.reason → emit (effect_with (Head.Create into a.kind q) hs) w ≡ ok tt t
        → Step.list_created again from into a w ≡ follow again (CreateFrom from into) ps (Next.Derived (Head.ImmutableCapture from into)) t
    unfolding Step.list_created effect_with follow
    listed_frozen q hs t k s l =
        if_false _ _ _ _ _ (sym e ∙ h) (if_true _ _ _ _ _ (sym g ∙ k)
        (then_ok _ _ _ _ _ _ (ap (λ (i : ℕ). emit (Create into a.kind i) w) (sym s) ∙ l) refl))

    -- any other source
    pub listed_itself : d ≡ false → Step.list_created again from into a w ≡ follow again (CreateFrom from into) ps Next.Itself w
    unfolding Step.list_created follow
    listed_itself k = if_false _ _ _ _ _ (sym e ∙ h) (if_false _ _ _ _ _ (sym g ∙ k) refl)

-- ---- a CreateFrom

module _ (w : World lent) (from into : Place) (again : AliasingEffect → M (World lent) Done) where
  -- the place already began
  pub from_refused : (n : ℕ) (x : World lent) → begin into.identifier w ≡ refused n x → Step.creating_from again from into w ≡ refused n x
  unfolding Step.creating_from
  from_refused n x e = then_fails _ _ _ _ _ e

  module _ (u : World lent) (e : begin into.identifier w ≡ ok tt u) (a : AbstractValue) (s : World lent) (k : State.kind from.identifier u ≡ ok a s)
      (key : EffectKey) (z : key ≡ two 10 from into) where
    -- no number is left
    -- "9 a fresh number is needed at next 512"
    pub from_full : (n : ℕ) (x : World lent) → get_or_create_value_id key s ≡ refused n x → Step.creating_from again from into w ≡ refused n x
    unfolding Step.creating_from
    from_full n x g = then_ok _ _ _ _ _ _ e (bind_ok _ _ _ _ _ _ k (bind_fails _ _ _ _ _ (two_number s 10 from into a key z _ ∙ g)))

    -- the place gets its number, with the source's kind and reasons
    pub from_listed : (v : ℕ) (x y : World lent) (i : Res (World lent) Done) → get_or_create_value_id key s ≡ ok v x → create into v a x ≡ ok tt y
        → Step.list_created again from into a y ≡ i → Step.creating_from again from into w ≡ i
    unfolding Step.creating_from
    from_listed v x y i g c l =
        then_ok _ _ _ _ _ _ e (bind_ok _ _ _ _ _ _ k (bind_ok _ _ _ _ _ _ (two_number s 10 from into a key z _ ∙ g)
        (then_ok _ _ _ _ _ _ c l)))
