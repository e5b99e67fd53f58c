-- Laws by which the code of new functions meets the definition. Assumes nothing.
use Rattle.std.specs.Prelude.{ℕ, ◌≡◌, Bool, length, Option, None, Some, Result, Ok, Err}
use Rattle.std.proofs.Common.{◌∙◌}
use Rattle.std.proofs.Math.Path.{refl, sym, ap}
use mathlib.Core.List.{List}
use Rattle.def_kinds.specs.declared.ValueKind.{ValueKind}
use Rattle.def_kinds.specs.Values.{mk}
use Rattle.def_effects.specs.declared.Place.{Place}
use Rattle.def_effects.specs.Effects.{AliasingEffect, Capture, CreateFunction}
use Rattle.def_effects.specs.Keys.{EffectKey, effect_key}
use Rattle.def_transfer.specs.Monad.{Res, ok, refused, M, Done, and_then, ◌>>=◌, ◌>>◌, each}
use Rattle.def_transfer.specs.Tables.{World}
use Rattle.def_transfer.specs.State as State
use Rattle.def_transfer.specs.State.{ask, change}
use Rattle.def_transfer.specs.Context.{get_or_create_value_id, link_to, emit, begin, function_context}
use Rattle.def_transfer.specs.Step as Step
use Rattle.def_transfer.specs.Step.{create, any_written, any_ref, update_context}
use Rattle.lent_effects.specs.declared.AliasingEffect.TheVariants as Head
use Rattle.lent_effects.specs.Records.{effect_with, captures_of, counted_places, copied_captures}
use Rattle.lent_effects.proofs.Laws.Capture.{captures_copied}
use Rattle.lent_layout.specs.Layout as Layout
use Rattle.lent_layout.specs.Context.{ContextWords}
use Rattle.lent_context.specs.Lent as Lent
use Rattle.lent_work.specs.declared.Run.{Run}
use Rattle.laws_monad.proofs.Laws.Answers.{bind_ok, bind_fails, then_ok, then_fails}
use Rattle.def_refusals.specs.declared.Refusal.{Refusal}
use Rattle.laws_monad.specs.Answers.{answers}
use Rattle.lent_world.specs.World.{lent, world}
use Rattle.lent_world.specs.Promise.{comes}
use Rattle.effect_intern.specs.Interning.{chosen}
use Rattle.effect_captures.specs.NewFunctions.{function_kind, linked}

-- ---- a new function

-- its number, its link and its place
module _ (f : ℕ) (into : Place) (k : ValueKind) (key : EffectKey) (ps : List Place) (z : key ≡ effect_key (effect_with (Head.CreateFunction f into) ps)) where
  -- its number is that under the effect's key
  function_number : (w : World lent) → get_or_create_value_id (effect_key (CreateFunction ps f into)) w ≡ get_or_create_value_id key w
  unfolding effect_with
  function_number w = ap (λ (i : EffectKey). get_or_create_value_id i w) (sym z)

  -- no number is left
  -- "9 a fresh number is needed at next 512"
  pub linked_full : (w u : World lent) (n : ℕ) → get_or_create_value_id key w ≡ refused n u → linked ps f into k w ≡ refused n u
  unfolding linked
  linked_full w u n g = bind_fails _ _ _ _ _ (function_number _ ∙ g)

  -- the number is linked to the function
  pub linked_done : (w u : World lent) (vs ss : List ℕ) (ds es : ContextWords) (os : List ℕ) (r : Run) (v : ℕ) → get_or_create_value_id key w ≡ ok v (world vs ss ds os r)
      → es ≡ Lent.put_link ds v f → create into v (mk k 0) (world vs ss es os r) ≡ ok tt u → linked ps f into k w ≡ ok tt u
  unfolding linked link_to change
  linked_done w u vs ss ds es os r v g l c =
      bind_ok _ _ _ _ _ _ (function_number _ ∙ g) (then_ok _ _ _ _ _ _ (ap (λ (i : ContextWords). ok tt (world vs ss i os r)) (sym l)) c)

-- what comes after a link comes after the whole half
links_then : (ps : List Place) (f : ℕ) (into : Place) (k : ValueKind) (m : M (World lent) Done) (w : World lent)
    → (get_or_create_value_id (effect_key (CreateFunction ps f into)) >>= (λ v. link_to v f >> (create into v (mk k 0) >> m))) w ≡ and_then {A = Done} {B = Done} (linked ps f into k w) (λ _. m)
unfolding linked link_to change create State.initialize State.define State.point ◌>>◌ ◌>>=◌ and_then
links_then ps f into k m w = by (get_or_create_value_id (effect_key (CreateFunction ps f into)) w)
  where
    -- the number, or its refusal
    by : (i : Res (World lent) ℕ) → and_then {A = ℕ} {B = Done} i (λ v. link_to v f >> (create into v (mk k 0) >> m)) ≡ and_then {A = Done} {B = Done} (and_then {A = ℕ} {B = Done} i (λ v. link_to v f >> create into v (mk k 0))) (λ _. m)
    by (ok v u) = refl
    by (refused i u) = refl

-- it comes after what the code of that half answers
then_answers : (m : M (World lent) Done) (r : Result Done Refusal) (w : World lent) → and_then {A = Done} {B = Done} (comes r w) (λ _. m) ≡ answers r (λ _. m w) w
unfolding and_then
then_answers m (Ok a) w = refl
then_answers m (Err e) w = refl

-- a CreateFunction, before its captures are derived
module _ (ps : List Place) (f : ℕ) (into : Place) (again : AliasingEffect → M (World lent) Done) (w u : World lent) where
  -- the place already began
  pub function_refused : (n : ℕ) → begin into.identifier w ≡ refused n u → Step.creating_function again ps f into w ≡ refused n u
  unfolding Step.creating_function
  function_refused n e = then_fails _ _ _ _ _ e

  -- listed, its captures and context asked, its context places updated, its number linked
  -- what the kind goes by is asked before the context places change
  pub function_made : begin into.identifier w ≡ ok tt u → (l d x : World lent) (b t q : Bool) (k : ValueKind) (r : Result Done Refusal)
      → emit (effect_with (Head.CreateFunction f into) ps) u ≡ ok tt l
      → any_written ps l ≡ ok b l
      → t ≡ Lent.has_tracked_side_effect l.rest.context f
      → any_ref (Lent.context_of l.rest.context f) l.rest ≡ q
      → k ≡ function_kind b t q
      → each (Lent.context_of l.rest.context f) (update_context f) l ≡ ok tt d
      → linked ps f into k d ≡ comes r x
      → Step.creating_function again ps f into w ≡ answers r (λ _. each ps (λ c. again (Capture c into)) x) x
  unfolding Step.creating_function effect_with ask function_context
  function_made e l d x b t q k r g n i j o p z =
      then_ok _ _ _ _ _ _ e (then_ok _ _ _ _ _ _ g (bind_ok _ _ _ _ _ _ n (bind_ok _ _ _ _ _ _ refl
      (bind_ok _ _ _ _ _ _ (ap (λ (y : Bool). ok y l) (sym i)) (bind_ok _ _ _ _ _ _ (ap (λ (y : Bool). ok y l) j)
      (then_ok _ _ _ _ _ _ p
      (links_then ps f into (function_kind b t q) (each ps (λ c. again (Capture c into))) d
      ∙ ap (λ (y : Res (World lent) Done). and_then {A = Done} {B = Done} y (λ _. each ps (λ c. again (Capture c into)))) (ap (λ (y : ValueKind). linked ps f into y d) (sym o) ∙ z)
      ∙ then_answers (each ps (λ c. again (Capture c into))) r x)))))))

-- ---- the captures of the effect that stands for another

-- the effect was interned before
-- its captures are the record's
pub chosen_found : (c : ContextWords) (ws us : List ℕ) (ps : List Place) (f : Option ℕ) (j i : ℕ) → f ≡ Some j → i ≡ j → us ≡ copied_captures Layout.interned c.effects i ws → length ws ≡ 81 → captures_of us ≡ chosen c f ps
chosen_found c ws us ps f j i h e g b =
    ap captures_of g ∙ captures_copied Layout.interned c.effects i ws refl b ∙ ap (λ (n : ℕ). counted_places Layout.interned c.effects n 17) e ∙ sym (ap (λ (o : Option ℕ). chosen c o ps) h)

-- a new key
pub chosen_given : (c : ContextWords) (us : List ℕ) (ps : List Place) (f : Option ℕ) → f ≡ None → captures_of us ≡ ps → captures_of us ≡ chosen c f ps
chosen_given c us ps f h e = e ∙ sym (ap (λ (o : Option ℕ). chosen c o ps) h)
