-- Laws by which the code of an instruction meets the definition. Assumes nothing.
use Prim.Native.Nat.{ℕ, zero, suc, ◌+◌, ◌-◌, ◌*◌, ◌≤◌, ◌<◌}
use Rattle.std.specs.List.{list_any, range_with_len}
use Rattle.std.proofs.Common.{add-one, ◌∙◌}
use native.Mathlib.Omega.{arith}
use Rattle.std.specs.Prelude.{◌≡◌, Bool, true, false, ◌&&◌, ◌||◌}
use Rattle.std.proofs.Math.Path.{refl, sym, ap, ap₂}
use mathlib.Core.List.{List}
use Rattle.std.proofs.Math.Dec.{eqb}
use Rattle.std.proofs.Math.ListN.{length}
use Rattle.base_tests.proofs.Laws.Bool.{and_true, and_false}
use Rattle.def_kinds.specs.declared.AbstractValue.{AbstractValue}
use Rattle.def_kinds.specs.Kinds.{is_frozen}
use Rattle.def_kinds.specs.Values.{default}
use Rattle.def_effects.specs.declared.Place.{Place}
use Rattle.def_effects.specs.declared.AliasingDiagnostic.{AliasingDiagnostic}
use Rattle.def_effects.specs.Places.{identifiers}
use Rattle.def_effects.specs.Effects.{AliasingEffect, MutateFrozen}
use Rattle.def_effects.specs.declared.Diagnostic.{Diagnostic}
use Rattle.def_transfer.specs.Monad.{Res, ok, refused, M, Done, and_then, ◌>>=◌, ◌>>◌, done, when◌then◌else◌, each}
use Rattle.def_transfer.specs.Tables.{World}
use Rattle.def_transfer.specs.State as State
use Rattle.def_transfer.specs.State.{kind_of}
use Rattle.base_tests.specs.Tests.{is_some}
use Rattle.def_transfer.specs.Context as Context
use Rattle.def_transfer.specs.Step as Step
use Rattle.def_transfer.specs.Instruction as Instruction
use Rattle.lent_values.specs.Cells.{value_at, put_value}
use Rattle.lent_sets.specs.Rows.{set_at}
use Rattle.state_ops.specs.Lists.{own_sets}
use Rattle.lent_tables.specs.Words.{field, place_in, places_in}
use Rattle.lent_tables.proofs.Laws.Word.{places_more, places_none}
use Rattle.lent_effects.specs.declared.AliasingEffect.{AliasingEffect as Head}
use Rattle.lent_effects.specs.Records.{effect_in, effect_with, head_in, captures_of, copied_captures, counted_places}
use Rattle.lent_effects.proofs.Laws.Capture.{captures_copied, places_copied}
use Rattle.lent_work.specs.declared.Run.{Run}
use Rattle.lent_layout.specs.Layout as Layout
use Rattle.lent_layout.specs.Context.{ContextWords}
use Rattle.lent_context.specs.Lent as Lent
use Rattle.lent_context.specs.Lent.{effects_in}
use Rattle.lent_context.proofs.Laws.Search.{effects_more, effects_none}
use Rattle.laws_monad.proofs.Laws.Answers.{bind_ok, bind_fails, then_ok, then_fails, if_true, if_false, done_ok}
use Rattle.laws_monad.proofs.Laws.Each.{each_ok, each_fails, each_done}
use Rattle.lent_world.specs.World.{lent, world}
use Rattle.call_parts.specs.Instructions.{instruction_of, inside_places, copied_inside}
use Rattle.def_transfer.specs.Instruction.{own_of}
use Rattle.lent_layout.specs.Layout.{candidate_table, inside_run}

-- ---- an identifier among the context places of a function

module _ (c : ContextWords) (f i : ℕ) where
  -- a search of the places from one on finds the identifier where it is among theirs
  near_from : (n a : ℕ) → list_any (λ k. eqb i (field Layout.contexts c.contexts f (k * 5))) (range_with_len a n) ≡ Instruction.has i (identifiers (places_in Layout.contexts c.contexts f 0 a n))
  unfolding Instruction.has places_in place_in
  near_from zero a = refl
  near_from (suc n) a =
      let z : a * 5 ≡ 0 + a * 5 = omega arith in
      ap₂ (λ (x : ℕ) (b : Bool). eqb i (field Layout.contexts c.contexts f x) || b) z
      (ap (λ (y : ℕ). list_any (λ k. eqb i (field Layout.contexts c.contexts f (k * 5))) (range_with_len y n)) (add-one a) ∙ near_from n (suc a))

  -- all places of a function are its context
  pub near_is : (n : ℕ) → n ≡ field Layout.functions c.functions f 1 → list_any (λ k. eqb i (field Layout.contexts c.contexts f (k * 5))) (range_with_len 0 n) ≡ Instruction.has i (identifiers (Lent.context_of c f))
  unfolding Lent.context_of
  near_is n e = near_from n 0 ∙ ap (λ (m : ℕ). Instruction.has i (identifiers (places_in Layout.contexts c.contexts f 0 0 m))) e

-- ---- a place that the own function mutates inside

-- one place in a world
-- the definition tests all at once, the code one after the other
module _ (w : World lent) (p : Place) where
  -- the definition looks at the place and its name, and tests
  report_tests : (a : AbstractValue) (name : ℕ) → a ≡ kind_of (value_at w.state.values) (set_at w.state.sets p.identifier) → name ≡ Lent.name_of w.rest.context p.identifier
      → Instruction.report_early p w ≡ (when is_some (set_at w.state.sets p.identifier) && is_frozen a.kind then (Context.intern_diagnostic (Step.modified p name a) >>= λ d. Context.emit (MutateFrozen p d)) else done) w
  unfolding Instruction.report_early State.set_of State.peek State.ask ◌>>=◌ and_then
  report_tests a name e g =
      ap₂ (λ (x : AbstractValue) (y : ℕ). (when is_some (set_at w.state.sets p.identifier) && is_frozen x.kind then (Context.intern_diagnostic (Step.modified p y x) >>= λ d. Context.emit (MutateFrozen p d)) else done) w) (sym e) (sym g)

  -- what the set of the place says
  module _ (b : Bool) (s : b ≡ is_some (set_at w.state.sets p.identifier)) where
    -- an undefined place
    pub report_undefined : b ≡ false → Instruction.report_early p w ≡ ok tt w
    report_undefined h =
        report_tests (kind_of (value_at w.state.values) (set_at w.state.sets p.identifier)) (Lent.name_of w.rest.context p.identifier) refl refl
        ∙ if_false _ _ _ _ _ (ap (λ (x : Bool). x && is_frozen (kind_of (value_at w.state.values) (set_at w.state.sets p.identifier)).kind) (sym s ∙ h)) (done_ok w)

    -- a defined place
    module _ (h : b ≡ true) (a : AbstractValue) (g : a ≡ kind_of (value_at w.state.values) (set_at w.state.sets p.identifier)) (y : Bool) (v : y ≡ is_frozen a.kind) where
      -- a place that is not Frozen
      pub report_other : y ≡ false → Instruction.report_early p w ≡ ok tt w
      report_other q =
          report_tests a (Lent.name_of w.rest.context p.identifier) g refl
          ∙ if_false _ _ _ _ _ (and_false (is_some (set_at w.state.sets p.identifier)) (is_frozen a.kind) (sym v ∙ q)) (done_ok w)

      -- a Frozen place is reported
      module _ (q : y ≡ true) (name : ℕ) (m : name ≡ Lent.name_of w.rest.context p.identifier) (x : Diagnostic) (k : x ≡ Step.modified p name a) where
        -- what the tests leave to do, with the diagnostic of this place
        report_rest : (t : Res (World lent) Done) → (Context.intern_diagnostic x >>= λ d. Context.emit (MutateFrozen p d)) w ≡ t → Instruction.report_early p w ≡ t
        report_rest t j =
            report_tests a name g m
            ∙ if_true _ _ _ _ _ (and_true (is_some (set_at w.state.sets p.identifier)) (is_frozen a.kind) (sym s ∙ h) (sym v ∙ q))
            (ap (λ (z : Diagnostic). (Context.intern_diagnostic z >>= λ d. Context.emit (MutateFrozen p d)) w) (sym k) ∙ j)

        -- no number is left
        pub report_refused : (z : ℕ) (u : World lent) → Context.intern_diagnostic x w ≡ refused z u → Instruction.report_early p w ≡ refused z u
        report_refused z u j = report_rest _ (bind_fails _ _ z _ _ j)

        -- a MutateFrozen is listed
        pub report_lists : (d : AliasingDiagnostic) (u : World lent) → Context.intern_diagnostic x w ≡ ok d u
            → (cs : List Place) (t : World lent) → Context.emit (effect_with (Head.MutateFrozen p d) cs) u ≡ ok tt t → Instruction.report_early p w ≡ ok tt t
        unfolding effect_with
        report_lists d u j cs t i = report_rest _ (bind_ok _ _ _ _ _ _ j i)

  -- whether the place is of the own function's context
  module _ (f : ℕ) (b : Bool) (e : b ≡ Instruction.has p.identifier (identifiers (Lent.context_of w.rest.context f))) where
    -- a place of the function itself
    pub early_far : b ≡ false → Instruction.early_error f p w ≡ ok tt w
    unfolding Instruction.early_error State.ask Context.function_context
    early_far h = bind_ok _ _ _ _ _ _ refl (if_false _ _ _ _ _ (sym e ∙ h) (done_ok w))

    -- a place from outside
    pub early_near : (y : Res (World lent) Done) → b ≡ true → Instruction.report_early p w ≡ y → Instruction.early_error f p w ≡ y
    unfolding Instruction.early_error State.ask Context.function_context
    early_near y h g = bind_ok _ _ _ _ _ _ refl (if_true _ _ _ _ _ (sym e ∙ h) g)

-- ---- the places that a function mutates inside were copied

-- the places of a slice that they were copied to are those that the function mutates inside
inside_copied : (c : ContextWords) (f : ℕ) (ws : List ℕ) → length ws ≡ 161 → inside_places (copied_inside c f ws) ≡ Lent.mutated_inside c f
unfolding Lent.mutated_inside copied_inside
inside_copied c f ws b = places_copied Layout.functions c.functions f 3 160 161 ws (field Layout.functions c.functions f 2) refl b refl

-- ---- each of these places

-- what a loop over the places has still to do
-- from the loop's own start
module _ (act : Place → M (World lent) Done) (ws : List ℕ) where
  -- all places of the slice
  pub places_start : (n : ℕ) (w : World lent) → n ≡ field inside_run ws 0 0 → each (inside_places ws) act w ≡ each (places_in inside_run ws 0 1 0 (n - 0)) act w
  unfolding counted_places
  places_start n w e = let z : n - 0 ≡ n = omega arith in ap (λ (m : ℕ). each (places_in inside_run ws 0 1 0 m) act w) (sym e ∙ sym z)

  -- one place
  module _ (n k : ℕ) (p : Place) (w : World lent) (h : k < n) (e : p ≡ place_in inside_run ws 0 (1 + k * 5)) where
    -- it goes on
    pub places_next : (u : World lent) → act p w ≡ ok tt u → each (places_in inside_run ws 0 1 k (n - k)) act w ≡ each (places_in inside_run ws 0 1 (k + 1) (n - (k + 1))) act u
    places_next u s = each_ok act _ _ _ w u (places_more inside_run ws 0 1 k n h) (ap (λ (q : Place). act q w) (sym e) ∙ s)

    -- it is refused
    pub places_stop : (m : ℕ) (u : World lent) → act p w ≡ refused m u → each (places_in inside_run ws 0 1 k (n - k)) act w ≡ refused m u
    places_stop m u s = each_fails act _ _ _ m w u (places_more inside_run ws 0 1 k n h) (ap (λ (q : Place). act q w) (sym e) ∙ s)

  -- no place is left
  -- the loop's end is the whole
  pub places_end : (n k : ℕ) (w : World lent) → n ≤ k → each (places_in inside_run ws 0 1 k (n - k)) act w ≡ ok tt w
  places_end n k w h = each_done act _ w (places_none inside_run ws 0 1 k n h)

-- ---- the early errors of the own function

-- no own function
pub own_none : (own : ℕ) (w : World lent) → own ≡ 0 → Instruction.early_errors (own_of own) w ≡ ok tt w
unfolding Instruction.early_errors
own_none zero w h = done_ok w
own_none (suc f) w h = absurd (omega arith)

-- an own function
-- the places of the copy are those that it mutates inside
pub own_some : (w : World lent) (own f : ℕ) (ws us : List ℕ) (y : Res (World lent) Done) → (own ≡ 0 → ⊥) → f ≡ own - 1 → length ws ≡ 161 → us ≡ copied_inside w.rest.context f ws
    → each (inside_places us) (Instruction.early_error f) w ≡ y → Instruction.early_errors (own_of own) w ≡ y
unfolding Instruction.early_errors State.ask
own_some w zero f ws us y n m b e h = absurd (n refl)
own_some w (suc g) f ws us y n m b e h =
    let z : g ≡ f = omega arith in
    bind_ok _ _ _ _ _ _ refl
    (ap (λ (x : ℕ). each (Lent.mutated_inside w.rest.context x) (Instruction.early_error x) w) z
    ∙ ap (λ (l : List Place). each l (Instruction.early_error f) w) (sym (ap inside_places e ∙ inside_copied w.rest.context f ws b)) ∙ h)

-- ---- the candidates

-- what is done for each candidate, and the records
-- it is the step at depth 4
module _ (act : AliasingEffect → M (World lent) Done) (xs : List ℕ) where
  -- a candidate is its head and its captures, which were copied
  pub candidate_is : (k i j : ℕ) (e : Head) (ws us : List ℕ) (w : World lent) (y : Res (World lent) Done) → i ≡ k → e ≡ head_in candidate_table xs i → j ≡ k → us ≡ copied_captures candidate_table xs j ws → length ws ≡ 81
      → act (effect_with e (captures_of us)) w ≡ y → act (effect_in candidate_table xs k) w ≡ y
  unfolding effect_in
  candidate_is k i j e ws us w y p g q u b h =
      ap₂ (λ (x : Head) (l : List Place). act (effect_with x l) w)
      (sym (g ∙ ap (head_in candidate_table xs) p))
      (sym (ap captures_of u ∙ ap (λ (m : ℕ). captures_of (copied_captures candidate_table xs m ws)) q ∙ captures_copied candidate_table xs k ws refl b))
      ∙ h

  -- all candidates
  pub candidates_start : (n : ℕ) (w : World lent) → each (effects_in candidate_table xs 0 n) act w ≡ each (effects_in candidate_table xs 0 (n - 0)) act w
  candidates_start n w = let z : n ≡ n - 0 = omega arith in ap (λ (m : ℕ). each (effects_in candidate_table xs 0 m) act w) z

  -- one candidate
  module _ (n k : ℕ) (w : World lent) (h : k < n) where
    -- it goes on
    pub candidates_next : (u : World lent) → act (effect_in candidate_table xs k) w ≡ ok tt u → each (effects_in candidate_table xs k (n - k)) act w ≡ each (effects_in candidate_table xs (k + 1) (n - (k + 1))) act u
    candidates_next u s = each_ok act _ _ _ w u (effects_more candidate_table xs k n h) s

    -- it is refused
    pub candidates_stop : (m : ℕ) (u : World lent) → act (effect_in candidate_table xs k) w ≡ refused m u → each (effects_in candidate_table xs k (n - k)) act w ≡ refused m u
    candidates_stop m u s = each_fails act _ _ _ m w u (effects_more candidate_table xs k n h) s

  -- no candidate is left
  -- the loop's end is the whole
  pub candidates_end : (n k : ℕ) (w : World lent) → n ≤ k → each (effects_in candidate_table xs k (n - k)) act w ≡ ok tt w
  candidates_end n k w h = each_done act _ w (effects_none candidate_table xs k n h)

-- ---- the lvalue

-- what the set of the lvalue says
module _ (vs ss : List ℕ) (cs : ContextWords) (os : List ℕ) (r : Run) (i : ℕ) (b : Bool) (e : b ≡ is_some (set_at ss i)) where
  -- a defined lvalue
  pub lvalue_stays : b ≡ true → Instruction.define_lvalue i (world vs ss cs os r) ≡ ok tt (world vs ss cs os r)
  unfolding Instruction.define_lvalue State.set_of
  lvalue_stays h = bind_ok _ _ _ _ _ _ refl (if_true _ _ _ _ _ (sym e ∙ h) (done_ok (world vs ss cs os r)))

  -- an undefined lvalue gets its own value
  pub lvalue_own : (x : ℕ) (a : AbstractValue) (us ts : List ℕ) → b ≡ false → x ≡ i → a ≡ default → us ≡ put_value vs (512 + x) a → ts ≡ own_sets ss i i
      → Instruction.define_lvalue i (world vs ss cs os r) ≡ ok tt (world us ts cs os r)
  unfolding Instruction.define_lvalue State.set_of State.initialize State.define State.point own_sets ◌>>◌ ◌>>=◌ and_then
  lvalue_own x a us ts h p d g t =
      if_false _ _ _ _ _ (sym e ∙ h)
      (ap₂ (λ (y z : List ℕ). ok tt (world y z cs os r)) (sym (g ∙ ap₂ (λ (n : ℕ) (v : AbstractValue). put_value vs (512 + n) v) p d)) (sym t))

-- ---- the whole run

-- an instruction as it is lent, and its early errors
module _ (xs : List ℕ) (n : ℕ) (p : Place) (own : ℕ) (w : World lent) where
  -- an early error is refused
  pub run_early : (m : ℕ) (u : World lent) → Instruction.early_errors (own_of own) w ≡ refused m u → Instruction.run (instruction_of xs n p own) w ≡ refused m u
  unfolding Instruction.run instruction_of
  run_early m u e = then_fails _ _ _ _ _ e

  -- the early errors are done
  module _ (u : World lent) (e : Instruction.early_errors (own_of own) w ≡ ok tt u) where
    -- a candidate is refused
    pub run_stops : (m : ℕ) (v : World lent) → each (effects_in candidate_table xs 0 n) (Step.apply_effect 4) u ≡ refused m v → Instruction.run (instruction_of xs n p own) w ≡ refused m v
    unfolding Instruction.run instruction_of
    run_stops m v g = then_ok _ _ _ _ _ _ e (then_fails _ _ _ _ _ g)

    -- the lvalue is defined and the entries are kept
    pub run_ends : (v x y : World lent) → each (effects_in candidate_table xs 0 n) (Step.apply_effect 4) u ≡ ok tt v → Instruction.define_lvalue p.identifier v ≡ ok tt x
        → State.change Instruction.keep_entries x ≡ ok tt y → Instruction.run (instruction_of xs n p own) w ≡ ok tt y
    unfolding Instruction.run instruction_of
    run_ends v x y g d m = then_ok _ _ _ _ _ _ e (then_ok _ _ _ _ _ _ g (then_ok _ _ _ _ _ _ d m))
