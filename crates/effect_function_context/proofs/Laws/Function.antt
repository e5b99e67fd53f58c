-- Laws by which the code meets the definition. Assumes nothing.
use Prim.Native.Nat.{ℕ, zero, suc, ◌+◌, ◌-◌, ◌*◌, ◌≤◌, ◌<◌}
use Rattle.std.proofs.Common.{add-one, ◌∙◌, eq-eqb, ne_eqb}
use native.Mathlib.Omega.{arith}
use Rattle.std.specs.Prelude.{◌≡◌, Bool, true, false, ◌&&◌, ◌||◌}
use Rattle.std.proofs.Math.Path.{refl, sym, ap, ap₂}
use mathlib.Core.List.{List, ◌∷◌}
use Rattle.std.proofs.Math.Dec.{eqb}
use Rattle.std.proofs.Math.ListN.{length}
use Rattle.std.specs.List.{list_any, range_with_len}
use Rattle.base_tests.proofs.Laws.Bool.{and_false}
use Rattle.def_kinds.specs.declared.AbstractValue.{AbstractValue}
use Rattle.def_kinds.specs.Kinds.{copied, is_frozen}
use Rattle.def_effects.specs.declared.Place.{Place}
use Rattle.def_transfer.specs.Monad.{ok, and_then, ◌>>=◌, return, done, when◌then◌else◌, each}
use Rattle.def_transfer.specs.State as State
use Rattle.def_transfer.specs.State.{kind_of, change}
use Rattle.base_tests.specs.Tests.{is_some}
use Rattle.def_transfer.specs.Context as Context
use Rattle.def_transfer.specs.Step as Step
use Rattle.lent_values.specs.Cells.{value_at}
use Rattle.lent_sets.specs.Rows.{set_at}
use Rattle.lent_tables.specs.Words.{field, place_in, places_in}
use Rattle.lent_tables.proofs.Laws.Word.{places_more, places_none}
use Rattle.lent_effects.specs.Records.{captures_of, counted_places}
use Rattle.lent_effects.proofs.Laws.Capture.{places_copied}
use Rattle.lent_work.specs.declared.Run.{Run}
use Rattle.lent_layout.specs.Layout as Layout
use Rattle.lent_layout.specs.Context.{ContextWords}
use Rattle.lent_context.specs.Lent as Lent
use Rattle.laws_monad.proofs.Laws.Answers.{if_true, if_false}
use Rattle.laws_monad.proofs.Laws.Each.{each_ok, each_done}
use Rattle.def_transfer.specs.Tables.{World}
use Rattle.lent_world.specs.World.{lent, world}
use Rattle.effect_function_context.specs.Functions.{copied_context, becomes_read}
use Rattle.lent_layout.specs.Layout.{one_run}

-- ---- context places that are refs

module _ (w : World lent) (f : ℕ) where
  -- whether the place of a number is one
  abbrev pub ref_at : ℕ → Bool
  ref_at k = Lent.is_ref w.rest.context (field Layout.contexts w.rest.context.contexts f (k * 5))

  -- a search of the places from one on finds what the definition does
  ref_from : (n a : ℕ) → list_any ref_at (range_with_len a n) ≡ Step.any_ref (places_in Layout.contexts w.rest.context.contexts f 0 a n) w.rest
  unfolding Step.any_ref place_in places_in
  ref_from zero a = refl
  ref_from (suc n) a =
      let z : a * 5 ≡ 0 + a * 5 = omega arith in
      ap₂ (λ (x : ℕ) (b : Bool). Lent.is_ref w.rest.context (field Layout.contexts w.rest.context.contexts f x) || b) z
      (ap (λ (y : ℕ). list_any ref_at (range_with_len y n)) (add-one a) ∙ ref_from n (suc a))

  -- all places of a function are its context
  pub ref_found : (n : ℕ) (r : Bool) → n ≡ field Layout.functions w.rest.context.functions f 1 → r ≡ list_any ref_at (range_with_len 0 n) → Step.any_ref (Lent.context_of w.rest.context f) w.rest ≡ r
  unfolding Lent.context_of
  ref_found n r e h = ap (λ (m : ℕ). Step.any_ref (places_in Layout.contexts w.rest.context.contexts f 0 0 m) w.rest) (sym e) ∙ sym (h ∙ ref_from n 0)

-- ---- context places that were copied are read

-- the places of a slice that a function's context was copied to are that context
context_copied : (c : ContextWords) (f : ℕ) (ws : List ℕ) → length ws ≡ 81 → captures_of (copied_context c f ws) ≡ Lent.context_of c f
unfolding Lent.context_of copied_context
context_copied c f ws b = places_copied Layout.contexts c.contexts f 0 80 81 ws (field Layout.functions c.functions f 1) refl b refl

-- ---- a Capture context place becomes Read

-- whether one does
-- the definition tests all at once, the code one after the other
module _ (vs ss : List ℕ) (p : Place) where
  -- a place that is no Capture
  pub read_other : (p.effect ≡ 3 → ⊥) → false ≡ becomes_read vs ss p
  unfolding becomes_read
  read_other n = sym (ap (λ (x : Bool). x && (is_some (set_at ss p.identifier) && (copied (kind_of (value_at vs) (set_at ss p.identifier)).kind || is_frozen (kind_of (value_at vs) (set_at ss p.identifier)).kind))) (ne_eqb p.effect 3 n))

  -- a Capture of a place that is not defined, or of one that is
  module _ (e : p.effect ≡ 3) (b : Bool) (s : b ≡ is_some (set_at ss p.identifier)) where
    pub read_undefined : b ≡ false → false ≡ becomes_read vs ss p
    unfolding becomes_read
    read_undefined h =
        sym (and_false (eqb p.effect 3) _
        (ap (λ (x : Bool). x && (copied (kind_of (value_at vs) (set_at ss p.identifier)).kind || is_frozen (kind_of (value_at vs) (set_at ss p.identifier)).kind)) (sym s ∙ h)))

    module _ (h : b ≡ true) (a : AbstractValue) (g : a ≡ kind_of (value_at vs) (set_at ss p.identifier)) (x : Bool) (u : x ≡ copied a.kind) where
      tested : (y : Bool) → y ≡ (copied a.kind || is_frozen a.kind) → y ≡ becomes_read vs ss p
      unfolding becomes_read
      tested y t =
          t ∙ ap (λ (z : AbstractValue). copied z.kind || is_frozen z.kind) g
          ∙ ap₂ (λ (z w : Bool). z && (w && (copied (kind_of (value_at vs) (set_at ss p.identifier)).kind || is_frozen (kind_of (value_at vs) (set_at ss p.identifier)).kind))) (sym (eq-eqb p.effect 3 e)) (sym h ∙ s)

      -- Primitive or Global
      pub read_copied : x ≡ true → x ≡ becomes_read vs ss p
      read_copied t = tested x (t ∙ ap (λ (z : Bool). z || is_frozen a.kind) (sym t ∙ u))

      -- and neither: Frozen, or any other kind
      pub read_frozen : x ≡ false → (y : Bool) → y ≡ is_frozen a.kind → y ≡ becomes_read vs ss p
      read_frozen t y q = tested y (q ∙ ap (λ (z : Bool). z || is_frozen a.kind) (sym t ∙ u))

-- one place of a function
module _ (vs ss : List ℕ) (c : ContextWords) (os : List ℕ) (r : Run) (f : ℕ) (p : Place) (b : Bool) (e : b ≡ becomes_read vs ss p) where
  -- the definition looks at the place and tests, and no more
  update_tests : Step.update_context f p (world vs ss c os r) ≡ (when b then Context.make_read f p.identifier else done) (world vs ss c os r)
  unfolding Step.update_context State.set_of State.peek becomes_read ◌>>=◌ and_then
  update_tests = ap (λ (x : Bool). (when x then Context.make_read f p.identifier else done) (world vs ss c os r)) (sym e)

  -- a test failed
  pub update_stays : b ≡ false → Step.update_context f p (world vs ss c os r) ≡ ok tt (world vs ss c os r)
  unfolding done return
  update_stays h = update_tests ∙ if_false _ _ _ _ _ h refl

  -- all tests passed
  pub update_reads : (d : ContextWords) → b ≡ true → d ≡ Lent.make_read c f p.identifier → Step.update_context f p (world vs ss c os r) ≡ ok tt (world vs ss d os r)
  unfolding Context.make_read change
  update_reads d h g = update_tests ∙ if_true _ _ _ _ _ h (ap (λ (x : ContextWords). ok tt (world vs ss x os r)) (sym g))

-- ---- and so each of some places

-- what a loop over the places has still to do
-- from the loop's own start
pub record Updates (w₀ w : World lent) (f : ℕ) (ws : List ℕ) (n k : ℕ) : Type 0 where
  pub equal : each (places_in one_run ws 0 1 0 (n - 0)) (Step.update_context f) w₀ ≡ each (places_in one_run ws 0 1 k (n - k)) (Step.update_context f) w

-- nothing is done yet
pub updates_start : (w : World lent) (f : ℕ) (ws : List ℕ) (n : ℕ) → Updates w w f ws n 0
updates_start w f ws n = record { equal = refl }

-- from what the loop holds
module _ (w₀ w : World lent) (f : ℕ) (ws : List ℕ) (n k : ℕ) (a : Updates w₀ w f ws n k) where
  -- one place is done
  pub updates_more : (p : Place) (u : World lent) → k < n → p ≡ place_in one_run ws 0 (1 + k * 5) → Step.update_context f p w ≡ ok tt u → Updates w₀ u f ws n (k + 1)
  updates_more p u h g e = record {
    equal = a.equal ∙ each_ok (Step.update_context f) p _ _ w u (places_more one_run ws 0 1 k n h ∙ ap (λ (q : Place). q ∷ places_in one_run ws 0 1 (k + 1) (n - (k + 1))) (sym g)) e;
  }

  -- no place is left
  -- the loop's end is the whole
  pub updates_end : n ≡ field one_run ws 0 0 → n ≤ k → each (captures_of ws) (Step.update_context f) w₀ ≡ ok tt w
  unfolding counted_places
  updates_end e h =
      let z : n - 0 ≡ n = omega arith in
      ap (λ (l : List Place). each l (Step.update_context f) w₀) (sym (ap (places_in one_run ws 0 1 0) (z ∙ e))) ∙ a.equal ∙ each_done (Step.update_context f) _ w (places_none one_run ws 0 1 k n h)

-- the places of a copy are the context that was copied
-- what is done for each of them is done for the context
pub updates_context : (w u : World lent) (f : ℕ) (ws us : List ℕ) → length ws ≡ 81 → us ≡ copied_context w.rest.context f ws
    → each (captures_of us) (Step.update_context f) w ≡ ok tt u → each (Lent.context_of w.rest.context f) (Step.update_context f) w ≡ ok tt u
updates_context w u f ws us b e h = ap (λ (l : List Place). each l (Step.update_context f) w) (sym (ap captures_of e ∙ context_copied w.rest.context f ws b)) ∙ h
