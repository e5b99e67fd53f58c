-- Laws by which the code of the walk meets the definition. Assumes nothing.
use Rattle.std.specs.Prelude.{ℕ, zero, suc, ◌+◌, ◌-◌, ◌*◌, ◌≤◌, ◌<◌, ◌≡◌, Bool, ◌&&◌, Option, None, Some}
use native.Mathlib.Omega.{arith}
use Rattle.std.proofs.Common.{add-one, ap₂, ◌∙◌}
use Rattle.std.proofs.Math.Path.{refl, sym, ap}
use Rattle.std.proofs.Math.Bool.{true, false}
use mathlib.Core.List.{List, [], ◌∷◌}
use Rattle.std.proofs.lemmas.Option.{none-some}
use Rattle.base_tests.specs.Tests.{ite, is_some}
use Rattle.def_kinds.specs.declared.AbstractValue.{AbstractValue}
use Rattle.def_kinds.specs.Kinds.{freezable}
use Rattle.def_effects.specs.declared.Place.{Place}
use Rattle.def_transfer.specs.Monad.{Res, ok, refused, M, Done, and_then, ◌>>=◌, return, refuse, when◌then◌else◌, each}
use Rattle.def_transfer.specs.Tables.{World}
use Rattle.def_transfer.specs.State.{kind_of, ask, change, set_of, peek, initialize, freeze_value, to_freeze}
use Rattle.base_sets.specs.Members.{values_of}
use Rattle.def_transfer.specs.Context.{function_context, linked_context, count_entry}
use Rattle.def_transfer.specs.Walk.{freeze_and_enter, enter_place, enter_context, freeze_function_captures_transitive}
use Rattle.lent_values.specs.Cells.{value_at}
use Rattle.lent_sets.specs.Rows.{set_at, left, row_number}
use Rattle.lent_sets.proofs.Laws.Row.{none_of}
use Rattle.lent_members.specs.Members.{member_from}
use Rattle.lent_members.proofs.Laws.Members.{all_left, some_left, none_left}
use Rattle.state_ops.specs.Lists.{frozen, freezes}
use Rattle.lent_tables.specs.Words.{field, place_in, places_in}
use Rattle.lent_tables.proofs.Laws.Word.{places_more, places_none}
use Rattle.lent_layout.specs.Layout as Layout
use Rattle.lent_layout.specs.declared.Context.{Context}
use Rattle.lent_layout.specs.Context.{ContextWords, held}
use Rattle.lent_context.specs.Lent.{link_of, context_of}
use Rattle.lent_work.specs.declared.Run.{Run}
use Rattle.laws_monad.proofs.Laws.Answers.{bind_ok, then_ok, then_fails, if_le, if_gt}
use Rattle.laws_monad.proofs.Laws.Each.{each_ok, each_fails, each_done}
use Rattle.lent_world.specs.World.{lent, world, one_more}
use Rattle.lent_world.specs.declared.World.{World as Lent}
use Rattle.lent_world.specs.Promise.{seen}
use Rattle.effect_walk.specs.Walks.{value_from, Walked}

-- ---- the small functions

pub opens_not : (vs ss : List ℕ) (i : ℕ) (b : Bool) → b ≡ is_some (set_at ss i) → b ≡ false → false ≡ freezes vs ss i
unfolding freezes
opens_not vs ss i b e h = sym (ap (λ (x : Bool). x && freezable (kind_of (value_at vs) (set_at ss i)).kind) (sym e ∙ h))

pub opens_is : (vs ss : List ℕ) (i : ℕ) (b r : Bool) (a : AbstractValue) → b ≡ is_some (set_at ss i) → b ≡ true → a ≡ kind_of (value_at vs) (set_at ss i) → r ≡ freezable a.kind → r ≡ freezes vs ss i
unfolding freezes
opens_is vs ss i b r a e h g f = f ∙ ap (λ (x : AbstractValue). freezable x.kind) g ∙ sym (ap (λ (x : Bool). x && freezable (kind_of (value_at vs) (set_at ss i)).kind) (sym e ∙ h))

-- ---- an entry is counted

count_full : (w : World lent) → 4096 ≤ w.rest.work.freeze_entries → count_entry w ≡ refused 11 w
unfolding count_entry ask refuse
count_full w h = bind_ok _ _ _ _ _ _ refl (if_le 4096 w.rest.work.freeze_entries _ _ _ _ h refl)

-- what is lent, with one entry more
abbrev counted : Lent → ℕ → ℕ → Lent
counted w n a = record {
  values = w.values;
  sets = w.sets;
  context = w.context;
  output = w.output;
  run = record { session = w.run.session; flag = w.run.flag; marks = w.run.marks; listed = w.run.listed; freeze = n; entries = a };
}

count_one : (w : Lent) (a : ℕ) → w.run.freeze < 4096 → a ≡ one_more w.run.entries → count_entry (seen w) ≡ ok tt (seen (counted w (w.run.freeze + 1) a))
unfolding count_entry ask change
count_one w a h e = bind_ok _ _ _ _ _ _ refl (if_gt 4096 w.run.freeze _ _ _ _ h (ap₂ (λ (x y : ℕ). ok tt (seen (counted w x y))) (sym (add-one w.run.freeze)) (sym e)))

-- ---- entering at any depth: refused when the entries are used up, else counted

depth_none : (w : World lent) (reason v : ℕ) → 4096 ≤ w.rest.work.freeze_entries → (d : ℕ) → freeze_function_captures_transitive d reason v w ≡ refused 11 w
unfolding freeze_function_captures_transitive refuse
depth_none w reason v h zero = refl
depth_none w reason v h (suc d) = then_fails _ _ _ _ _ (count_full w h)

depth_more : (w u : World lent) (reason v d : ℕ) → count_entry w ≡ ok tt u → freeze_function_captures_transitive (suc d) reason v w ≡ enter_context (freeze_function_captures_transitive d reason) reason v u
unfolding freeze_function_captures_transitive
depth_more w u reason v d h = then_ok _ _ _ _ _ _ h refl

-- a depth from the entries still allowed on is a successor while one is allowed
deeper : (P : ℕ → Type 0) (made d : ℕ) → made < 4096 → 4096 - made ≤ d → ((n : ℕ) → 4096 - (made + 1) ≤ n → P (suc n)) → P d
deeper P made zero h l k = absurd (omega arith)
deeper P made (suc d) h l k = k d (omega arith)

-- the last entry was made before
-- "11 the walk of one Freeze would make its 4,097th entry"
pub enters_none : (w : Lent) (reason v : ℕ) → 4096 ≤ w.run.freeze → (d : ℕ) → 4096 - w.run.freeze ≤ d → freeze_function_captures_transitive d reason v (seen w) ≡ refused 11 (seen w)
enters_none w reason v h d l = depth_none (seen w) reason v h d

module _ (F : ℕ → M (World lent) Done) (reason : ℕ) where
  -- the context that is looked at
  context_none : (w : World lent) (v : ℕ) → link_of w.rest.context v ≡ None → enter_context F reason v w ≡ ok tt w
  unfolding enter_context ask linked_context
  context_none w v e =
      bind_ok _ _ _ _ _ _ refl
      (each_done (enter_place F reason) _ w (ap (λ (o : Option ℕ). elim o as (λ x. List Place) [ None ↦ [] | Some f ↦ function_context f w.rest ]) e))

  context_some : (w : World lent) (v f n : ℕ) → link_of w.rest.context v ≡ Some f → n ≡ field Layout.functions w.rest.context.functions f 1
      → enter_context F reason v w ≡ each (places_in Layout.contexts w.rest.context.contexts f 0 0 (n - 0)) (enter_place F reason) w
  unfolding enter_context ask linked_context function_context context_of
  context_some w v f n e g =
      let z : n - 0 ≡ n = omega arith in
      bind_ok _ _ _ _ _ _ refl
      (ap (λ (o : Option ℕ). each (elim o as (λ x. List Place) [ None ↦ [] | Some f ↦ places_in Layout.contexts w.rest.context.contexts f 0 0 (field Layout.functions w.rest.context.functions f 1) ]) (enter_place F reason) w) e
      ∙ ap (λ (m : ℕ). each (places_in Layout.contexts w.rest.context.contexts f 0 0 m) (enter_place F reason) w) (sym g ∙ sym z))

  -- ---- a place of the context

  to_freeze_is : (w : World lent) (i : ℕ) (b : Bool) → b ≡ freezes w.state.values w.state.sets i → to_freeze i w ≡ ok (ite b (set_at w.state.sets i) None) w
  unfolding to_freeze set_of peek freezes return when◌then◌else◌ ◌>>=◌ and_then
  to_freeze_is w i b e = go (is_some (set_at w.state.sets i) && freezable (kind_of (value_at w.state.values) (set_at w.state.sets i)).kind) ∙ ap (λ (x : Bool). ok (ite x (set_at w.state.sets i) None) w) (sym e)
    where
      go : (x : Bool) → (elim x as (λ y. Res (World lent) (Option ℕ)) [ true ↦ ok (set_at w.state.sets i) w | false ↦ ok None w ]) ≡ ok (ite x (set_at w.state.sets i) None) w
      go true = refl
      go false = refl

  module _ (w : World lent) (p : Place) (i : ℕ) (b : Bool) (q : p.identifier ≡ i) (e : b ≡ freezes w.state.values w.state.sets i) where
    asked : to_freeze p.identifier w ≡ ok (ite b (set_at w.state.sets i) None) w
    asked = ap (λ (x : ℕ). to_freeze x w) q ∙ to_freeze_is w i b e

    place_shut : b ≡ false → enter_place F reason p w ≡ ok tt w
    unfolding enter_place
    place_shut h =
        bind_ok _ _ _ _ _ _ (asked ∙ ap (λ (x : Bool). ok (ite x (set_at w.state.sets i) None) w) h) (each_done (freeze_and_enter F reason) (values_of None) w refl)

    place_opens : b ≡ true → enter_place F reason p w ≡ each (values_of (set_at w.state.sets i)) (freeze_and_enter F reason) w
    unfolding enter_place
    place_opens h = bind_ok _ _ _ _ _ _ (asked ∙ ap (λ (x : Bool). ok (ite x (set_at w.state.sets i) None) w) h) refl

  -- a value is frozen, then entered
  entered : (w u : World lent) (v : ℕ) (x : Res (World lent) Done) → freeze_value reason v w ≡ ok tt u → F v u ≡ x → freeze_and_enter F reason v w ≡ x
  unfolding freeze_and_enter
  entered w u v x e h = then_ok _ _ _ _ _ _ e h

-- the code freezes a value as the definition does
freezes_value : (vs us ss : List ℕ) (cs : ContextWords) (os : List ℕ) (r : Run) (v reason : ℕ) → us ≡ frozen vs v reason → freeze_value reason v (world vs ss cs os r) ≡ ok tt (world us ss cs os r)
unfolding freeze_value initialize
freezes_value vs us ss cs os r v reason e = ap (λ (l : List ℕ). ok tt (world l ss cs os r)) (sym e)

-- ---- what a walk leaves

pub walked_none : (w : Lent) → Walked w w
walked_none w = record { sets = refl; context = refl; grows = omega arith }

pub walked_then : (u v w : Lent) → Walked u v → Walked v w → Walked u w
walked_then u v w a b = record { sets = b.sets ∙ a.sets; context = b.context ∙ a.context; grows = (let x = a.grows in let y = b.grows in omega arith) }

-- ---- a loop of the walk: what it has still to do, at any depth from the entries still allowed on

module _ {A : Type 0} (reason : ℕ) (f : (ℕ → M (World lent) Done) → A → M (World lent) Done) where
  -- of a list there is a rest to go through, from the loop's own start
  pub record Goes (v w : Lent) (xs ys : List A) : Type 0 where
    pub walked : Walked v w
    pub equal : (d : ℕ) → 4096 - v.run.freeze ≤ d → each xs (f (freeze_function_captures_transitive d reason)) (seen v) ≡ each ys (f (freeze_function_captures_transitive d reason)) (seen w)

  pub goes_start : (v : Lent) (xs ys : List A) → xs ≡ ys → Goes v v xs ys
  goes_start v xs ys e = record { walked = walked_none v; equal = λ d l. ap (λ (zs : List A). each zs (f (freeze_function_captures_transitive d reason)) (seen v)) e }

  module _ (v w : Lent) (xs ys : List A) (a : Goes v w xs ys) where
    pub goes_on : (u : Lent) (y : A) (zs : List A) → ys ≡ y ∷ zs → Walked w u → ((d : ℕ) → 4096 - v.run.freeze ≤ d → f (freeze_function_captures_transitive d reason) y (seen w) ≡ ok tt (seen u)) → Goes v u xs zs
    goes_on u y zs c h e = record {
      walked = walked_then v w u a.walked h;
      equal = λ d l. a.equal d l ∙ each_ok _ _ _ _ _ _ c (e d l);
    }

    pub goes_fails : (u : World lent) (y : A) (zs : List A) (n : ℕ) → ys ≡ y ∷ zs → ((d : ℕ) → 4096 - v.run.freeze ≤ d → f (freeze_function_captures_transitive d reason) y (seen w) ≡ refused n u)
        → (d : ℕ) → 4096 - v.run.freeze ≤ d → each xs (f (freeze_function_captures_transitive d reason)) (seen v) ≡ refused n u
    goes_fails u y zs n c e d l = a.equal d l ∙ each_fails _ _ _ _ _ _ _ c (e d l)

    pub goes_end : ys ≡ [] → (d : ℕ) → 4096 - v.run.freeze ≤ d → each xs (f (freeze_function_captures_transitive d reason)) (seen v) ≡ ok tt (seen w)
    goes_end c d l = a.equal d l ∙ each_done _ _ _ c

-- ---- the values of a place, from a number on

-- what there is of them
unfoldable pub values_from : List ℕ → ℕ → ℕ → List ℕ
values_from ss i from = ite (is_some (set_at ss i)) (left (row_number ss i) from) []

module _ (ss : List ℕ) (i : ℕ) where
  -- from 1 on, all
  pub values_all : values_of (set_at ss i) ≡ values_from ss i 1
  unfolding values_from
  values_all = go (is_some (set_at ss i)) refl
    where
      go : (b : Bool) → is_some (set_at ss i) ≡ b → values_of (set_at ss i) ≡ ite b (left (row_number ss i) 1) []
      go true h = sym (all_left ss i h)
      go false h = ap values_of (none_of (set_at ss i) h)

  module _ (from : ℕ) (o : Option ℕ) (e : o ≡ value_from ss i from) where
    -- the next of them, and those behind it
    pub values_some : (m : ℕ) → o ≡ Some m → (values_from ss i from ≡ m ∷ values_from ss i (m + 1)) × (from ≤ m) × (m < 1024)
    unfolding values_from value_from
    values_some m h = go (is_some (set_at ss i)) (sym e ∙ h)
      where
        go : (x : Bool) → ite x (member_from ss i from) None ≡ Some m → (ite x (left (row_number ss i) from) [] ≡ m ∷ ite x (left (row_number ss i) (m + 1)) []) × (from ≤ m) × (m < 1024)
        go true q = some_left ss i from _ refl m q
        go false q = absurd (none-some m q)

    -- none is left
    pub values_none : o ≡ None → values_from ss i from ≡ []
    unfolding values_from value_from
    values_none h = go (is_some (set_at ss i)) (sym e ∙ h)
      where
        go : (x : Bool) → ite x (member_from ss i from) None ≡ None → ite x (left (row_number ss i) from) [] ≡ []
        go true q = none_left ss i from _ refl q
        go false q = refl

-- the loop over the values of a place
module _ (reason : ℕ) (f : (ℕ → M (World lent) Done) → ℕ → M (World lent) Done) where
  abbrev pub RunsRow : Lent → Lent → ℕ → ℕ → Type 0
  RunsRow v w i from = Goes reason f v w (values_of (set_at v.sets.now i)) (values_from v.sets.now i from)

  -- it begins
  pub row_start : (v : Lent) (i : ℕ) → RunsRow v v i 1
  row_start v i = goes_start reason f v _ _ (values_all v.sets.now i)

  module _ (v w : Lent) (i from : ℕ) (r : RunsRow v w i from) (o : Option ℕ) (e : o ≡ value_from w.sets.now i from) where
    still : o ≡ value_from v.sets.now i from
    still = e ∙ ap (λ (l : List ℕ). value_from l i from) r.walked.sets

    -- one more value is done
    pub row_next : (u : Lent) (m : ℕ) → o ≡ Some m → Walked w u → ((d : ℕ) → 4096 - w.run.freeze ≤ d → f (freeze_function_captures_transitive d reason) m (seen w) ≡ ok tt (seen u)) → RunsRow v u i (m + 1)
    row_next u m h p g =
        goes_on reason f _ _ _ _ r u m _ (values_some v.sets.now i from o still m h).0 p (λ d l. g d (let x = r.walked.grows in omega arith))

    -- a value was refused
    pub row_fails : (u : World lent) (x m : ℕ) → o ≡ Some m → ((d : ℕ) → 4096 - w.run.freeze ≤ d → f (freeze_function_captures_transitive d reason) m (seen w) ≡ refused x u)
        → (d : ℕ) → 4096 - v.run.freeze ≤ d → each (values_of (set_at v.sets.now i)) (f (freeze_function_captures_transitive d reason)) (seen v) ≡ refused x u
    row_fails u x m h g =
        goes_fails reason f _ _ _ _ r u m _ x (values_some v.sets.now i from o still m h).0 (λ d l. g d (let z = r.walked.grows in omega arith))

    -- no value is left
    pub row_ends : o ≡ None → (d : ℕ) → 4096 - v.run.freeze ≤ d → each (values_of (set_at v.sets.now i)) (f (freeze_function_captures_transitive d reason)) (seen v) ≡ ok tt (seen w)
    row_ends h = goes_end reason f _ _ _ _ r (values_none v.sets.now i from o still h)

-- the loop over the context of the value's function
abbrev pub Runs : ℕ → Lent → Lent → ℕ → ℕ → ℕ → Type 0
Runs reason v w f n k = Goes reason (λ F. enter_place F reason) v w (places_in Layout.contexts v.context.now.contexts.now f 0 0 (n - 0)) (places_in Layout.contexts v.context.now.contexts.now f 0 k (n - k))

-- from the entry of a value to the end of its walk
module _ (u : Lent) (a reason x : ℕ) (h : u.run.freeze < 4096) (g : a ≡ one_more u.run.entries) (o : Option ℕ) (l : o ≡ link_of (held u.context.now) x) where
  -- a value without a function: only the entry is counted
  -- "Each entry is counted, repeats too"
  pub enters_plain : o ≡ None → (d : ℕ) → 4096 - u.run.freeze ≤ d → freeze_function_captures_transitive d reason x (seen u) ≡ ok tt (seen (counted u (u.run.freeze + 1) a))
  enters_plain n d q = deeper (λ y. freeze_function_captures_transitive y reason x (seen u) ≡ ok tt (seen (counted u (u.run.freeze + 1) a))) u.run.freeze d h q (λ c r.
      depth_more (seen u) (seen (counted u (u.run.freeze + 1) a)) reason x c (count_one u a h g) ∙ context_none (freeze_function_captures_transitive c reason) reason (seen (counted u (u.run.freeze + 1) a)) x (sym l ∙ n))

  module _ (f n : ℕ) (s : o ≡ Some f) (t : n ≡ field Layout.functions u.context.now.functions.now f 1) where
    -- one with a function comes to what the loop over its context comes to
    enters_runs : (r : Res (World lent) Done)
        → ((d : ℕ) → 4096 - (u.run.freeze + 1) ≤ d → each (places_in Layout.contexts u.context.now.contexts.now f 0 0 (n - 0)) (enter_place (freeze_function_captures_transitive d reason) reason) (seen (counted u (u.run.freeze + 1) a)) ≡ r)
        → (d : ℕ) → 4096 - u.run.freeze ≤ d → freeze_function_captures_transitive d reason x (seen u) ≡ r
    enters_runs r k d q = deeper (λ y. freeze_function_captures_transitive y reason x (seen u) ≡ r) u.run.freeze d h q (λ c p.
        depth_more (seen u) (seen (counted u (u.run.freeze + 1) a)) reason x c (count_one u a h g)
        ∙ context_some (freeze_function_captures_transitive c reason) reason (seen (counted u (u.run.freeze + 1) a)) x f n (sym l ∙ s) t ∙ k c p)

-- the loop over the context
module _ (reason : ℕ) (v w : Lent) (f n k i : ℕ) (b : Bool) (r : Runs reason v w f n k) (h : k < n) (e : i ≡ field Layout.contexts w.context.now.contexts.now f (k * 5)) (o : b ≡ freezes w.values.now w.sets.now i) where
  named : (place_in Layout.contexts v.context.now.contexts.now f (0 + k * 5)).identifier ≡ i
  unfolding place_in
  named =
      let z : 0 + k * 5 ≡ k * 5 = omega arith in
      ap (field Layout.contexts v.context.now.contexts.now f) z ∙ sym (e ∙ ap (λ (c : Context). field Layout.contexts c.contexts.now f (k * 5)) r.walked.context)

  -- a place that a freeze does not act on is passed
  pub runs_shut : b ≡ false → Runs reason v w f n (k + 1)
  runs_shut z =
      goes_on _ _ _ _ _ _ r w _ _ (places_more Layout.contexts v.context.now.contexts.now f 0 k n h) (walked_none w)
      (λ d q. place_shut (freeze_function_captures_transitive d reason) reason (seen w) _ i b named o z)

  module _ (z : b ≡ true) where
    -- its values are done, and the walk goes on with the next place
    pub runs_open : (u : Lent) (from : ℕ) → RunsRow reason (λ F. freeze_and_enter F reason) w u i from → (s : Option ℕ) → s ≡ value_from u.sets.now i from → s ≡ None → Runs reason v u f n (k + 1)
    runs_open u from y s t g =
        goes_on _ _ _ _ _ _ r u _ _ (places_more Layout.contexts v.context.now.contexts.now f 0 k n h) y.walked
        (λ d q. place_opens (freeze_function_captures_transitive d reason) reason (seen w) _ i b named o z
        ∙ row_ends reason (λ F. freeze_and_enter F reason) w u i from y s t g d (let x = r.walked.grows in omega arith))

    -- a value of the place was refused
    runs_refused : (u : World lent) (x : ℕ) → ((d : ℕ) → 4096 - w.run.freeze ≤ d → each (values_of (set_at w.sets.now i)) (freeze_and_enter (freeze_function_captures_transitive d reason) reason) (seen w) ≡ refused x u)
        → (d : ℕ) → 4096 - v.run.freeze ≤ d → each (places_in Layout.contexts v.context.now.contexts.now f 0 0 (n - 0)) (enter_place (freeze_function_captures_transitive d reason) reason) (seen v) ≡ refused x u
    runs_refused u x y =
        goes_fails _ _ _ _ _ _ r u _ _ x (places_more Layout.contexts v.context.now.contexts.now f 0 k n h)
        (λ d q. place_opens (freeze_function_captures_transitive d reason) reason (seen w) _ i b named o z ∙ y d (let p = r.walked.grows in omega arith))

-- a value is frozen, then entered
pub enters : (reason m : ℕ) (w : Lent) (us : List ℕ) → us ≡ frozen w.values.now m reason → (x : Res (World lent) Done)
    → ((d : ℕ) → 4096 - w.run.freeze ≤ d → freeze_function_captures_transitive d reason m (world us w.sets.now (held w.context.now) w.output.now w.run) ≡ x)
    → (d : ℕ) → 4096 - w.run.freeze ≤ d → freeze_and_enter (freeze_function_captures_transitive d reason) reason m (seen w) ≡ x
enters reason m w us e x g d l = entered (freeze_function_captures_transitive d reason) reason (seen w) _ m x (freezes_value w.values.now us w.sets.now (held w.context.now) w.output.now w.run m reason e) (g d l)

-- the walk of a value with a function ends as its loop over the context does
module _ (u : Lent) (a reason x : ℕ) (h : u.run.freeze < 4096) (g : a ≡ one_more u.run.entries) (o : Option ℕ) (l : o ≡ link_of (held u.context.now) x) (f n : ℕ) (s : o ≡ Some f) (t : n ≡ field Layout.functions u.context.now.functions.now f 1)
    (w : Lent) (k : ℕ) (r : Runs reason (counted u (u.run.freeze + 1) a) w f n k) where
  -- no place is left
  pub walk_ends : n ≤ k → (d : ℕ) → 4096 - u.run.freeze ≤ d → freeze_function_captures_transitive d reason x (seen u) ≡ ok tt (seen w)
  walk_ends z = enters_runs u a reason x h g o l f n s t _ (goes_end _ _ _ _ _ _ r (places_none Layout.contexts u.context.now.contexts.now f 0 k n z))

  -- a value of a place was refused
  pub walk_fails : (i : ℕ) (b : Bool) → k < n → i ≡ field Layout.contexts w.context.now.contexts.now f (k * 5) → b ≡ freezes w.values.now w.sets.now i → b ≡ true → (z : World lent) (q : ℕ)
      → ((d : ℕ) → 4096 - w.run.freeze ≤ d → each (values_of (set_at w.sets.now i)) (freeze_and_enter (freeze_function_captures_transitive d reason) reason) (seen w) ≡ refused q z)
      → (d : ℕ) → 4096 - u.run.freeze ≤ d → freeze_function_captures_transitive d reason x (seen u) ≡ refused q z
  walk_fails i b y e m p z q c = enters_runs u a reason x h g o l f n s t _ (runs_refused reason _ w f n k i b r y e m p z q c)
