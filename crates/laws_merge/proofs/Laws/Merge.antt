-- The order of states: above or equal is reflexive, transitive and, on entries, antisymmetric; a joined state is above or equal to both and
-- below or equal to each state that is; merge yields None exactly if the other adds nothing; merge and merge_from agree. Assumes nothing.
use Rattle.std.specs.Prelude.{ℕ, ◌<◌, ◌≡◌, refl, Bool, true, false, not, ◌&&◌, ◌||◌, T, eqb, Option, None, Some}
use Rattle.std.proofs.Common.{arith, sym, ap, ◌∙◌, subst, eqb→eq}
use Rattle.std.proofs.Math.Dec.{eqb_refl}
use Rattle.std.specs.Int.Bits.{bit_or}
use Rattle.base_tests.proofs.Laws.Bool.{both, both_left, both_right}
use Rattle.base_orders.specs.Join.{Joins, Above}
use Rattle.base_orders.proofs.Laws.Join.{above_refl, above_trans, above_antisym, join_above_left, join_above_right, join_least}
use Rattle.base_orders.specs.Options.{join_option, join_table}
use Rattle.base_orders.proofs.Laws.Options.{option_joins}
use Rattle.base_orders.proofs.Laws.Union.{or_joins}
use Rattle.base_sets.specs.Members.{union}
use Rattle.def_kinds.specs.declared.AbstractValue.{AbstractValue}
use Rattle.def_kinds.specs.Kinds.{code_of}
use Rattle.def_kinds.proofs.Laws.Kinds.{value_joins, above_says, above_test}
use Rattle.def_kinds.specs.Values as Values
use Rattle.def_transfer.specs.Merge.{Entries, joined, value_above, set_above, above, adds_value, adds_set, adds, merge, merged_value, merged_set, merge_from}
use Rattle.base_tests.specs.Tests.{all_below}
use Rattle.base_tests.proofs.Laws.Below.{all_at, all_from, any_not_all}

-- ---- one entry: the test says that joining leaves the entry

pub value_says : (x y : Option AbstractValue) → T (value_above x y) → Above (join_option Values.join) x y
unfolding value_above join_option
value_says None None t = refl
value_says (Some a) None t = refl
value_says None (Some b) t = absurd t
value_says (Some a) (Some b) t = ap Some (above_says a b t)

pub value_test : (x y : Option AbstractValue) → Above (join_option Values.join) x y → T (value_above x y)
unfolding value_above join_option
value_test None None e = tt
value_test (Some a) None e = tt
value_test None (Some b) e = let z : ◌≡◌ {A = ℕ} 0 1 = cc in absurd (omega arith)
value_test (Some a) (Some b) e = above_test a b (let z : Values.join a b ≡ a = cc in z)

pub set_says : (x y : Option ℕ) → T (set_above x y) → Above (join_option union) x y
unfolding set_above join_option
set_says None None t = refl
set_says (Some m) None t = refl
set_says None (Some n) t = absurd t
set_says (Some m) (Some n) t = ap Some (eqb→eq (union m n) m t)

pub set_test : (x y : Option ℕ) → Above (join_option union) x y → T (set_above x y)
unfolding set_above join_option
set_test None None e = tt
set_test (Some m) None e = tt
set_test None (Some n) e = let z : ◌≡◌ {A = ℕ} 0 1 = cc in absurd (omega arith)
set_test (Some m) (Some n) e = let z : union m n ≡ m = cc in subst (λ (k : ℕ). T (eqb k m)) (sym z) (eqb_refl m)

abbrev values_join : Joins (Option AbstractValue) (join_option Values.join)
values_join = option_joins Values.join value_joins

abbrev sets_join : Joins (Option ℕ) (join_option union)
sets_join = option_joins union or_joins

-- ---- the order of states

-- above at each value number and each identifier
pub record Over (s t : Entries) : Type 0 where
  pub values : (v : ℕ) → v < 1024 → Above (join_option Values.join) (s.value v) (t.value v)
  pub sets : (i : ℕ) → i < 512 → Above (join_option union) (s.set i) (t.set i)

pub over_says : (s t : Entries) → T (above s t) → Over s t
unfolding above
over_says s t h =
    let f : ℕ → Bool = λ v. value_above (s.value v) (t.value v) in
    let g : ℕ → Bool = λ i. set_above (s.set i) (t.set i) in
    record {
      values = λ v l. value_says (s.value v) (t.value v) (all_at 1024 f (both_left (all_below 1024 f) (all_below 512 g) h) v l);
      sets = λ i l. set_says (s.set i) (t.set i) (all_at 512 g (both_right (all_below 1024 f) (all_below 512 g) h) i l);
    }

pub over_test : (s t : Entries) → Over s t → T (above s t)
unfolding above
over_test s t h =
    let f : ℕ → Bool = λ v. value_above (s.value v) (t.value v) in
    let g : ℕ → Bool = λ i. set_above (s.set i) (t.set i) in
    both (all_below 1024 f) (all_below 512 g) (all_from 1024 f (λ v l. value_test (s.value v) (t.value v) (h.values v l))) (all_from 512 g (λ i l. set_test (s.set i) (t.set i) (h.sets i l)))

pub state_above_refl : (s : Entries) → T (above s s)
state_above_refl s = over_test s s (record { values = λ v l. above_refl _ values_join (s.value v); sets = λ i l. above_refl _ sets_join (s.set i) })

pub state_above_trans : (s t u : Entries) → T (above s t) → T (above t u) → T (above s u)
state_above_trans s t u p q =
    let a = over_says s t p in
    let b = over_says t u q in
    over_test s u (record {
      values = λ v l. above_trans _ values_join (s.value v) (t.value v) (u.value v) (a.values v l) (b.values v l);
      sets = λ i l. above_trans _ sets_join (s.set i) (t.set i) (u.set i) (a.sets i l) (b.sets i l);
    })

-- antisymmetric on entries: two states that are above or equal to each other have equal entries
pub state_above_antisym : (s t : Entries) → T (above s t) → T (above t s) → ((v : ℕ) → v < 1024 → s.value v ≡ t.value v) × ((i : ℕ) → i < 512 → s.set i ≡ t.set i)
state_above_antisym s t p q =
    let a = over_says s t p in
    let b = over_says t s q in
    ((λ v l. above_antisym _ values_join (s.value v) (t.value v) (a.values v l) (b.values v l)), (λ i l. above_antisym _ sets_join (s.set i) (t.set i) (a.sets i l) (b.sets i l)))

-- ---- a joined state is above or equal to both, and below or equal to each state that is

pub joined_above_left : (s t : Entries) → T (above (joined s t) s)
unfolding joined join_table
joined_above_left s t = over_test (joined s t) s (record { values = λ v l. join_above_left _ values_join (s.value v) (t.value v); sets = λ i l. join_above_left _ sets_join (s.set i) (t.set i) })

pub joined_above_right : (s t : Entries) → T (above (joined s t) t)
unfolding joined join_table
joined_above_right s t = over_test (joined s t) t (record { values = λ v l. join_above_right _ values_join (s.value v) (t.value v); sets = λ i l. join_above_right _ sets_join (s.set i) (t.set i) })

pub joined_least : (s t u : Entries) → T (above u s) → T (above u t) → T (above u (joined s t))
unfolding joined join_table
joined_least s t u p q =
    let a = over_says u s p in
    let b = over_says u t q in
    over_test u (joined s t) (record {
      values = λ v l. join_least _ values_join (s.value v) (t.value v) (u.value v) (a.values v l) (b.values v l);
      sets = λ i l. join_least _ sets_join (s.set i) (t.set i) (u.set i) (a.sets i l) (b.sets i l);
    })

-- ---- what the other adds: just where this is not above

contains_join : (a b : AbstractValue) → Values.contains a (Values.join a b) ≡ Values.contains a b
unfolding Values.contains Values.join
contains_join a b = ap (λ (n : ℕ). eqb n a.reason) (sym (or_joins.assoc a.reason a.reason b.reason) ∙ ap (λ (n : ℕ). bit_or n b.reason) (or_joins.same a.reason))

not_and : (a b : Bool) → (not a || not b) ≡ not (a && b)
not_and true b = refl
not_and false b = refl

pub adds_value_is : (x y : Option AbstractValue) → adds_value x y ≡ not (value_above x y)
unfolding adds_value value_above Values.above
adds_value_is None None = refl
adds_value_is (Some a) None = refl
adds_value_is None (Some b) = refl
adds_value_is (Some a) (Some b) = ap (λ (c : Bool). not (eqb (code_of (Values.join a b).kind) (code_of a.kind)) || not c) (contains_join a b) ∙ unfold Values.join in not_and (eqb (code_of (Values.join a b).kind) (code_of a.kind)) (Values.contains a b)

pub adds_set_is : (x y : Option ℕ) → adds_set x y ≡ not (set_above x y)
unfolding adds_set set_above
adds_set_is None None = refl
adds_set_is (Some m) None = refl
adds_set_is None (Some n) = refl
adds_set_is (Some m) (Some n) = refl

pub adds_not_above : (s t : Entries) → adds s t ≡ not (above s t)
unfolding adds above
adds_not_above s t =
    rw (any_not_all 1024 (λ v. adds_value (s.value v) (t.value v)) (λ v. value_above (s.value v) (t.value v)) (λ v. adds_value_is (s.value v) (t.value v)))
    (rw (any_not_all 512 (λ i. adds_set (s.set i) (t.set i)) (λ i. set_above (s.set i) (t.set i)) (λ i. adds_set_is (s.set i) (t.set i)))
    (not_and (all_below 1024 (λ v. value_above (s.value v) (t.value v))) (all_below 512 (λ i. set_above (s.set i) (t.set i)))))

-- ---- merge yields None exactly if the other adds nothing

pub merge_none : (s t : Entries) → T (above s t) → merge s t ≡ None
unfolding merge
merge_none s t h = rw (merge, adds_not_above s t) (go (above s t) h)
  where
    go : (b : Bool) → T b → ◌≡◌ {A = Option Entries} (elim (not b) as (λ x. Option Entries) [ true ↦ Some (joined s t) | false ↦ None ]) None
    go true h = refl
    go false h = absurd h

pub none_above : (s t : Entries) → merge s t ≡ None → T (above s t)
unfolding merge
none_above s t h = go (above s t) (rw (merge, adds_not_above s t) at h)
  where
    go : (b : Bool) → ◌≡◌ {A = Option Entries} (elim (not b) as (λ x. Option Entries) [ true ↦ Some (joined s t) | false ↦ None ]) None → T b
    go true h = tt
    go false h = let z : ◌≡◌ {A = ℕ} 0 1 = cc in absurd (omega arith)

-- and else the joined state
pub merge_some : (s t u : Entries) → merge s t ≡ Some u → u ≡ joined s t
unfolding merge
merge_some s t u h = go (adds s t) h
  where
    go : (b : Bool) → ◌≡◌ {A = Option Entries} (elim b as (λ x. Option Entries) [ true ↦ Some (joined s t) | false ↦ None ]) (Some u) → u ≡ joined s t
    go true h = cc
    go false h = cc

-- ---- merge and merge_from agree: in place, the joined state

pub merged_value_is : (x y : Option AbstractValue) → merged_value x y ≡ join_option Values.join x y
merged_value_is x y = rw (merged_value, adds_value_is x y) (go (value_above x y) (value_says x y))
  where
    go : (b : Bool) → (T b → join_option Values.join x y ≡ x) → (elim (not b) as (λ z. Option AbstractValue) [ true ↦ join_option Values.join x y | false ↦ x ]) ≡ join_option Values.join x y
    go true h = sym (h tt)
    go false h = refl

pub merged_set_is : (x y : Option ℕ) → merged_set x y ≡ join_option union x y
merged_set_is x y = rw (merged_set, adds_set_is x y) (go (set_above x y) (set_says x y))
  where
    go : (b : Bool) → (T b → join_option union x y ≡ x) → (elim (not b) as (λ z. Option ℕ) [ true ↦ join_option union x y | false ↦ x ]) ≡ join_option union x y
    go true h = sym (h tt)
    go false h = refl

pub merge_from_joined : (s t : Entries) → merge_from s t ≡ joined s t
unfolding merge_from joined join_table
merge_from_joined s t = λ i. record { value = λ v. merged_value_is (s.value v) (t.value v) i; set = λ j. merged_set_is (s.set j) (t.set j) i }
