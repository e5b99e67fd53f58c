-- The definition's operations at the lists that a state is lent as: each is what `Lists.antt` says, whatever the context. Assumes nothing.
use Rattle.std.specs.Prelude.{ℕ, ◌^◌, ◌≡◌, Bool, ◌&&◌, Option, None, Some}
use Rattle.std.proofs.Math.Path.{refl, ap}
use Rattle.std.proofs.Common.{◌∙◌}
use Rattle.std.proofs.Math.Bool.{true, false}
use mathlib.Core.List.{List, [], ◌∷◌}
use Rattle.std.proofs.Math.Dec.{eqb}
use Rattle.base_sets.specs.Members.{union, singleton, values_of, bits_of}
use Rattle.def_kinds.specs.declared.AbstractValue.{AbstractValue}
use Rattle.def_kinds.specs.declared.ValueKind.TheVariants.{Frozen}
use Rattle.def_kinds.specs.Kinds.{freezable}
use Rattle.def_kinds.specs.Reasons.{single}
use Rattle.def_kinds.specs.Values.{mk}
use Rattle.def_transfer.specs.Monad.{Res, ok, Done, and_then, ◌>>=◌, ◌>>◌, return, done, when◌then◌else◌, each}
use Rattle.def_transfer.specs.Tables.{Tables, Rest, World}
use Rattle.def_transfer.specs.State.{kind_of, set_of, value_of, peek, initialize, point, define, or_insert, assign_set, assign, append_sets, append_alias, freeze_value, to_freeze, freeze, union_of, infer_phi, from_identifier}
use Rattle.lent_values.specs.Cells.{value_at, put_value}
use Rattle.lent_sets.specs.Rows.{set_at, put_set, append_set}
use Rattle.base_tests.specs.Tests.{is_some}
use Rattle.state_ops.specs.Lists.{freeze_all, freezes, frozen_values, inserted, own_inserted, own_value, own_sets, assigned_values, set_or_own, assigned_sets, unions, phi_sets}
use Rattle.state_ops.specs.OnLists.{on_lists, lists}

module _ (T : Tables) (flag : Bool) (r : Rest (on_lists T)) where
  pub initialize_lists : (vs ss : List ℕ) (v : ℕ) (a : AbstractValue) → initialize v a (lists T flag r vs ss) ≡ ok tt (lists T flag r (put_value vs v a) ss)
  unfolding initialize
  initialize_lists vs ss v a = refl

  pub define_lists : (vs ss : List ℕ) (i v : ℕ) → define i v (lists T flag r vs ss) ≡ ok tt (lists T flag r vs (put_set ss i (2 ^ v)))
  unfolding define point
  define_lists vs ss i v = refl

  -- each of some values frozen
  pub each_frozen : (reason : ℕ) (ms vs ss : List ℕ) → each ms (freeze_value reason) (lists T flag r vs ss) ≡ ok tt (lists T flag r (freeze_all reason ms vs) ss)
  unfolding each freeze_all freeze_value initialize done return ◌>>◌ ◌>>=◌ and_then
  each_frozen reason [] vs ss = refl
  each_frozen reason (m ∷ ms) vs ss = each_frozen reason ms (put_value vs m (mk Frozen (single reason))) ss

  pub freeze_lists : (vs ss : List ℕ) (i reason : ℕ) → freeze i reason (lists T flag r vs ss) ≡ ok (freezes vs ss i) (lists T flag r (frozen_values vs ss i reason) ss)
  unfolding freeze to_freeze set_of peek freezes frozen_values each done when◌then◌else◌ return ◌>>◌ ◌>>=◌ and_then
  freeze_lists vs ss i reason = go (set_at ss i) (freezable (kind_of (value_at vs) (set_at ss i)).kind)
    where
      go : (o : Option ℕ) (b : Bool)
          → and_then (elim (is_some o && b) as (λ x. Res (World (on_lists T)) (Option ℕ)) [ true ↦ ok o (lists T flag r vs ss) | false ↦ ok None (lists T flag r vs ss) ]) (λ x. each (values_of x) (freeze_value reason) >> return (is_some x))
          ≡ ok (is_some o && b) (lists T flag r (elim (is_some o && b) as (λ x. List ℕ) [ true ↦ freeze_all reason (values_of o) vs | false ↦ vs ]) ss)
      go None b = refl
      go (Some s) false = refl
      go (Some s) true = ap (λ (x : Res (World (on_lists T)) Done). and_then x (λ _. return true)) (each_frozen reason (values_of (Some s)) vs ss)

  pub append_lists : (vs ss : List ℕ) (place value : ℕ) → append_alias place value (lists T flag r vs ss) ≡ ok tt (lists T flag r vs (append_set ss place value))
  unfolding append_alias set_of append_set append_sets point done return ◌>>=◌ and_then
  append_lists vs ss place value = go (set_at ss place) (set_at ss value)
    where
      go : (o n : Option ℕ) → append_sets place o n (lists T flag r vs ss) ≡ ok tt (lists T flag r vs (Rattle.lent_sets.specs.Rows.appended ss place o n))
      go None n = refl
      go (Some s) None = refl
      go (Some s) (Some t) = refl

  pub assign_lists : (vs ss : List ℕ) (into from : ℕ) → assign into from (lists T flag r vs ss) ≡ ok tt (lists T flag r (assigned_values vs ss from) (assigned_sets ss into from))
  unfolding assign set_of assigned_values assigned_sets own_inserted own_sets assign_set or_insert initialize define point value_of done return ◌>>◌ ◌>>=◌ and_then
  assign_lists vs ss into from = go (set_at ss from)
    where
      inner : (o : Option AbstractValue) → and_then (or_insert (from_identifier from) o (lists T flag r vs ss)) (λ _. define into (from_identifier from)) ≡ ok tt (lists T flag r (inserted vs (from_identifier from) o) (put_set ss into (singleton (from_identifier from))))
      inner None = refl
      inner (Some a) = refl

      go : (o : Option ℕ) → assign_set into from o (lists T flag r vs ss) ≡ ok tt (lists T flag r (own_value vs from o) (set_or_own ss into from o))
      go None = inner (value_at vs (from_identifier from))
      go (Some s) = refl

  pub union_lists : (vs ss is : List ℕ) (s : ℕ) → union_of is s (lists T flag r vs ss) ≡ ok (unions ss is s) (lists T flag r vs ss)
  unfolding union_of unions set_of return ◌>>=◌ and_then
  union_lists vs ss [] s = refl
  union_lists vs ss (i ∷ is) s = union_lists vs ss is (union s (bits_of (set_at ss i)))

  pub phi_lists : (vs ss : List ℕ) (place : ℕ) (operands : List ℕ) → infer_phi place operands (lists T flag r vs ss) ≡ ok tt (lists T flag r vs (phi_sets ss place operands))
  unfolding infer_phi phi_sets when◌then◌else◌ point done return ◌>>=◌ and_then
  phi_lists vs ss place operands =
      ap (λ (x : Res (World (on_lists T)) ℕ). and_then x (λ s. when eqb s 0 then done else point place s)) (union_lists vs ss operands 0) ∙ go (unions ss operands 0)
    where
      go : (s : ℕ) → (when eqb s 0 then done else point place s) (lists T flag r vs ss) ≡ ok tt (lists T flag r vs (elim (eqb s 0) as (λ x. List ℕ) [ true ↦ ss | false ↦ put_set ss place s ]))
      go s = by (eqb s 0)
        where
          by : (b : Bool) → (elim b as (λ x. Res (World (on_lists T)) Done) [ true ↦ ok tt (lists T flag r vs ss) | false ↦ ok tt (lists T flag r vs (put_set ss place s)) ]) ≡ ok tt (lists T flag r vs (elim b as (λ x. List ℕ) [ true ↦ ss | false ↦ put_set ss place s ]))
          by true = refl
          by false = refl
