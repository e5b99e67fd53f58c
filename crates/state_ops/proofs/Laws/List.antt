-- The laws by which the loops meet their definitions. Assumes nothing.
use Rattle.std.specs.Prelude.{ℕ, ◌+◌, ◌-◌, ◌%◌, ◌^◌, ◌≤◌, ◌<◌, ◌≡◌, refl, Bool, eqb, length, get_or, drop, Option, None, Some}
use Rattle.std.proofs.Math.Nat.{mul-mod_left}
use Rattle.std.proofs.Common.{add-one, arith, ◌∙◌, pow-add, drop-cons}
use Rattle.std.proofs.Math.Path.{sym, ap, ap₂}
use Rattle.std.proofs.Math.Bool.{true, false}
use mathlib.Core.List.{List, [], ◌∷◌}
use Rattle.std.proofs.Math.Seq.{drop-length}
use Rattle.base_tests.proofs.Laws.Bool.{never}
use Rattle.base_sets.specs.Members.{union, bits_of}
use Rattle.def_kinds.specs.declared.AbstractValue.{AbstractValue}
use Rattle.def_kinds.specs.Values.{or_default}
use Rattle.lent_values.specs.Cells.{value_at, put_value}
use Rattle.lent_sets.specs.Rows.{set_at, number, add_set, put_set, copy_set, copied}
use Rattle.base_tests.specs.Tests.{is_some}
use Rattle.lent_sets.proofs.Laws.Row.{add_row}
use Rattle.lent_sets.proofs.Laws.Code.{put_cut}
use Rattle.state_ops.specs.Lists.{frozen, freeze_all, inserted, own_inserted, own_value, own_sets, set_or_own, assigned_values, assigned_sets, unions, phi_sets}

-- ---- freezing the values of a place

module _ (reason : ℕ) where
  -- a loop over values freezes the first of those that are left
  pub freeze_turn : (vs us z l k : List ℕ) (v : ℕ) → l ≡ v ∷ k → us ≡ frozen vs v reason → freeze_all reason l vs ≡ z → freeze_all reason k us ≡ z
  unfolding freeze_all
  freeze_turn vs us z l k v e g h = ap (freeze_all reason k) g ∙ sym (ap (λ (m : List ℕ). freeze_all reason m vs) e) ∙ h

  pub freeze_done : (vs z l : List ℕ) → l ≡ [] → freeze_all reason l vs ≡ z → vs ≡ z
  unfolding freeze_all
  freeze_done vs z l e h = sym (ap (λ (m : List ℕ). freeze_all reason m vs) e) ∙ h

-- ---- assignment

pub insert_absent : (vs us : List ℕ) (from x y : ℕ) (e : Option AbstractValue) (a : AbstractValue) → x ≡ from → e ≡ None → e ≡ value_at vs (512 + x) → a ≡ or_default None → us ≡ put_value vs (512 + x) a → us ≡ own_inserted vs from
unfolding own_inserted
insert_absent vs us from x y e a p q g d h =
    h ∙ ap₂ (λ (n : ℕ) (b : AbstractValue). put_value vs (512 + n) b) p d ∙ ap (inserted vs (512 + from)) ((sym q) ∙ g ∙ ap (λ (n : ℕ). value_at vs (512 + n)) p)

pub insert_present : (vs : List ℕ) (from x : ℕ) (e : Option AbstractValue) (a : AbstractValue) → x ≡ from → e ≡ Some a → e ≡ value_at vs (512 + x) → vs ≡ own_inserted vs from
unfolding own_inserted
insert_present vs from x e a p q g = ap (inserted vs (512 + from)) ((sym q) ∙ g ∙ ap (λ (n : ℕ). value_at vs (512 + n)) p)

-- the same, by whether an entry stands there
pub insert_none : (vs us : List ℕ) (from : ℕ) (e : Option AbstractValue) (a : AbstractValue) → e ≡ value_at vs (512 + from) → Rattle.std.specs.Option.is_some e ≡ false → a ≡ or_default None → us ≡ put_value vs (512 + from) a → us ≡ own_inserted vs from
insert_none vs us from None a g t d h = insert_absent vs us from from 0 None a refl refl g d h
insert_none vs us from (Some b) a g t d h = never true refl t

pub insert_some : (vs : List ℕ) (from : ℕ) (e : Option AbstractValue) → e ≡ value_at vs (512 + from) → Rattle.std.specs.Option.is_some e ≡ true → vs ≡ own_inserted vs from
insert_some vs from None g t = never false t refl
insert_some vs from (Some b) g t = insert_present vs from from (Some b) b refl refl g

-- values past 1,023 are cut off, so all of them give the same row
pub own_past : (ss us : List ℕ) (into from : ℕ) → 512 ≤ from → us ≡ put_set ss into (2 ^ 1024) → us ≡ own_sets ss into from
unfolding own_sets
own_past ss us into from h e = e ∙ sym (put_cut ss into (2 ^ 1024)) ∙ ap (put_set ss into) (cut 1024 (omega arith) ∙ sym (cut (512 + from) (omega arith))) ∙ put_cut ss into (2 ^ (512 + from))
  where
    cut : (n : ℕ) → 1024 ≤ n → 2 ^ n % 2 ^ 1024 ≡ 0
    cut n l =
        let e : n ≡ n - 1024 + 1024 = omega arith in
        ap (λ (k : ℕ). 2 ^ k % 2 ^ 1024) e ∙ ap (λ (x : ℕ). x % 2 ^ 1024) (pow-add 2 (n - 1024) 1024) ∙ mul-mod_left (2 ^ (n - 1024)) (2 ^ 1024)

pub assign_defined : (vs ss us : List ℕ) (into from : ℕ) (b : Bool) → b ≡ is_some (set_at ss from) → b ≡ true → us ≡ copy_set ss into from → (vs ≡ assigned_values vs ss from) × (us ≡ assigned_sets ss into from)
unfolding assigned_values assigned_sets copy_set
assign_defined vs ss us into from b p q e = go (set_at ss from) (sym p ∙ q) e
  where
    go : (o : Option ℕ) → is_some o ≡ true → us ≡ copied ss into o → (vs ≡ own_value vs from o) × (us ≡ set_or_own ss into from o)
    go None h e = let z : ◌≡◌ {A = ℕ} 0 1 = cc in absurd (omega arith)
    go (Some s) h e = (refl, e)

pub assign_undefined : (vs ss ws us : List ℕ) (into from : ℕ) (b : Bool) → b ≡ is_some (set_at ss from) → b ≡ false → ws ≡ own_inserted vs from → us ≡ own_sets ss into from → (ws ≡ assigned_values vs ss from) × (us ≡ assigned_sets ss into from)
unfolding assigned_values assigned_sets
assign_undefined vs ss ws us into from b p q e g = go (set_at ss from) (sym p ∙ q)
  where
    go : (o : Option ℕ) → is_some o ≡ false → (ws ≡ own_value vs from o) × (us ≡ set_or_own ss into from o)
    go None h = (e, g)
    go (Some s) h = let z : ◌≡◌ {A = ℕ} 0 1 = cc in absurd (omega arith)

-- ---- phi

pub phi_step : (ss xs : List ℕ) (k x z : ℕ) (l m : List ℕ) → k < length xs → x ≡ get_or xs k 0 → length l ≡ 16 → m ≡ add_set l (bits_of (set_at ss x)) → unions ss (drop k xs) (number 16 l 0) ≡ z → unions ss (drop (k + 1) xs) (number 16 m 0) ≡ z
unfolding unions
phi_step ss xs k x z l m h p n e g =
    ap (unions ss (drop (k + 1) xs)) (add_row ss x l m (omega arith) e ∙ ap (λ (y : ℕ). union (number 16 l 0) (bits_of (set_at ss y))) p)
    ∙ ap (λ (j : ℕ). unions ss (drop j xs) (union (number 16 l 0) (bits_of (set_at ss (get_or xs k 0))))) (add-one k)
    ∙ sym (ap (λ (y : List ℕ). unions ss y (number 16 l 0)) (drop-cons xs k 0 h)) ∙ g

pub phi_end : (ss xs : List ℕ) (k s z : ℕ) → length xs ≤ k → k ≤ length xs → unions ss (drop k xs) s ≡ z → s ≡ z
unfolding unions
phi_end ss xs k s z h l g = let e : k ≡ length xs = omega arith in sym (ap (λ (j : ℕ). unions ss (drop j xs) s) e ∙ ap (λ (m : List ℕ). unions ss m s) (drop-length xs)) ∙ g

pub phi_empty : (ss xs : List ℕ) (place s : ℕ) (b : Bool) → s ≡ unions ss xs 0 → b ≡ eqb s 0 → b ≡ true → ss ≡ phi_sets ss place xs
unfolding phi_sets
phi_empty ss xs place s b p q t = ap (λ (x : Bool). elim x as (λ y. List ℕ) [ true ↦ ss | false ↦ put_set ss place (unions ss xs 0) ]) (sym t ∙ q ∙ ap (λ (n : ℕ). eqb n 0) p)

pub phi_puts : (ss us xs : List ℕ) (place s : ℕ) (b : Bool) → s ≡ unions ss xs 0 → b ≡ eqb s 0 → b ≡ false → us ≡ put_set ss place s → us ≡ phi_sets ss place xs
unfolding phi_sets
phi_puts ss us xs place s b p q t e = e ∙ ap (put_set ss place) p ∙ ap (λ (x : Bool). elim x as (λ y. List ℕ) [ true ↦ ss | false ↦ put_set ss place (unions ss xs 0) ]) (sym t ∙ q ∙ ap (λ (n : ℕ). eqb n 0) p)
