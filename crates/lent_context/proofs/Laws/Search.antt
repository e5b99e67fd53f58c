-- Laws by which the searches of a context's tables meet the definitions. Assumes nothing.
use Rattle.std.specs.Prelude.{ℕ, suc, ◌+◌, ◌-◌, ◌≤◌, ◌<◌, ◌≡◌, refl, Bool, true, false, not, List, [], ◌∷◌, eqb, Option, None, Some, Ok}
use Rattle.std.proofs.Common.{arith, add-one, sym, ap, ap₂, ◌∙◌, eq-eqb, ne_eqb}
use Rattle.def_effects.specs.Effects.{AliasingEffect}
use Rattle.def_effects.specs.Keys.{EffectKey, effect_key, eq_key}
use Rattle.def_transfer.specs.Pure.{find_effect as first_under}
use Rattle.lent_tables.specs.declared.Table.{Table}
use Rattle.lent_effects.specs.Records.{effect_in}
use Rattle.lent_keys.specs.KeyRecords as Keys
use Rattle.lent_layout.specs.Layout as Layout
use Rattle.lent_layout.specs.Context.{ContextWords, with_keys}
use Rattle.lent_context.specs.Lent.{effects_in, is_keyed, key_count, number_at, one_more, cached_at}
use Rattle.lent_order.specs.Order.{order_at, inserted}
use Rattle.lent_tables.specs.Words.{field}
use Rattle.base_tests.specs.Tests.{ite}

-- ---- the interned effects, one after the other

-- the effects that are left, with one to look at
pub effects_more : (t : Table) (c : List ℕ) (k n : ℕ) → k < n → effects_in t c k (n - k) ≡ effect_in t c k ∷ effects_in t c (k + 1) (n - (k + 1))
unfolding effects_in
effects_more t c k n h =
    let m : n - k ≡ suc (n - (k + 1)) = omega arith in
    ap (effects_in t c k) m ∙ ap (λ (z : ℕ). effect_in t c k ∷ effects_in t c z (n - (k + 1))) (sym (add-one k))

-- the effects that are left when none is
-- the loop's end
pub effects_none : (t : Table) (c : List ℕ) (k n : ℕ) → n ≤ k → effects_in t c k (n - k) ≡ []
unfolding effects_in
effects_none t c k n h =
    let m : n - k ≡ 0 = omega arith in
    ap (effects_in t c k) m

-- a search ends at an effect under the key
pub search_ends : (e : AliasingEffect) (es : List AliasingEffect) (k : EffectKey) → eq_key k (effect_key e) ≡ true → first_under (e ∷ es) k ≡ Some e
unfolding first_under
search_ends e es k h = ap (λ (b : Bool). elim b as (λ x. Option AliasingEffect) [ true ↦ Some e | false ↦ first_under es k ]) h

-- a search passes over an effect under another key
pub search_goes : (e : AliasingEffect) (es : List AliasingEffect) (k : EffectKey) → eq_key k (effect_key e) ≡ false → first_under (e ∷ es) k ≡ first_under es k
unfolding first_under
search_goes e es k h = ap (λ (b : Bool). elim b as (λ x. Option AliasingEffect) [ true ↦ Some e | false ↦ first_under es k ]) h

-- a search of nothing finds nothing
pub search_none : (k : EffectKey) → first_under [] k ≡ None
unfolding first_under
search_none k = refl

-- ---- cached numbers

-- the number at a place of the order: one with a key, or none
pub number_there : (c : ContextWords) (j r w : ℕ) → r ≡ order_at Layout.key_order c.key_order j → w ≡ field Layout.cached c.keys r 0 → (w ≡ 0 → ⊥) → Some r ≡ number_at c (Ok j)
unfolding is_keyed
number_there c j r w e h n =
    sym (ap (λ (x : ℕ). ite (not (eqb (field Layout.cached c.keys x 0) 0)) (Some x) None) (sym e) ∙ ap (λ (b : Bool). ite (not b) (Some r) None) (ne_eqb (field Layout.cached c.keys r 0) 0 (λ z. n (h ∙ z))))

pub number_nowhere : (c : ContextWords) (j r w : ℕ) → r ≡ order_at Layout.key_order c.key_order j → w ≡ field Layout.cached c.keys r 0 → w ≡ 0 → None ≡ number_at c (Ok j)
unfolding is_keyed
number_nowhere c j r w e h z =
    sym (ap (λ (x : ℕ). ite (not (eqb (field Layout.cached c.keys x 0) 0)) (Some x) None) (sym e) ∙ ap (λ (b : Bool). ite (not b) (Some r) None) (eq-eqb (field Layout.cached c.keys r 0) 0 (sym h ∙ z)))

-- a number cached at a place of the order
pub put_cached : (c : ContextWords) (ks os : List ℕ) (p n i m : ℕ) (key : EffectKey) → i ≡ n → ks ≡ Keys.put_key Layout.cached c.keys i key → os ≡ inserted Layout.key_order p n (key_count c) c.key_order → m ≡ one_more (key_count c) → with_keys ks os m c ≡ cached_at c p n key
unfolding cached_at
put_cached c ks os p n i m key hi hk ho hm =
    ap (λ (l : List ℕ). with_keys l os m c) (hk ∙ ap (λ (j : ℕ). Keys.put_key Layout.cached c.keys j key) hi) ∙ ap₂ (λ (l : List ℕ) (x : ℕ). with_keys (Keys.put_key Layout.cached c.keys n key) l x c) ho hm
