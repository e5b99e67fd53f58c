-- Contexts with the same words in a table mean the same there: so of a slice that is written elsewhere, or that has more words behind it.
-- Assumes nothing.
use Rattle.std.specs.Prelude.{ℕ, zero, suc, ◌<◌, ◌≡◌, refl, not, List, ◌∷◌, eqb}
use Rattle.std.proofs.Common.{sym, ap, ap₂, ◌∙◌, subst}
use Rattle.def_effects.specs.Effects.{AliasingEffect}
use Rattle.def_effects.specs.Keys.{effect_key}
use Rattle.def_key_order.proofs.Laws.KeyOrder.{keys}
use Rattle.lent_tables.specs.declared.Table.{Table}
use Rattle.lent_tables.specs.Words.{field}
use Rattle.lent_effects.specs.Records.{effect_in}
use Rattle.lent_effects.proofs.Laws.EffectFrames.{effect_cong}
use Rattle.lent_keys.proofs.Laws.KeyFrames.{head_cong}
use Rattle.lent_layout.specs.Layout as Layout
use Rattle.lent_layout.specs.Context.{ContextWords}
use Rattle.lent_context.specs.Lent.{effects_in, interned_key, is_keyed, key_here}
use Rattle.lent_context.proofs.Laws.Ordered.{OrderedTo, Ordered}
use Rattle.lent_context.proofs.Laws.Numbered.{NumberedTo, Numbered}
use Rattle.base_search.proofs.Laws.Counting.{count_same}
use Rattle.lent_order.specs.Order.{order_at}

-- a table has the same words in both lists
abbrev pub SameWords : Table → List ℕ → List ℕ → Type 0
SameWords u c d = (j v : ℕ) → field u d j v ≡ field u c j v

effects_cong : (t : Table) (c d : List ℕ) (k n : ℕ) → SameWords t c d → effects_in t d k n ≡ effects_in t c k n
unfolding effects_in
effects_cong t c d k zero h = refl
effects_cong t c d k (suc n) h = ap₂ (λ (x : AliasingEffect) (xs : List AliasingEffect). x ∷ xs) (effect_cong t c d k (h k)) (effects_cong t c d (suc k) n h)

module _ (c d : ContextWords) where
  pub interned_same : SameWords Layout.interned c.effects d.effects → d.effect_count ≡ c.effect_count → effects_in Layout.interned d.effects 0 d.effect_count ≡ effects_in Layout.interned c.effects 0 c.effect_count
  interned_same h e = effects_cong Layout.interned c.effects d.effects 0 d.effect_count h ∙ ap (effects_in Layout.interned c.effects 0) e

  -- a number whose words stay
  module _ (v : ℕ) (h : (w : ℕ) → field Layout.cached d.keys v w ≡ field Layout.cached c.keys v w) where
    pub keyed_same : is_keyed d v ≡ is_keyed c v
    unfolding is_keyed
    keyed_same = ap (λ (x : ℕ). not (eqb x 0)) (h 0)

    pub here_same : key_here d v ≡ key_here c v
    unfolding key_here
    here_same = head_cong Layout.cached c.keys d.keys v h

  -- an order of effects whose words and records stay
  pub ordered_same : SameWords Layout.interned c.effects d.effects → SameWords Layout.effect_order c.effect_order d.effect_order → d.effect_count ≡ c.effect_count → Ordered c → Ordered d
  unfolding order_at
  ordered_same h g e o = subst (λ (n : ℕ). OrderedTo n d) (sym e) (record {
    inside = λ j l. subst (λ (x : ℕ). x < c.effect_count) (sym (g j 0)) (o.inside j l);
    ascends = λ j l. ap₂ keys.compare (at j) (at (suc j)) ∙ o.ascends j l;
  })
    where
      at : (j : ℕ) → interned_key d (field Layout.effect_order d.effect_order j 0) ≡ interned_key c (field Layout.effect_order c.effect_order j 0)
      at j =
          ap effect_key (effect_cong Layout.interned c.effects d.effects (field Layout.effect_order d.effect_order j 0) (h (field Layout.effect_order d.effect_order j 0))
          ∙ ap (effect_in Layout.interned c.effects) (g j 0))

  -- an order of cached keys whose words and records stay
  pub numbered_same : SameWords Layout.cached c.keys d.keys → SameWords Layout.key_order c.key_order d.key_order → d.key_count ≡ c.key_count → Numbered c → Numbered d
  unfolding order_at
  numbered_same h g e o = subst (λ (n : ℕ). NumberedTo n d) (sym e) (record {
    inside = λ j l. subst (λ (x : ℕ). x < 512) (sym (g j 0)) (o.inside j l);
    there = λ j l. ap (is_keyed d) (g j 0) ∙ keyed (field Layout.key_order c.key_order j 0) ∙ o.there j l;
    ascends = λ j l. ap₂ keys.compare (at j) (at (suc j)) ∙ o.ascends j l;
    counted = count_same (is_keyed c) (is_keyed d) 512 (λ x l. keyed x) ∙ o.counted;
    zero_none = keyed 0 ∙ o.zero_none;
  })
    where
      keyed : (v : ℕ) → is_keyed d v ≡ is_keyed c v
      keyed v = keyed_same v (h v)

      at : (j : ℕ) → key_here d (field Layout.key_order d.key_order j 0) ≡ key_here c (field Layout.key_order c.key_order j 0)
      at j = ap (key_here d) (g j 0) ∙ here_same (field Layout.key_order c.key_order j 0) (h (field Layout.key_order c.key_order j 0))
