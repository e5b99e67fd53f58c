-- Laws by which the code of interning and of numbers meets the definition. Assumes nothing.
use Rattle.std.specs.Prelude.{ℕ, ◌+◌, ◌≤◌, ◌<◌, ◌≡◌, Option, None, Some, Result, Ok, Err}
use Rattle.std.proofs.Common.{add-one, ap₂, ◌∙◌}
use Rattle.std.proofs.Math.Path.{refl, sym, ap}
use mathlib.Core.List.{List}
use Rattle.def_effects.specs.declared.Place.{Place}
use Rattle.def_effects.specs.Effects.{AliasingEffect}
use Rattle.def_effects.specs.Keys.{EffectKey, effect_key}
use Rattle.def_transfer.specs.Monad.{Res, ok, refused, return, refuse}
use Rattle.def_transfer.specs.Tables.{World}
use Rattle.def_transfer.specs.State.{ask, change}
use Rattle.def_transfer.specs.Context.{refreshed, put_effect, intern_new, intern_effect, set_next, fresh_number, cache, or_fresh, get_or_create_value_id}
use Rattle.lent_effects.specs.declared.AliasingEffect.{AliasingEffect as Head}
use Rattle.lent_effects.specs.Records as Records
use Rattle.lent_effects.specs.Records.{effect_with, head_in, effect_in, counted_places}
use Rattle.lent_order.specs.Order.{order_at, inserted}
use Rattle.lent_layout.specs.Layout as Layout
use Rattle.lent_layout.specs.Context.{ContextWords, with_effects}
use Rattle.lent_context.specs.Lent as Lent
use Rattle.lent_context.specs.Lent.{effect_at}
use Rattle.lent_work.specs.declared.Run.{Run}
use Rattle.laws_monad.proofs.Laws.Answers.{bind_ok, bind_fails, then_ok, if_le, if_gt}
use Rattle.lent_world.specs.World.{lent, world}
use Rattle.effect_parts.specs.Parts.{with_session}
use Rattle.effect_intern.specs.Interning.{chosen}

-- ---- interning

module _ (vs ss : List ℕ) (cs : ContextWords) (os : List ℕ) (r : Run) (e : Head) (ps : List Place) (key : EffectKey) (same : key ≡ effect_key (effect_with e ps)) (s : Result ℕ ℕ) (h : s ≡ Lent.effect_spot cs key) where
  -- what the search ended at is what the definition finds
  asked : (x : Result ℕ ℕ) → s ≡ x → Lent.find_effect cs (effect_key (effect_with e ps)) ≡ effect_at cs x
  unfolding Lent.find_effect
  asked x q = ap (effect_at cs) (ap (Lent.effect_spot cs) (sym same) ∙ sym h ∙ q)

  -- the effect was interned before
  -- it is used, with the diagnostic of the one that was given
  pub intern_found : (i j : ℕ) (x y : Head) → s ≡ Ok i → j ≡ order_at Layout.effect_order cs.effect_order i → x ≡ head_in Layout.interned cs.effects j → ((a b : List Place) → effect_with y b ≡ refreshed (effect_with e a) (effect_with x b))
      → intern_effect (effect_with e ps) (world vs ss cs os r) ≡ ok (effect_with y (chosen cs (Some j) ps)) (world vs ss cs os r)
  unfolding intern_effect intern_new ask return effect_in
  intern_found i j x y q p g z =
      bind_ok _ _ _ _ _ _ (ap (λ (o : Option AliasingEffect). ok o (world vs ss cs os r)) (asked (Ok i) q ∙ ap (λ (w : ℕ). Some (effect_in Layout.interned cs.effects w)) (sym p)))
      (ap (λ (a : AliasingEffect). ok a (world vs ss cs os r))
      (ap (λ (w : Head). refreshed (effect_with e ps) (effect_with w (counted_places Layout.interned cs.effects j Records.captures))) (sym g) ∙ sym (z ps (counted_places Layout.interned cs.effects j Records.captures))))

  -- the table is full
  -- "8 a 2,049th key to intern"
  pub intern_full : (p : ℕ) → s ≡ Err p → 2048 ≤ cs.effect_count → intern_effect (effect_with e ps) (world vs ss cs os r) ≡ refused 8 (world vs ss cs os r)
  unfolding intern_effect intern_new ask refuse
  intern_full p q l =
      bind_ok _ _ _ _ _ _ (ap (λ (o : Option AliasingEffect). ok o (world vs ss cs os r)) (asked (Err p) q))
      (bind_ok _ _ _ _ _ _ refl (if_le 2048 cs.effect_count _ _ _ _ l refl))

  -- a new key: its effect is appended, put into the order where the search ended, and counted
  module _ (p n : ℕ) (es fs : List ℕ) (q : s ≡ Err p) (m : n ≡ cs.effect_count) (g : es ≡ Records.put_effect Layout.interned cs.effects n (effect_with e ps))
      (f : fs ≡ inserted Layout.effect_order p n n cs.effect_order) where
    added : Lent.add_effect cs (effect_with e ps) ≡ with_effects es fs (n + 1) cs
    unfolding Lent.add_effect Lent.added_at
    added =
        ap (λ (x : Result ℕ ℕ). Lent.added_at cs (Lent.place_of x) (effect_with e ps)) (ap (Lent.effect_spot cs) (sym same) ∙ sym h ∙ q)
        ∙ ap (λ (i : ℕ). with_effects (Records.put_effect Layout.interned cs.effects i (effect_with e ps)) (inserted Layout.effect_order p i i cs.effect_order) (i + 1) cs) (sym m)
        ∙ ap₂ (λ (x y : List ℕ). with_effects x y (n + 1) cs) (sym g) (sym f)

    pub intern_new_is : n < 2048 → intern_effect (effect_with e ps) (world vs ss cs os r) ≡ ok (effect_with e (chosen cs None ps)) (world vs ss (with_effects es fs (n + 1) cs) os r)
    unfolding intern_effect intern_new put_effect ask change return
    intern_new_is l =
        bind_ok _ _ _ _ _ _ (ap (λ (o : Option AliasingEffect). ok o (world vs ss cs os r)) (asked (Err p) q))
        (bind_ok _ _ _ _ _ _ (ap (λ (i : ℕ). ok i (world vs ss cs os r)) (sym m)) (if_gt 2048 n _ _ _ _ l
        (then_ok _ _ _ _ _ _ refl
        (ap (λ (c : ContextWords). ok (effect_with e ps) (world vs ss c os r)) added))))

-- ---- numbers under keys

-- what the search ended at is what the definition finds
pub number_asked : (cs : ContextWords) (k : EffectKey) (s : Result ℕ ℕ) (f : Option ℕ) → s ≡ Lent.key_spot cs k → f ≡ Lent.number_at cs s → f ≡ Lent.find_number cs k
unfolding Lent.find_number
number_asked cs k s f h g = g ∙ ap (Lent.number_at cs) h

-- and where it ended the new number takes its place
pub number_put : (cs ds : ContextWords) (k : EffectKey) (s : Result ℕ ℕ) (p n : ℕ) → s ≡ Lent.key_spot cs k → p ≡ Lent.place_of s → ds ≡ Lent.cached_at cs p n k → ds ≡ Lent.put_key cs n k
unfolding Lent.put_key
number_put cs ds k s p n h e g = g ∙ ap (λ (i : ℕ). Lent.cached_at cs i n k) (e ∙ ap Lent.place_of h)

module _ (vs ss : List ℕ) (cs : ContextWords) (os : List ℕ) (r : Run) (k : EffectKey) (f : Option ℕ) (h : f ≡ Lent.find_number cs k) where
  asks : (o : Option ℕ) → f ≡ o → (x : Res (World lent) ℕ) → or_fresh k o (world vs ss cs os r) ≡ x → get_or_create_value_id k (world vs ss cs os r) ≡ x
  unfolding get_or_create_value_id ask
  asks o q x g = bind_ok _ _ _ _ _ _ (ap (λ (p : Option ℕ). ok p (world vs ss cs os r)) (sym h ∙ q)) g

  -- the number is cached
  pub number_found : (n : ℕ) → f ≡ Some n → get_or_create_value_id k (world vs ss cs os r) ≡ ok n (world vs ss cs os r)
  unfolding or_fresh return
  number_found n q = asks (Some n) q _ refl

  -- no number is left
  -- "9 a fresh number is needed at next 512"
  pub number_none : f ≡ None → 512 ≤ r.session.next → get_or_create_value_id k (world vs ss cs os r) ≡ refused 9 (world vs ss cs os r)
  unfolding or_fresh fresh_number ask refuse
  number_none q l = asks None q _ (bind_fails _ _ _ _ _ (bind_ok _ _ _ _ _ _ refl (if_le 512 r.session.next _ _ _ _ l refl)))

  -- a fresh number
  -- it is cached under the key, and the session's next number moves
  pub number_new : (ds : ContextWords) (u : Run) → f ≡ None → r.session.next < 512 → ds ≡ Lent.put_key cs r.session.next k
      → u ≡ with_session (record { next = r.session.next + 1; access = r.session.access; span = r.session.span; entries = r.session.entries }) r
      → get_or_create_value_id k (world vs ss cs os r) ≡ ok r.session.next (world vs ss ds os u)
  unfolding or_fresh fresh_number set_next cache ask change return
  number_new ds u q l g z =
      asks None q _
      (bind_ok _ _ _ _ _ _ (bind_ok _ _ _ _ _ _ refl (if_gt 512 r.session.next _ _ _ _ l (then_ok _ _ _ _ _ _ refl refl)))
      (then_ok _ _ _ _ _ _ refl
      (ap₂ (λ (c : ContextWords) (y : Run). ok r.session.next (world vs ss c os y)) (sym g)
      (ap (λ (n : ℕ). with_session (record { next = n; access = r.session.access; span = r.session.span; entries = r.session.entries }) r) (sym (add-one r.session.next)) ∙ sym z))))
