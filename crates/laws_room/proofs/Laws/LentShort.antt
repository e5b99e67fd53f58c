-- A context and the same with zeros behind its interned effects and behind their order: each read is the same of both, and so is each change, where
-- there are records for what it adds. Assumes nothing.
use Rattle.std.specs.Prelude.{ℕ, ◌+◌, ◌*◌, ◌≤◌, ◌≡◌, List, ◌++◌, length, Some, Result, Ok, Err}
use Rattle.std.proofs.Common.{arith, ◌∙◌}
use Rattle.std.proofs.Math.Path.{refl, ap, ap₂, fun_ext}
use Rattle.def_effects.specs.Effects.{AliasingEffect}
use Rattle.def_effects.specs.Keys.{EffectKey, effect_key}
use Rattle.def_key_order.specs.KeyOrder.{compare_keys}
use Rattle.def_transfer.specs.Diagnostics.{Diagnostic}
use Rattle.base_search.specs.Search.{along}
use Rattle.base_search.proofs.Laws.Search.{Finds, along_finds}
use Rattle.lent_tables.specs.Words.{index, field}
use Rattle.lent_tables.proofs.Laws.Word.{within_word}
use Rattle.lent_effects.specs.Records.{effect_in, put_effect}
use Rattle.lent_effects.proofs.Laws.EffectFrames.{effect_cong}
use Rattle.lent_order.specs.Order.{order_at, inserted}
use Rattle.lent_copies.specs.Copies.{zeros}
use Rattle.lent_layout.specs.Layout as Layout
use Rattle.lent_layout.specs.Context.{ContextWords, with_effects}
use Rattle.lent_context.specs.Lent.{interned_key, effect_spot, effect_at, place_of, find_effect, add_effect, added_at, put_key, cached_at, key_spot, key_here, put_link, make_read, add_diagnostic}
use Rattle.lent_context.specs.Abstract.{abstract}
use Rattle.lent_world.proofs.Laws.Frames.{interned_same}
use Rattle.laws_room.specs.Room.{size}
use Rattle.laws_room.proofs.Laws.Both.{Behind, field_behind, effect_both, insert_both}

-- how many words so many interned effects take
abbrev pub words_for : ℕ → ℕ
words_for room = room * (Layout.interned).width

-- a context with m zeros behind its interned effects, and n behind their order
abbrev pub longer : ℕ → ℕ → ContextWords → ContextWords
longer m n c = with_effects (c.effects ++ zeros m) (c.effect_order ++ zeros n) c.effect_count c

-- ---- both are read alike

module _ (m n : ℕ) (c : ContextWords) where
  -- an interned effect
  effect_alike : (r : ℕ) → effect_in Layout.interned (c.effects ++ zeros m) r ≡ effect_in Layout.interned c.effects r
  effect_alike r = effect_cong Layout.interned c.effects (c.effects ++ zeros m) r (field_behind c.effects m Layout.interned r)

  -- and the one at a place of the order
  at_alike : (j : ℕ) → effect_in Layout.interned (c.effects ++ zeros m) (order_at Layout.effect_order (c.effect_order ++ zeros n) j) ≡ effect_in Layout.interned c.effects (order_at Layout.effect_order c.effect_order j)
  unfolding order_at
  at_alike j =
      ap (effect_in Layout.interned (c.effects ++ zeros m)) (field_behind c.effect_order n Layout.effect_order j 0) ∙ effect_alike (field Layout.effect_order c.effect_order j 0)

  -- where a key stands in the order, or would stand
  spot_alike : (k : EffectKey) → effect_spot (longer m n c) k ≡ effect_spot c k
  unfolding effect_spot
  spot_alike k = ap (λ (f : ℕ → _). along f c.effect_count) (fun_ext (λ j. ap (λ (e : AliasingEffect). compare_keys k (effect_key e)) (at_alike j)))

  -- and what stands there
  pub found_alike : (k : EffectKey) → find_effect (longer m n c) k ≡ find_effect c k
  unfolding find_effect
  found_alike k = ap (effect_at (longer m n c)) (spot_alike k) ∙ go (effect_spot c k)
    where
      go : (s : Result ℕ ℕ) → effect_at (longer m n c) s ≡ effect_at c s
      go (Ok j) = ap Some (at_alike j)
      go (Err q) = refl

-- both mean the same plain tables
pub pad_means : (m n : ℕ) (c : ContextWords) → abstract (longer m n c) ≡ abstract c
pad_means m n c = λ j. record {
  interned = interned_same c (longer m n c) (field_behind c.effects m Layout.interned) refl j;
  cached = (abstract c).cached;
  links = (abstract c).links;
  functions = (abstract c).functions;
  identifiers = (abstract c).identifiers;
  transitive = (abstract c).transitive;
  diagnostics = (abstract c).diagnostics;
}

-- ---- both are changed alike

module _ (room m n : ℕ) where
  -- a context with room for so many effects, and the same with m words more for effects and n for their order
  -- room is what there is at the least
  pub record Pads (c d : ContextWords) : Type 0 where
    pub effects : words_for room ≤ length c.effects
    pub order : room ≤ length c.effect_order
    pub more : d ≡ longer m n c

  -- a key stands at the end of the order at the latest
  spot_most : (c : ContextWords) (k : EffectKey) → place_of (effect_spot c k) ≤ c.effect_count
  unfolding effect_spot
  spot_most c k = go (effect_spot c k) (along_finds (λ j. compare_keys k (interned_key c (order_at Layout.effect_order c.effect_order j))) c.effect_count)
    where
      go : (s : Result ℕ ℕ) → Finds (λ j. compare_keys k (interned_key c (order_at Layout.effect_order c.effect_order j))) 0 c.effect_count s → place_of s ≤ c.effect_count
      go (Ok j) h = let z = h.2 in omega arith
      go (Err p) h = h.1

  -- an effect, where there is a record for it
  pub effect_pads : {c d : ContextWords} → Pads c d → (e : AliasingEffect) → d.effect_count + size (effect_key e) ≤ room → Pads (add_effect c e) (add_effect d e)
  unfolding add_effect added_at index
  effect_pads {c} {d} p e l = record { effects = written.long; order = put_in.long; more = ap (λ (x : ContextWords). add_effect x e) p.more ∙ same }
    where
      k : ℕ
      k = c.effect_count

      place : ℕ
      place = place_of (effect_spot c (effect_key e))

      one_more : k + 1 ≤ room
      one_more = let a = ap (λ (x : ContextWords). x.effect_count) p.more in omega arith

      written : Behind (words_for room) m (put_effect Layout.interned c.effects k e) (put_effect Layout.interned (c.effects ++ zeros m) k e)
      written =
          effect_both Layout.interned k (words_for room) m (λ w y. let v = within_word Layout.interned k w y in let o = one_more in omega arith) c.effects (c.effects ++ zeros m) e (record { long = p.effects; more = refl })

      put_in : Behind room n (inserted Layout.effect_order place k k c.effect_order) (inserted Layout.effect_order place k k (c.effect_order ++ zeros n))
      put_in =
          insert_both Layout.effect_order k room n (λ j h y. let o = one_more in omega arith) place k c.effect_order (c.effect_order ++ zeros n) (spot_most c (effect_key e)) (record { long = p.order; more = refl })

      same : add_effect (longer m n c) e ≡ longer m n (add_effect c e)
      same =
          ap (λ (q : Result ℕ ℕ). added_at (longer m n c) (place_of q) e) (spot_alike m n c (effect_key e))
          ∙ ap₂ (λ (es os : List ℕ). with_effects es os (k + 1) c) written.more put_in.more

  -- a key
  pub key_pads : {c d : ContextWords} → Pads c d → (v : ℕ) (k : EffectKey) → Pads (put_key c v k) (put_key d v k)
  unfolding put_key cached_at key_spot key_here
  key_pads p v k = record { effects = p.effects; order = p.order; more = ap (λ (x : ContextWords). put_key x v k) p.more }

  -- a link
  pub link_pads : {c d : ContextWords} → Pads c d → (v f : ℕ) → Pads (put_link c v f) (put_link d v f)
  unfolding put_link
  link_pads p v f = record { effects = p.effects; order = p.order; more = ap (λ (x : ContextWords). put_link x v f) p.more }

  -- context places made Read
  pub read_pads : {c d : ContextWords} → Pads c d → (f i : ℕ) → Pads (make_read c f i) (make_read d f i)
  unfolding make_read
  read_pads p f i = record { effects = p.effects; order = p.order; more = ap (λ (x : ContextWords). make_read x f i) p.more }

  -- a diagnostic
  pub diagnostic_pads : {c d : ContextWords} → Pads c d → (i : ℕ) (x : Diagnostic) → Pads (add_diagnostic c i x) (add_diagnostic d i x)
  unfolding add_diagnostic
  diagnostic_pads p i x = record { effects = p.effects; order = p.order; more = ap (λ (y : ContextWords). add_diagnostic y i x) p.more }
