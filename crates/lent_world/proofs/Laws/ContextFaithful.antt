-- Each write of a lent context means the plain one. Assumes nothing.
use Prim.Native.Nat.{ℕ, suc, ◌+◌, ◌*◌, ◌≤◌, ◌<◌}
use Rattle.std.specs.Prelude.{◌≡◌, Bool, true, false, List, [], ◌∷◌, ◌++◌, Option, None, Some, Result, Ok, Err}
use Rattle.std.proofs.Math.Path.{refl, ap, ap₂, subst, fun_ext}
use Rattle.std.proofs.Common.{sym, ◌∙◌, length-set}
use native.Mathlib.Omega.{arith}
use lib.Dec.{leb→le}
use Rattle.std.proofs.Math.ListN.{length}
use Rattle.def_effects.specs.Effects.{AliasingEffect}
use Rattle.def_effects.specs.Keys.{EffectKey, effect_key}
use Rattle.def_transfer.specs.Diagnostics.{Diagnostic}
use Rattle.def_transfer.specs.Pure.{pure, at, read_only_in, with_interned, with_cached, with_links, with_functions, with_diagnostics}
use Rattle.def_transfer.specs.Pure as Pure
use Rattle.lent_tables.specs.Words.{end, field}
use Rattle.lent_tables.proofs.Laws.Word.{places_cong}
use Rattle.lent_effects.specs.Records.{put_effect}
use Rattle.lent_effects.proofs.Laws.EffectFrames.{effect_length, effect_cong, effect_record}
use Rattle.lent_effects.proofs.Laws.Back.{effect_back}
use Rattle.base_search.proofs.Laws.Search.{Between}
use Rattle.base_search.proofs.Laws.Ascending.{Ascends}
use Rattle.def_key_order.specs.KeyOrder.{compare_keys}
use Rattle.def_key_order.proofs.Laws.KeyOrder.{keys}
use Rattle.lent_order.specs.Order.{order_at}
use Rattle.lent_order.proofs.Laws.Order.{insert_length, insert_inside, insert_each, insert_ascends}
use Rattle.lent_keys.specs.KeyRecords.{option_in, put_option, key_in}
use Rattle.lent_keys.specs.KeyRecords as Keys
use Rattle.lent_keys.proofs.Laws.KeyFrames.{key_cong, key_record, key_length, option_cong, option_record, option_length}
use Rattle.lent_layout.specs.Layout as Layout
use Rattle.lent_layout.specs.Context.{ContextWords}
use Rattle.lent_context.specs.Lent.{effects_in, interned_count, interned_key, effect_spot, effect_at, place_of, find_effect, added_at, add_effect, key_at, is_keyed, key_here, key_count, key_spot, find_number, one_more, cached_at, put_key, put_link, make_read, diagnostics_in, instance_count, add_diagnostic}
use Rattle.lent_context.proofs.Laws.ReadMade.{read_other, read_made}
use Rattle.lent_context.proofs.Laws.Ordered.{OrderedTo, Ordered, Parts, parts}
use Rattle.lent_context.proofs.Laws.Numbered.{NumberedTo, Numbered, Apart, stands_apart, keyed_at, keyed_if, keyless_if}
use Rattle.base_search.proofs.Laws.Counting.{count_fewer, count_without}
use Rattle.base_tests.proofs.Laws.Bool.{never}
use Rattle.base_tests.proofs.Laws.Choice.{ite_lt}
use Rattle.def_faithful.specs.Ranges.{Fresh, Short}
use Rattle.lent_world.proofs.Laws.StateFaithful.{at_is}
use Rattle.lent_context.specs.Abstract.{abstract, function_in}
use Rattle.lent_world.proofs.Laws.Frames.{keyed_same, here_same, ordered_same, numbered_same}
use Rattle.lent_world.proofs.Laws.Back.{captures_few, key_back, link_back, effect_appended, diagnostic_appended}

-- a context that has room for whatever an instruction may write, and whose interned effects and cached keys are in order
-- a context place is written only where one stands, and identifiers and functions are not
pub record FitContext (c : ContextWords) : Type 0 where
  pub links : length c.links ≡ 1024
  pub keys : length c.keys ≡ 14336
  pub key_order : length c.key_order ≡ 512
  pub effects : length c.effects ≡ 200704
  pub effect_order : length c.effect_order ≡ 2048
  pub diagnostics : length c.diagnostics ≡ 256
  pub ordered : Ordered c
  pub numbered : Numbered c

-- ---- interned effects

-- the order, with one more: where the search for its key ended
module _ (c : ContextWords) (e : AliasingEffect) (h : FitContext c) (l : interned_count c < 2048) (s : Short (effect_key e)) (p : ℕ) (low : p ≤ interned_count c)
    (apart_at : Between (λ j. compare_keys (effect_key e) (interned_key c (order_at Layout.effect_order c.effect_order j))) (interned_count c) p) where
  abbrev n : ℕ
  n = interned_count c

  -- the effects with the new one, and the context with it
  abbrev b : List ℕ
  b = put_effect Layout.interned c.effects n e

  abbrev d : ContextWords
  d = added_at c p e

  -- keys of the records that were there, and of the new one
  old_key : (r : ℕ) → r < n → interned_key d r ≡ interned_key c r
  unfolding added_at
  old_key r q = ap effect_key (effect_cong Layout.interned c.effects b r (λ v. effect_record Layout.interned c.effects n e r v (λ x. omega arith)))

  new_key : interned_key d n ≡ effect_key e
  unfolding added_at
  new_key = let x = h.effects in ap effect_key (effect_back Layout.interned c.effects n refl l (let z : 0 + n * 98 + 98 ≤ length c.effects = omega arith in z) e (captures_few e s))

  order_long : end Layout.effect_order ≤ length c.effect_order
  unfolding end
  order_long = let x = h.effect_order in omega arith

  above : Ascends keys (interned_key d) (order_at Layout.effect_order c.effect_order) n
  above j q = ap₂ keys.compare (at j (omega arith)) (at (suc j) q) ∙ h.ordered.ascends j q
    where
      at : (i : ℕ) → i < n → interned_key d (order_at Layout.effect_order c.effect_order i) ≡ interned_key c (order_at Layout.effect_order c.effect_order i)
      at i r = old_key (order_at Layout.effect_order c.effect_order i) (h.ordered.inside i r)

  between : Between (λ j. keys.compare (interned_key d n) (interned_key d (order_at Layout.effect_order c.effect_order j))) n p
  unfolding keys
  between = record { lower = λ j q. same j (omega arith) ∙ apart_at.lower j q; upper = λ j q r. same j r ∙ apart_at.upper j q r }
    where
      same : (j : ℕ) → j < n → compare_keys (interned_key d n) (interned_key d (order_at Layout.effect_order c.effect_order j)) ≡ compare_keys (effect_key e) (interned_key c (order_at Layout.effect_order c.effect_order j))
      same j r = ap₂ compare_keys new_key (old_key (order_at Layout.effect_order c.effect_order j) (h.ordered.inside j r))

  ordered_to : OrderedTo (suc n) d
  unfolding added_at
  ordered_to = record {
    inside = insert_inside Layout.effect_order (omega arith) c.effect_order p n n low l order_long (omega arith) h.ordered.inside;
    ascends = insert_ascends Layout.effect_order (omega arith) c.effect_order p n n low l order_long keys (interned_key d) above between;
  }

  pub ordered_added : Ordered d
  unfolding added_at
  ordered_added = subst (λ (m : ℕ). OrderedTo m d) (let z : suc n ≡ n + 1 = omega arith in z) ordered_to

pub effect_fit : (c : ContextWords) (e : AliasingEffect) → FitContext c → interned_count c < 2048 → Short (effect_key e) → find_effect c (effect_key e) ≡ None → FitContext (add_effect c e)
unfolding find_effect add_effect added_at
effect_fit c e h l s z = record {
  links = h.links;
  keys = h.keys;
  key_order = h.key_order;
  effects = effect_length Layout.interned c.effects (interned_count c) e ∙ h.effects;
  effect_order = insert_length Layout.effect_order (place_of (effect_spot c (effect_key e))) (interned_count c) (interned_count c) c.effect_order ∙ h.effect_order;
  diagnostics = h.diagnostics;
  ordered = go (effect_spot c (effect_key e)) (parts c h.ordered (effect_key e)) z;
  numbered = numbered_same c (add_effect c e) (λ j v. refl) (λ j v. refl) refl h.numbered;
}
  where
    go : (x : Result ℕ ℕ) → Parts c h.ordered (effect_key e) x → effect_at c x ≡ None → Ordered (added_at c (place_of x) e)
    go (Ok j) b r = let x : ◌≡◌ {A = ℕ} 0 1 = cc in absurd (let y : ⊥ = omega arith in y)
    go (Err p) b r = ordered_added c e h l s p b.0 b.1

effects_added : (c : ContextWords) (e : AliasingEffect) → FitContext c → interned_count c < 2048 → Short (effect_key e)
    → effects_in Layout.interned (put_effect Layout.interned c.effects (interned_count c) e) 0 (interned_count c + 1) ≡ effects_in Layout.interned c.effects 0 (interned_count c) ++ (e ∷ [])
effects_added c e h l s =
    let x = h.effects in
    ap (effects_in Layout.interned (put_effect Layout.interned c.effects (interned_count c) e) 0) (let z : interned_count c + 1 ≡ suc (interned_count c) = omega arith in z)
    ∙ effect_appended Layout.interned c.effects (interned_count c) e refl l (let z : 0 + interned_count c * 98 + 98 ≤ length c.effects = omega arith in z) s

pub effect_add : (c : ContextWords) (e : AliasingEffect) → FitContext c → interned_count c < 2048 → Short (effect_key e) → abstract (add_effect c e) ≡ pure.add_effect (abstract c) e
unfolding add_effect added_at
effect_add c e h l s = ap (λ (es : List AliasingEffect). with_interned es (abstract c)) (effects_added c e h l s)

-- ---- cached numbers

-- the order, with one more: where the search for its key ended
module _ (c : ContextWords) (v : ℕ) (k : EffectKey) (h : FitContext c) (f : Fresh v) (s : Short k) (free : is_keyed c v ≡ false) (p : ℕ) (low : p ≤ key_count c)
    (apart_at : Between (λ j. compare_keys k (key_here c (order_at Layout.key_order c.key_order j))) (key_count c) p) where
  abbrev keyed : ℕ
  keyed = key_count c

  -- the context with the key
  abbrev kd : ContextWords
  kd = cached_at c p v k

  -- there is room for one more: number v has no key
  key_room : keyed < 512
  key_room = let x = count_fewer (is_keyed c) 512 v f.high free in let y = h.numbered.counted in omega arith

  -- the other numbers, and this one
  other_words : (r : ℕ) → (v ≡ r → ⊥) → (w : ℕ) → field Layout.cached kd.keys r w ≡ field Layout.cached c.keys r w
  unfolding cached_at
  other_words r n w = key_record Layout.cached c.keys v k r w n

  new_there : key_at kd v ≡ Some k
  unfolding key_at cached_at
  new_there =
      let x = f.high in
      let y = h.keys in
      key_back Layout.cached c.keys v k refl x (let z : 0 + v * 28 + 28 ≤ length c.keys = omega arith in z) (leb→le (length k.captures) 16 s)

  new_keyed : is_keyed kd v ≡ true
  new_keyed = keyed_if kd v k new_there

  new_here : key_here kd v ≡ k
  new_here = some_eq (key_here kd v) k (sym (keyed_at kd v new_keyed) ∙ new_there)
    where
      some_eq : (a b : EffectKey) → Some a ≡ Some b → a ≡ b
      some_eq a b e = cc

  -- a number that has a key is another one
  is_other : (r : ℕ) → is_keyed c r ≡ true → v ≡ r → ⊥
  is_other r e q = never (is_keyed c v) (ap (is_keyed c) q ∙ e) free

  old_keyed : (r : ℕ) → is_keyed c r ≡ true → is_keyed kd r ≡ true
  old_keyed r e = keyed_same c kd r (other_words r (is_other r e)) ∙ e

  old_here : (r : ℕ) → is_keyed c r ≡ true → key_here kd r ≡ key_here c r
  old_here r e = here_same c kd r (other_words r (is_other r e))

  key_order_long : end Layout.key_order ≤ length c.key_order
  unfolding end
  key_order_long = let x = h.key_order in omega arith

  key_above : Ascends keys (key_here kd) (order_at Layout.key_order c.key_order) keyed
  key_above j q = ap₂ keys.compare (at j (omega arith)) (at (suc j) q) ∙ h.numbered.ascends j q
    where
      at : (i : ℕ) → i < keyed → key_here kd (order_at Layout.key_order c.key_order i) ≡ key_here c (order_at Layout.key_order c.key_order i)
      at i r = old_here (order_at Layout.key_order c.key_order i) (h.numbered.there i r)

  key_between : Between (λ j. keys.compare (key_here kd v) (key_here kd (order_at Layout.key_order c.key_order j))) keyed p
  unfolding keys
  key_between = record { lower = λ j q. same j (omega arith) ∙ apart_at.lower j q; upper = λ j q r. same j r ∙ apart_at.upper j q r }
    where
      same : (j : ℕ) → j < keyed → compare_keys (key_here kd v) (key_here kd (order_at Layout.key_order c.key_order j)) ≡ compare_keys k (key_here c (order_at Layout.key_order c.key_order j))
      same j r = ap₂ compare_keys new_here (old_here (order_at Layout.key_order c.key_order j) (h.numbered.there j r))

  -- what holds of the new number and of those that were there holds of each place
  each_place : (P : ℕ → Type 0) → P v → ((r : ℕ) → r < 512 → is_keyed c r ≡ true → P r) → (j : ℕ) → j < suc keyed → P (order_at Layout.key_order kd.key_order j)
  unfolding cached_at
  each_place P new each =
      insert_each Layout.key_order (omega arith) c.key_order p v keyed low key_room key_order_long P new (λ i r. each (order_at Layout.key_order c.key_order i) (h.numbered.inside i r) (h.numbered.there i r))

  ascends_on : Ascends keys (key_here kd) (order_at Layout.key_order kd.key_order) (suc keyed)
  unfolding cached_at
  ascends_on = insert_ascends Layout.key_order (omega arith) c.key_order p v keyed low key_room key_order_long keys (key_here kd) key_above key_between

  numbered_to : NumberedTo (suc keyed) kd
  numbered_to = record {
    inside = each_place (λ r. r < 512) f.high (λ r l e. l);
    there = each_place (λ r. is_keyed kd r ≡ true) new_keyed (λ r l e. old_keyed r e);
    ascends = ascends_on;
    counted = count_without (is_keyed kd) (is_keyed c) 512 v f.high new_keyed (free, λ y n. sym (keyed_same c kd y (other_words y (λ e. n (sym e))))) ∙ ap suc h.numbered.counted;
    zero_none = keyed_same c kd 0 (other_words 0 (λ e. let x = f.low in omega arith)) ∙ h.numbered.zero_none;
  }

  pub numbered_added : Numbered kd
  unfolding cached_at one_more
  numbered_added = subst (λ (m : ℕ). NumberedTo m kd) (sym (ite_lt keyed 4294967295 (suc keyed) keyed (let w = key_room in omega arith))) numbered_to

pub key_fit : (c : ContextWords) (v : ℕ) (k : EffectKey) → FitContext c → Fresh v → Short k → key_at c v ≡ None → find_number c k ≡ None → FitContext (put_key c v k)
unfolding put_key cached_at
key_fit c v k h f s n z = record {
  links = h.links;
  keys = key_length Layout.cached c.keys v k ∙ h.keys;
  key_order = insert_length Layout.key_order (place_of (key_spot c k)) v (key_count c) c.key_order ∙ h.key_order;
  effects = h.effects;
  effect_order = h.effect_order;
  diagnostics = h.diagnostics;
  ordered = ordered_same c (put_key c v k) (λ j w. refl) (λ j w. refl) refl h.ordered;
  numbered = go (key_spot c k) (stands_apart c h.numbered k z);
}
  where
    go : (x : Result ℕ ℕ) → Apart c h.numbered k x → Numbered (cached_at c (place_of x) v k)
    go (Ok j) b = absurd b
    go (Err p) b = numbered_added c v k h f s (keyless_if c v n) p b.0 b.1

keys_put : (c : ContextWords) (v : ℕ) (k : EffectKey) → FitContext c → Fresh v → Short k → key_in Layout.cached (Keys.put_key Layout.cached c.keys v k) ≡ at (key_in Layout.cached c.keys) v (Some k)
keys_put c v k h f s =
    let x = f.high in
    let y = h.keys in
    fun_ext (at_is (key_in Layout.cached c.keys) (key_in Layout.cached (Keys.put_key Layout.cached c.keys v k)) v (Some k)
    (key_back Layout.cached c.keys v k refl f.high (let z : 0 + v * 28 + 28 ≤ length c.keys = omega arith in z) (leb→le (length k.captures) 16 s))
    (λ m n. key_cong Layout.cached c.keys (Keys.put_key Layout.cached c.keys v k) m (λ w. key_record Layout.cached c.keys v k m w n)))

pub key_put : (c : ContextWords) (v : ℕ) (k : EffectKey) → FitContext c → Fresh v → Short k → abstract (put_key c v k) ≡ pure.put_key (abstract c) v k
unfolding put_key cached_at
key_put c v k h f s = ap (λ (ks : ℕ → Option EffectKey). with_cached ks (abstract c)) (keys_put c v k h f s)

-- ---- links

pub link_fit : (c : ContextWords) (v f : ℕ) → FitContext c → FitContext (put_link c v f)
unfolding put_link
link_fit c v f h = record {
  links = option_length Layout.links c.links v 0 (Some f) ∙ h.links;
  keys = h.keys;
  key_order = h.key_order;
  effects = h.effects;
  effect_order = h.effect_order;
  diagnostics = h.diagnostics;
  ordered = ordered_same c (put_link c v f) (λ j w. refl) (λ j w. refl) refl h.ordered;
  numbered = numbered_same c (put_link c v f) (λ j w. refl) (λ j w. refl) refl h.numbered;
}

links_put : (c : ContextWords) (v f : ℕ) → FitContext c → Fresh v → ◌≡◌ {A = ℕ → Option ℕ} (λ x. option_in Layout.links (put_option Layout.links c.links v 0 (Some f)) x 0) (at (λ x. option_in Layout.links c.links x 0) v (Some f))
links_put c v f h p =
    let x = p.high in
    let y = h.links in
    fun_ext (at_is (λ x. option_in Layout.links c.links x 0) (λ x. option_in Layout.links (put_option Layout.links c.links v 0 (Some f)) x 0) v (Some f)
    (link_back Layout.links c.links v f refl p.high (let z : 0 + v * 2 + 2 ≤ length c.links = omega arith in z))
    (λ m n. option_cong Layout.links c.links (put_option Layout.links c.links v 0 (Some f)) m 0 (λ w. option_record Layout.links c.links v 0 (Some f) m w n)))

pub link_put : (c : ContextWords) (v f : ℕ) → FitContext c → Fresh v → abstract (put_link c v f) ≡ pure.put_link (abstract c) v f
unfolding put_link
link_put c v f h p = ap (λ (ls : ℕ → Option ℕ). with_links ls (abstract c)) (links_put c v f h p)

-- ---- context places made Read

pub read_fit : (c : ContextWords) (f i : ℕ) → FitContext c → FitContext (make_read c f i)
unfolding make_read
read_fit c f i h = record {
  links = h.links;
  keys = h.keys;
  key_order = h.key_order;
  effects = h.effects;
  effect_order = h.effect_order;
  diagnostics = h.diagnostics;
  ordered = ordered_same c (make_read c f i) (λ j v. refl) (λ j v. refl) refl h.ordered;
  numbered = numbered_same c (make_read c f i) (λ j v. refl) (λ j v. refl) refl h.numbered;
}

functions_made : (c : ContextWords) (f i : ℕ) → function_in (make_read c f i) ≡ at (function_in c) f (read_only_in i (function_in c f))
unfolding make_read
functions_made c f i = fun_ext (at_is (function_in c) (function_in (make_read c f i)) f (read_only_in i (function_in c f)) own other)
  where
    own : function_in (make_read c f i) f ≡ read_only_in i (function_in c f)
    own = λ j. record { context = read_made f i c j; inside = (function_in c f).inside; tracked = (function_in c f).tracked }

    other : (g : ℕ) → ¬ (f ≡ g) → function_in (make_read c f i) g ≡ function_in c g
    other g n = λ j. record {
      context = places_cong Layout.contexts c.contexts (make_read c f i).contexts g 0 0 (field Layout.functions c.functions g 1) (read_other f i c g n) j;
      inside = (function_in c g).inside;
      tracked = (function_in c g).tracked;
    }

pub read_means : (c : ContextWords) (f i : ℕ) → abstract (make_read c f i) ≡ pure.make_read (abstract c) f i
unfolding make_read
read_means c f i = ap (λ (fs : ℕ → Pure.Function). with_functions fs (abstract c)) (functions_made c f i)

-- ---- diagnostics

pub diagnostic_fit : (c : ContextWords) (n : ℕ) (d : Diagnostic) → FitContext c → FitContext (add_diagnostic c n d)
unfolding add_diagnostic
diagnostic_fit c n d h = record {
  links = h.links;
  keys = h.keys;
  key_order = h.key_order;
  effects = h.effects;
  effect_order = h.effect_order;
  diagnostics = length-set c.diagnostics (instance_count c) (record { identity = n; diagnostic = d }) ∙ h.diagnostics;
  ordered = ordered_same c (add_diagnostic c n d) (λ j v. refl) (λ j v. refl) refl h.ordered;
  numbered = numbered_same c (add_diagnostic c n d) (λ j v. refl) (λ j v. refl) refl h.numbered;
}

pub diagnostic_add : (c : ContextWords) (n : ℕ) (d : Diagnostic) → FitContext c → instance_count c < 256 → abstract (add_diagnostic c n d) ≡ pure.add_diagnostic (abstract c) n d
unfolding add_diagnostic
diagnostic_add c n d h l =
    let x = h.diagnostics in
    ap (λ (ds : List Pure.Interned). with_diagnostics ds (abstract c))
    (ap (diagnostics_in (Rattle.std.specs.Prelude.set c.diagnostics (instance_count c) (record { identity = n; diagnostic = d })) 0) (let z : instance_count c + 1 ≡ suc (instance_count c) = omega arith in z)
    ∙ diagnostic_appended c.diagnostics (instance_count c) (record { identity = n; diagnostic = d }) (omega arith))
