-- What no instruction writes of the lent tables stays. Assumes nothing.
use Rattle.std.specs.Prelude.{ℕ, ◌+◌, ◌*◌, ◌≤◌, ◌<◌, ◌≡◌, refl, List, length, get_or, Some}
use Rattle.std.proofs.Common.{◌∙◌, arith, length-set, get_or-set_other}
use Rattle.def_effects.specs.Effects.{AliasingEffect}
use Rattle.def_effects.specs.Keys.{EffectKey, effect_key}
use Rattle.def_transfer.specs.Diagnostics.{Diagnostic}
use Rattle.lent_tables.specs.Words.{index}
use Rattle.lent_tables.proofs.Laws.Word.{put_length}
use Rattle.lent_effects.proofs.Laws.EffectFrames.{effect_length, effect_before, effect_after}
use Rattle.lent_keys.proofs.Laws.KeyFrames.{key_length, option_length}
use Rattle.lent_layout.specs.declared.Numbered.{Numbered}
use Rattle.lent_layout.specs.Layout as Layout
use Rattle.lent_layout.specs.Context.{ContextWords, unused}
use Rattle.lent_context.specs.Lent.{effect_spot, place_of, added_at, add_effect, key_spot, cached_at, put_key, put_link, make_read, add_diagnostic}
use Rattle.lent_context.proofs.Laws.ReadMade.{read_keeps}
use Rattle.lent_order.proofs.Laws.Order.{insert_length}

-- ---- what no instruction writes

-- a slice of n records that was one of m, each of w words: records are only appended, so that those of m keep their places, and after the last
-- nothing is written; past the end of a slice is x
pub record Appended {A : Type 0} (x : A) (w m : ℕ) (xs : List A) (n : ℕ) (ys : List A) : Type 0 where
  pub long : length ys ≡ length xs
  pub grown : m ≤ n
  pub fixed : (k : ℕ) → k < m * w → get_or ys k x ≡ get_or xs k x
  pub after : (k : ℕ) → n * w ≤ k → get_or ys k x ≡ get_or xs k x

-- a context that instructions made of c₀
-- options, identifiers and functions they only read; of context places, links, keys and both orders they keep the lengths; effects and diagnostics
-- they append
pub record KeptFrom (c₀ c : ContextWords) : Type 0 where
  pub options : c.options ≡ c₀.options
  pub function_count : c.function_count ≡ c₀.function_count
  pub identifiers : c.identifiers ≡ c₀.identifiers
  pub functions : c.functions ≡ c₀.functions
  pub contexts : length c.contexts ≡ length c₀.contexts
  pub links : length c.links ≡ length c₀.links
  pub keys : length c.keys ≡ length c₀.keys
  pub key_order : length c.key_order ≡ length c₀.key_order
  pub effect_order : length c.effect_order ≡ length c₀.effect_order
  pub effects : Appended 0 98 c₀.effect_count c₀.effects c.effect_count c.effects
  pub diagnostics : Appended unused 1 c₀.diagnostic_count c₀.diagnostics c.diagnostic_count c.diagnostics

-- every context is made of itself
pub kept_start : (c : ContextWords) → KeptFrom c c
kept_start c = record {
  options = refl;
  function_count = refl;
  identifiers = refl;
  functions = refl;
  contexts = refl;
  links = refl;
  keys = refl;
  key_order = refl;
  effect_order = refl;
  effects = record { long = refl; grown = omega arith; fixed = λ k l. refl; after = λ k l. refl };
  diagnostics = record { long = refl; grown = omega arith; fixed = λ k l. refl; after = λ k l. refl };
}

-- ---- the five changes

-- an effect added is a record after those interned already, and the count is one more
pub effect_kept : (c₀ c : ContextWords) (e : AliasingEffect) → KeptFrom c₀ c → KeptFrom c₀ (add_effect c e)
unfolding add_effect added_at index
effect_kept c₀ c e p = record {
  options = p.options;
  function_count = p.function_count;
  identifiers = p.identifiers;
  functions = p.functions;
  contexts = p.contexts;
  links = p.links;
  keys = p.keys;
  key_order = p.key_order;
  effect_order = insert_length Layout.effect_order (place_of (effect_spot c (effect_key e))) n n c.effect_order ∙ p.effect_order;
  effects = record {
    long = effect_length Layout.interned c.effects n e ∙ p.effects.long;
    grown = let g = p.effects.grown in omega arith;
    fixed = λ k l. let g = p.effects.grown in effect_before Layout.interned c.effects n e k (let z : k < 0 + n * 98 + 0 = omega arith in z) ∙ p.effects.fixed k l;
    after = λ k l. effect_after Layout.interned c.effects n e k (let z : 0 + n * 98 + 0 + 98 ≤ k = omega arith in z) ∙ p.effects.after k (omega arith);
  };
  diagnostics = p.diagnostics;
}
  where
    n : ℕ
    n = c.effect_count

-- a diagnostic added is a record after those that are there, and their count is one more
pub diagnostic_kept : (c₀ c : ContextWords) (n : ℕ) (d : Diagnostic) → KeptFrom c₀ c → KeptFrom c₀ (add_diagnostic c n d)
unfolding add_diagnostic
diagnostic_kept c₀ c n d p = record {
  options = p.options;
  function_count = p.function_count;
  identifiers = p.identifiers;
  functions = p.functions;
  contexts = p.contexts;
  links = p.links;
  keys = p.keys;
  key_order = p.key_order;
  effect_order = p.effect_order;
  effects = p.effects;
  diagnostics = record {
    long = length-set c.diagnostics m new ∙ p.diagnostics.long;
    grown = let g = p.diagnostics.grown in omega arith;
    fixed = λ k l. let g = p.diagnostics.grown in get_or-set_other c.diagnostics m k new unused (λ e. omega arith) ∙ p.diagnostics.fixed k l;
    after = λ k l. get_or-set_other c.diagnostics m k new unused (λ e. omega arith) ∙ p.diagnostics.after k (omega arith);
  };
}
  where
    m : ℕ
    m = c.diagnostic_count

    new : Numbered
    new = record { identity = n; diagnostic = d }

-- context places made Read are words of their slice
pub read_kept : (c₀ c : ContextWords) (f i : ℕ) → KeptFrom c₀ c → KeptFrom c₀ (make_read c f i)
unfolding make_read
read_kept c₀ c f i p = record {
  options = p.options;
  function_count = p.function_count;
  identifiers = p.identifiers;
  functions = p.functions;
  contexts = read_keeps f i (λ (ps : List ℕ). length ps ≡ length c.contexts) (λ ps k x h. put_length Layout.contexts ps f (k * 5 + 1) x ∙ h) c refl ∙ p.contexts;
  links = p.links;
  keys = p.keys;
  key_order = p.key_order;
  effect_order = p.effect_order;
  effects = p.effects;
  diagnostics = p.diagnostics;
}

-- a key written is a record of its slice, and its number is put into the order
pub key_kept : (c₀ c : ContextWords) (n : ℕ) (k : EffectKey) → KeptFrom c₀ c → KeptFrom c₀ (put_key c n k)
unfolding put_key cached_at
key_kept c₀ c n k p = record {
  options = p.options;
  function_count = p.function_count;
  identifiers = p.identifiers;
  functions = p.functions;
  contexts = p.contexts;
  links = p.links;
  keys = key_length Layout.cached c.keys n k ∙ p.keys;
  key_order = insert_length Layout.key_order (place_of (key_spot c k)) n c.key_count c.key_order ∙ p.key_order;
  effect_order = p.effect_order;
  effects = p.effects;
  diagnostics = p.diagnostics;
}

-- a link written is a record of its slice
pub link_kept : (c₀ c : ContextWords) (v f : ℕ) → KeptFrom c₀ c → KeptFrom c₀ (put_link c v f)
unfolding put_link
link_kept c₀ c v f p = record {
  options = p.options;
  function_count = p.function_count;
  identifiers = p.identifiers;
  functions = p.functions;
  contexts = p.contexts;
  links = option_length Layout.links c.links v 0 (Some f) ∙ p.links;
  keys = p.keys;
  key_order = p.key_order;
  effect_order = p.effect_order;
  effects = p.effects;
  diagnostics = p.diagnostics;
}
