-- Contexts with room for all: the lengths of their slices, and that they are all the same when cleared. Assumes nothing.
use Rattle.std.specs.Prelude.{ℕ, ◌≡◌, refl, Bool, true, false, ◌&&◌, eqb, length, replicate}
use Rattle.std.proofs.Common.{sym, eqb-true, eq-eqb}
use Rattle.std.proofs.lemmas.List.{length-replicate}
use Rattle.lent_layout.specs.declared.Context.{Context}
use Rattle.lent_layout.specs.declared.Numbered.{Numbered}
use Rattle.lent_layout.specs.Context.{ContextWords, held, SameSlices, is_full, emptied, no_context, unused}

-- both of two tests that hold
both : (a b : Bool) → (a && b) ≡ true → (a ≡ true) × (b ≡ true)
both true b e = (refl, e)
both false b e = absurd (let z : false ≡ true = e in cc)

-- as many records in each slice as its table can have
pub record Full (c : ContextWords) : Type 0 where
  pub identifiers : length c.identifiers ≡ 2048
  pub functions : length c.functions ≡ 10432
  pub contexts : length c.contexts ≡ 5120
  pub links : length c.links ≡ 1024
  pub keys : length c.keys ≡ 14336
  pub key_order : length c.key_order ≡ 512
  pub effects : length c.effects ≡ 200704
  pub effect_order : length c.effect_order ≡ 2048
  pub diagnostics : length c.diagnostics ≡ 256

-- what the test says
pub full_lengths : (c : ContextWords) → is_full c ≡ true → Full c
unfolding is_full
full_lengths c e =
    let a = both (eqb (length c.identifiers) 2048) _ e in
    let b = both (eqb (length c.functions) 10432) _ a.1 in
    let d = both (eqb (length c.contexts) 5120) _ b.1 in
    let f = both (eqb (length c.links) 1024) _ d.1 in
    let g = both (eqb (length c.keys) 14336) _ f.1 in
    let h = both (eqb (length c.key_order) 512) _ g.1 in
    let i = both (eqb (length c.effects) 200704) _ h.1 in
    let j = both (eqb (length c.effect_order) 2048) (eqb (length c.diagnostics) 256) i.1 in
    record {
      identifiers = eqb-true _ _ a.0;
      functions = eqb-true _ _ b.0;
      contexts = eqb-true _ _ d.0;
      links = eqb-true _ _ f.0;
      keys = eqb-true _ _ g.0;
      key_order = eqb-true _ _ h.0;
      effects = eqb-true _ _ i.0;
      effect_order = eqb-true _ _ j.0;
      diagnostics = eqb-true _ _ j.1;
    }

-- and what makes it hold
pub lengths_full : (c : ContextWords) → Full c → is_full c ≡ true
unfolding is_full
lengths_full c f =
    λ i. eq-eqb (length c.identifiers) 2048 f.identifiers i
    && (eq-eqb (length c.functions) 10432 f.functions i
    && (eq-eqb (length c.contexts) 5120 f.contexts i
    && (eq-eqb (length c.links) 1024 f.links i
    && (eq-eqb (length c.keys) 14336 f.keys i
    && (eq-eqb (length c.key_order) 512 f.key_order i
    && (eq-eqb (length c.effects) 200704 f.effects i
    && (eq-eqb (length c.effect_order) 2048 f.effect_order i && eq-eqb (length c.diagnostics) 256 f.diagnostics i)))))))

-- the empty one has room for all
pub no_context_full : Full no_context
no_context_full = record {
  identifiers = length-replicate {A = ℕ} 2048 0;
  functions = length-replicate {A = ℕ} 10432 0;
  contexts = length-replicate {A = ℕ} 5120 0;
  links = length-replicate {A = ℕ} 1024 0;
  keys = length-replicate {A = ℕ} 14336 0;
  key_order = length-replicate {A = ℕ} 512 0;
  effects = length-replicate {A = ℕ} 200704 0;
  effect_order = length-replicate {A = ℕ} 2048 0;
  diagnostics = length-replicate {A = Numbered} 256 unused;
}

-- a context with room for all, cleared, is the empty one
pub emptied_full : (c : ContextWords) → Full c → emptied c ≡ no_context
emptied_full c f = λ i. record {
  options = 0;
  function_count = 0;
  effect_count = 0;
  key_count = 0;
  diagnostic_count = 0;
  identifiers = replicate (f.identifiers i) 0;
  functions = replicate (f.functions i) 0;
  contexts = replicate (f.contexts i) 0;
  links = replicate (f.links i) 0;
  keys = replicate (f.keys i) 0;
  key_order = replicate (f.key_order i) 0;
  effects = replicate (f.effects i) 0;
  effect_order = replicate (f.effect_order i) 0;
  diagnostics = replicate (f.diagnostics i) unused;
}

-- slices that stay the same are cleared to the same
pub emptied_kept : (c d : Context) → SameSlices c d → emptied (held d) ≡ emptied (held c)
emptied_kept c d s = λ i. record {
  options = 0;
  function_count = 0;
  effect_count = 0;
  key_count = 0;
  diagnostic_count = 0;
  identifiers = replicate (sym s.0.1 i) 0;
  functions = replicate (sym s.1.1 i) 0;
  contexts = replicate (sym s.2.1 i) 0;
  links = replicate (sym s.3.1 i) 0;
  keys = replicate (sym s.4.1 i) 0;
  key_order = replicate (sym s.5.1 i) 0;
  effects = replicate (sym s.6.1 i) 0;
  effect_order = replicate (sym s.7.1 i) 0;
  diagnostics = replicate (sym s.8.1 i) unused;
}
