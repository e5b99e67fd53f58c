-- What is asked of a measure of the interned effects and of contexts that differ in their room, and a logic over both: `Near 𝓟 b m` says
-- that m, refused or not, does the same where there is more room, and adds at most b to what is used. Assumes nothing.
use Rattle.std.specs.Prelude.{ℕ, ◌+◌, ◌*◌, ◌≤◌, ◌≡◌, refl, Bool, Some}
use native.Mathlib.Omega.{arith}
use Rattle.std.proofs.Common.{sym, ◌∙◌}
use Rattle.std.proofs.Math.Path.{ap, subst}
use Rattle.std.proofs.Math.Bool.{true, false}
use mathlib.Core.List.{List, [], ◌∷◌}
use Rattle.std.proofs.Math.ListN.{length}
use Rattle.def_effects.specs.Effects.{AliasingEffect}
use Rattle.def_effects.specs.Keys.{EffectKey, effect_key}
use Rattle.def_transfer.specs.Monad.{Res, ok, refused, M, Done, and_then, ◌>>=◌, ◌>>◌, return, refuse, done, when◌then◌else◌, each, restore, atomically}
use Rattle.def_transfer.specs.Diagnostics.{Diagnostic}
use Rattle.def_transfer.specs.Tables.{Tables, Rest, World}
use Rattle.def_transfer.specs.State.{ask, change}
use Rattle.def_transfer.specs.Context.{on_context}
use Rattle.laws_room.specs.Room.{size}

-- a measure of what the interned effects take: an effect added takes its size at the most, nothing else takes or gives any
pub record Measured (T : Tables) : Type 0 where
  pub used : T.Context → ℕ
  pub found : (c : T.Context) (k : EffectKey) (e : AliasingEffect) → T.find_effect c k ≡ Some e → k ≡ effect_key e
  pub most : (c : T.Context) (e : AliasingEffect) → used (T.add_effect c e) ≤ used c + size (effect_key e)
  pub least : (c : T.Context) (e : AliasingEffect) → used c ≤ used (T.add_effect c e)
  pub key_used : (c : T.Context) (n : ℕ) (k : EffectKey) → used (T.put_key c n k) ≡ used c
  pub link_used : (c : T.Context) (v f : ℕ) → used (T.put_link c v f) ≡ used c
  pub read_used : (c : T.Context) (f i : ℕ) → used (T.make_read c f i) ≡ used c
  pub diagnostic_used : (c : T.Context) (n : ℕ) (x : Diagnostic) → used (T.add_diagnostic c n x) ≡ used c

-- contexts c with room for so much, and d the same with more room; what is used is measured in d
pub record Padded (T : Tables) : Type 1 where
  pub measured : Measured T
  pub room : ℕ
  pub Pad : T.Context → T.Context → Type 0
  -- each is read alike
  pub interned_count : {c d : T.Context} → Pad c d → T.interned_count d ≡ T.interned_count c
  pub find_effect : {c d : T.Context} → Pad c d → (k : EffectKey) → T.find_effect d k ≡ T.find_effect c k
  pub key_at : {c d : T.Context} → Pad c d → (n : ℕ) → T.key_at d n ≡ T.key_at c n
  pub find_number : {c d : T.Context} → Pad c d → (k : EffectKey) → T.find_number d k ≡ T.find_number c k
  pub link_of : {c d : T.Context} → Pad c d → (v : ℕ) → T.link_of d v ≡ T.link_of c v
  pub context_of : {c d : T.Context} → Pad c d → (f : ℕ) → T.context_of d f ≡ T.context_of c f
  pub mutated_inside : {c d : T.Context} → Pad c d → (f : ℕ) → T.mutated_inside d f ≡ T.mutated_inside c f
  pub has_tracked_side_effect : {c d : T.Context} → Pad c d → (f : ℕ) → T.has_tracked_side_effect d f ≡ T.has_tracked_side_effect c f
  pub is_ref : {c d : T.Context} → Pad c d → (i : ℕ) → T.is_ref d i ≡ T.is_ref c i
  pub is_hoisted : {c d : T.Context} → Pad c d → (i : ℕ) → T.is_hoisted d i ≡ T.is_hoisted c i
  pub access_span : {c d : T.Context} → Pad c d → (i : ℕ) → T.access_span d i ≡ T.access_span c i
  pub name_of : {c d : T.Context} → Pad c d → (i : ℕ) → T.name_of d i ≡ T.name_of c i
  pub is_transitive : {c d : T.Context} → Pad c d → T.is_transitive d ≡ T.is_transitive c
  pub identity_count : {c d : T.Context} → Pad c d → T.identity_count d ≡ T.identity_count c
  pub instance_count : {c d : T.Context} → Pad c d → T.instance_count d ≡ T.instance_count c
  pub find_identity : {c d : T.Context} → Pad c d → (x : Diagnostic) → T.find_identity d x ≡ T.find_identity c x
  pub find_instance : {c d : T.Context} → Pad c d → (n : ℕ) (x : Diagnostic) → T.find_instance d n x ≡ T.find_instance c n x
  -- each is changed alike, an effect added where there is room
  pub add_effect : {c d : T.Context} → Pad c d → (e : AliasingEffect) → measured.used d + size (effect_key e) ≤ room → Pad (T.add_effect c e) (T.add_effect d e)
  pub put_key : {c d : T.Context} → Pad c d → (n : ℕ) (k : EffectKey) → Pad (T.put_key c n k) (T.put_key d n k)
  pub put_link : {c d : T.Context} → Pad c d → (v f : ℕ) → Pad (T.put_link c v f) (T.put_link d v f)
  pub make_read : {c d : T.Context} → Pad c d → (f i : ℕ) → Pad (T.make_read c f i) (T.make_read d f i)
  pub add_diagnostic : {c d : T.Context} → Pad c d → (n : ℕ) (x : Diagnostic) → Pad (T.add_diagnostic c n x) (T.add_diagnostic d n x)

module _ {T : Tables} where
  -- the context that a computation ends with
  abbrev pub ended : {A : Type 0} → Res (World T) A → T.Context
  ended (ok a w) = w.rest.context
  ended (refused n w) = w.rest.context

  -- session and work as they are, and another context
  abbrev pub across : T.Context → Rest T → Rest T
  across d r = record { session = r.session; context = d; work = r.work }

  -- the same world but for its context
  abbrev pub beside : T.Context → World T → World T
  beside d w = record { state = w.state; rest = across d w.rest }

  -- the same outcome but for its context
  abbrev pub besides : {A : Type 0} → T.Context → Res (World T) A → Res (World T) A
  besides d (ok a w) = ok a (beside d w)
  besides d (refused n w) = refused n (beside d w)

  -- what is answered has Q
  abbrev pub Holds : {A : Type 0} → (A → Type 0) → Res (World T) A → Type 0
  Holds Q (ok a w) = Q a
  Holds Q (refused n w) = Unit {0}

module _ {T : Tables} (𝓟 : Padded T) where
  -- what is used of a context
  abbrev pub used_of : T.Context → ℕ
  used_of = 𝓟.measured.used

  -- from a context d that s began with: s is r with more room, and used at most b more than d, and no less
  pub record Close {A : Type 0} (b : ℕ) (d : T.Context) (r s : Res (World T) A) : Type 0 where
    pub long : T.Context
    pub same : s ≡ besides long r
    pub pad : 𝓟.Pad (ended r) long
    pub most : used_of long ≤ used_of d + b
    pub least : used_of d ≤ used_of long

  -- where there is room for b more, the outcomes are close
  pub record Near {A : Type 0} (b : ℕ) (m : M (World T) A) : Type 0 where
    pub near : (w : World T) (d : T.Context) → 𝓟.Pad w.rest.context d → used_of d + b ≤ 𝓟.room → Close b d (m w) (m (beside d w))

module _ {T : Tables} {𝓟 : Padded T} where
  -- ---- one computation after the other

  -- from where the first ended, with what is known of its answer
  and_near : {A B : Type 0} {Q : A → Type 0} {f : A → M (World T) B} (b c : ℕ) (d : T.Context) (r s : Res (World T) A) → Holds Q r → used_of 𝓟 d + (b + c) ≤ 𝓟.room → Close 𝓟 b d r s → ((a : A) → Q a → Near 𝓟 c (f a)) → Close 𝓟 (b + c) d (and_then r f) (and_then s f)
  unfolding and_then
  and_near {f = f} b c d (ok a u) s q l h k =
      let m = h.most in
      let n = h.least in
      let p = (k a q).near u h.long h.pad (omega arith) in
      record { long = p.long; same = ap (λ (x : Res (World T) _). and_then x f) h.same ∙ p.same; pad = p.pad; most = let i = p.most in omega arith; least = let i = p.least in omega arith }
  and_near {f = f} b c d (refused n u) s q l h k = record { long = h.long; same = ap (λ (x : Res (World T) _). and_then x f) h.same; pad = h.pad; most = let i = h.most in omega arith; least = h.least }

  -- both together, with what is known of the first's answer
  -- for interning, which answers an effect of the same key
  pub bind_known : {A B : Type 0} {Q : A → Type 0} {m : M (World T) A} {f : A → M (World T) B} (b c : ℕ) → ((w : World T) → Holds Q (m w)) → Near 𝓟 b m → ((a : A) → Q a → Near 𝓟 c (f a)) → Near 𝓟 (b + c) (m >>= f)
  unfolding ◌>>=◌
  bind_known {Q = Q} {m = m} b c q h k = record { near = λ w d p l. and_near {Q = Q} b c d (m w) (m (beside d w)) (q w) l (h.near w d p (omega arith)) k }

  -- both together
  pub bind_near : {A B : Type 0} {m : M (World T) A} {f : A → M (World T) B} (b c : ℕ) → Near 𝓟 b m → ((a : A) → Near 𝓟 c (f a)) → Near 𝓟 (b + c) (m >>= f)
  bind_near {A = A} {m = m} b c h k = bind_known {Q = λ a. Unit {0}} b c (λ w. go (m w)) h (λ a q. k a)
    where
      go : (r : Res (World T) A) → Holds (λ a. Unit {0}) r
      go (ok a w) = tt
      go (refused n w) = tt

  -- both together
  pub then_near : {B : Type 0} {m : M (World T) Done} {f : M (World T) B} (b c : ℕ) → Near 𝓟 b m → Near 𝓟 c f → Near 𝓟 (b + c) (m >> f)
  unfolding ◌>>◌
  then_near b c h k = bind_near b c h (λ a. k)

  -- a larger bound is one as well
  pub weaken : {A : Type 0} {m : M (World T) A} {b c : ℕ} → b ≤ c → Near 𝓟 b m → Near 𝓟 c m
  weaken {b = b} {c = c} l h = record { near = λ w d p k. let x = h.near w d p (omega arith) in record { long = x.long; same = x.same; pad = x.pad; most = let i = x.most in omega arith; least = x.least } }

  -- what adds nothing, and then what its answer leads to
  -- the form that `search` applies
  pub bind_keeps : {A B : Type 0} {m : M (World T) A} {f : A → M (World T) B} {c : ℕ} → Near 𝓟 0 m → ((a : A) → Near 𝓟 c (f a)) → Near 𝓟 c (m >>= f)
  bind_keeps {c = c} h k = weaken (omega arith) (bind_near 0 c h k)

  -- what adds nothing, and then another
  -- the form that `search` applies
  pub then_keeps : {B : Type 0} {m : M (World T) Done} {f : M (World T) B} {c : ℕ} → Near 𝓟 0 m → Near 𝓟 c f → Near 𝓟 c (m >> f)
  then_keeps {c = c} h k = weaken (omega arith) (then_near 0 c h k)

  -- one, and then what adds nothing
  -- the bound is the first's
  pub then_rest : {B : Type 0} {m : M (World T) Done} {f : M (World T) B} {b : ℕ} → Near 𝓟 b m → Near 𝓟 0 f → Near 𝓟 b (m >> f)
  then_rest {b = b} h k = weaken (omega arith) (then_near b 0 h k)

  -- ---- what touches no context

  -- an answer
  pub return_near : {A : Type 0} {b : ℕ} (a : A) → Near 𝓟 b (return a)
  unfolding return
  return_near a = record { near = λ w d p l. record { long = d; same = refl; pad = p; most = omega arith; least = omega arith } }

  -- an answer that says nothing
  pub done_near : {b : ℕ} → Near 𝓟 b done
  unfolding done
  done_near = return_near tt

  -- a refusal
  pub refuse_near : {A : Type 0} {b : ℕ} (n : ℕ) → Near 𝓟 b (refuse {A = A} n)
  unfolding refuse
  refuse_near n = record { near = λ w d p l. record { long = d; same = refl; pad = p; most = omega arith; least = omega arith } }

  -- either branch
  pub if_near : {A : Type 0} {m n : M (World T) A} {b : ℕ} (t : Bool) → Near 𝓟 b m → Near 𝓟 b n → Near 𝓟 b (when t then m else n)
  unfolding when◌then◌else◌
  if_near true h k = h
  if_near false h k = k

  -- one after the other, each with the same bound
  pub each_near : {A : Type 0} {f : A → M (World T) Done} (b : ℕ) (l : List A) → ((x : A) → Near 𝓟 b (f x)) → Near 𝓟 (b * length l) (each l f)
  unfolding each
  each_near b [] h = done_near
  each_near b (x ∷ xs) h = weaken (omega arith) (then_near b (b * length xs) (h x) (each_near b xs h))

  -- one after the other, none of which adds anything
  -- the form that `search` applies
  pub each_keeps : {A : Type 0} {f : A → M (World T) Done} {b : ℕ} (l : List A) → ((x : A) → Near 𝓟 0 (f x)) → Near 𝓟 b (each l f)
  unfolding each
  each_keeps [] h = done_near
  each_keeps (x ∷ xs) h = then_keeps (h x) (each_keeps xs h)

  -- after a refusal the world is as before, and so is what is used
  pub atomically_near : {A : Type 0} {m : M (World T) A} {b : ℕ} → Near 𝓟 b m → Near 𝓟 b (atomically m)
  unfolding atomically restore
  atomically_near {A = A} {m = m} {b = b} h = record { near = λ w d p l. go w d p (m w) (m (beside d w)) (h.near w d p l) }
    where
      go : (w : World T) (d : T.Context) → 𝓟.Pad w.rest.context d → (r s : Res (World T) A) → Close 𝓟 b d r s → Close 𝓟 b d (restore w r) (restore (beside d w) s)
      go w d p (ok a u) s x = record { long = x.long; same = ap (restore (beside d w)) x.same; pad = x.pad; most = x.most; least = x.least }
      go w d p (refused n u) s x = record { long = d; same = ap (restore (beside d w)) x.same; pad = p; most = omega arith; least = omega arith }

  -- ---- what touches session, context and work

  -- what is read alike
  pub ask_near : {A : Type 0} {b : ℕ} (f : Rest T → A) → ((r : Rest T) (d : T.Context) → 𝓟.Pad r.context d → f (across d r) ≡ f r) → Near 𝓟 b (ask f)
  unfolding ask
  ask_near f h = record { near = λ w d p l. record { long = d; same = ap (λ (a : _). ok a (beside d w)) (h w.rest d p); pad = p; most = omega arith; least = omega arith } }

  -- a change of session and work that looks at no context
  pub change_near : {b : ℕ} (f : Rest T → Rest T) → ((r : Rest T) → (f r).context ≡ r.context) → ((r : Rest T) (d : T.Context) → f (across d r) ≡ across d (f r)) → Near 𝓟 b (change f)
  unfolding change
  change_near f k h = record {
    near = λ w d p l. record {
      long = d;
      same = ap (λ (r : Rest T). ok tt (record { state = w.state; rest = r })) (h w.rest d);
      pad = subst (λ (c : T.Context). 𝓟.Pad c d) (sym (k w.rest)) p;
      most = omega arith;
      least = omega arith;
    };
  }

  -- a change of the context that takes b at the most
  pub context_near : {b : ℕ} (g : T.Context → T.Context) → ((c d : T.Context) → 𝓟.Pad c d → used_of 𝓟 d + b ≤ 𝓟.room → 𝓟.Pad (g c) (g d)) → ((d : T.Context) → used_of 𝓟 (g d) ≤ used_of 𝓟 d + b) → ((d : T.Context) → used_of 𝓟 d ≤ used_of 𝓟 (g d)) → Near 𝓟 b (change (on_context g))
  unfolding change
  context_near g h m n = record { near = λ w d p l. record { long = g d; same = refl; pad = h w.rest.context d p l; most = m d; least = n d } }

-- what `search` composes computations with
pub ruleset plain = (bind_keeps, then_keeps, return_near, done_near, refuse_near, if_near, each_keeps, ask_near, change_near)
