-- Demand 3, of the whole instruction and over any lawful tables: two runs from states that agree on its reach do the same, and touch
-- nothing outside. Also: the reach in one state is the reach in the other; it lies in every set closed under the rules;
-- and no refusal but 6 to 11 can come, so the depth of derivation never runs out. Assumes nothing.
use Rattle.std.specs.Prelude.{ℕ, ◌≤◌, ◌<◌, ◌≡◌, ◌&&◌, Option, None, Some}
use Rattle.std.proofs.Math.Path.{refl, subst}
use Rattle.std.proofs.Common.{sym, ap, ◌∙◌, subst₂}
use mathlib.Core.List.{List, [], ◌∷◌, Memᴰ}
use lib.Dec.{ltb}
use Rattle.base_sets.specs.Members.{members, values_of}
use Rattle.base_tests.specs.Tests.{All}
use Rattle.base_sets.proofs.Laws.Member.{all_of}
use Rattle.def_effects.specs.declared.Session.{Session}
use Rattle.def_effects.specs.Places.{identifiers}
use Rattle.def_effects.specs.Keys.{EffectKey, names, creates, listed}
use Rattle.def_transfer.specs.Monad.{Res, ok, refused, Done, ◌>>◌, ◌>>=◌, and_then, restore, atomically}
use Rattle.def_transfer.specs.Tables.{Tables, State, Rest, World}
use Rattle.def_transfer.specs.State.{from_identifier, change}
use Rattle.def_transfer.specs.Instruction.{Instruction, start_instruction, run, apply_signature}
use Rattle.def_transfer.specs.Reach.{Node, val, id, entry, Named, by_effect, Created, by_candidate, by_itself, Reach, in_candidate, lvalue, in_created, its_values, its_own, its_context, cached, fresh, Agree, Alike}
use Rattle.def_transfer.specs.Lawful.{Lawful}
use Rattle.def_transfer.proofs.Laws.Sim.{Any, Rel}
use Rattle.def_transfer.proofs.Laws.Worlds.{Reaching, Inv, frame, pointed}
use Rattle.def_transfer.proofs.Laws.Closed.{reaching}
use Rattle.def_transfer.proofs.Laws.Within.{run_sim}

module _ {T : Tables} where
  abbrev world : State T → Rest T → World T
  world s r = record { state = s; rest = r }

  -- ---- "it is then the other's reach too"

  module _ (ins : Instruction) (session : Session) (context : T.Context) (s t : State T) (a : (n : Node) → Reach T ins session context s n → entry T s n ≡ entry T t n) where
    over : (n : Node) → Reach T ins session context s n → Reach T ins session context t n
    over n (in_candidate m) = in_candidate m
    over n lvalue = lvalue
    over n (in_created c m) = in_created c m
    over n (its_values {i = i} q e m) = its_values (over (id i) q) (sym (ap pointed (a (id i) q)) ∙ e) m
    over n (its_own {i = i} q) = its_own (over (id i) q)
    over n (its_context {v = v} q e m) = its_context (over (val v) q) e m
    over n (cached e d m) = cached e d m
    over n (fresh l m) = fresh l m

    back : (n : Node) → Reach T ins session context t n → Reach T ins session context s n
    back n (in_candidate m) = in_candidate m
    back n lvalue = lvalue
    back n (in_created c m) = in_created c m
    back n (its_values {i = i} q e m) = let q' = back (id i) q in its_values q' (ap pointed (a (id i) q') ∙ e) m
    back n (its_own {i = i} q) = its_own (back (id i) q)
    back n (its_context {v = v} q e m) = its_context (back (val v) q) e m
    back n (cached e d m) = cached e d m
    back n (fresh l m) = fresh l m

    pub reach_same : (n : Node) → (Reach T ins session context s n → Reach T ins session context t n) × (Reach T ins session context t n → Reach T ins session context s n)
    reach_same n = (over n, back n)

  -- ---- "The smallest set": the reach lies in every set that is closed under the rules

  pub record ClosedUnder (ins : Instruction) (session : Session) (context : T.Context) (s : State T) (P : Node → Type 0) : Type 0 where
    pub on_candidate : (i : ℕ) → Named ins i → P (id i)
    pub on_lvalue : P (id ins.lvalue.identifier)
    pub on_created : (f j : ℕ) → Created ins f → Memᴰ j (identifiers (T.context_of context f)) → P (id j)
    pub on_values : (i v l : ℕ) → P (id i) → T.set_of s.sets i ≡ Some l → Memᴰ v (members l) → P (val v)
    pub on_own : (i : ℕ) → P (id i) → P (val (from_identifier i))
    pub on_context_is : (v f j : ℕ) → P (val v) → T.link_of context v ≡ Some f → Memᴰ j (identifiers (T.context_of context f)) → P (id j)
    pub on_cached : (n i : ℕ) (k : EffectKey) → T.key_at context n ≡ Some k → k.into ≡ Some i → Named ins i → P (val n)
    pub on_fresh : (n : ℕ) → session.next ≤ n → n < 512 → P (val n)

  pub reach_least : (ins : Instruction) (session : Session) (context : T.Context) (s : State T) (P : Node → Type 0) → ClosedUnder ins session context s P → (n : Node) → Reach T ins session context s n → P n
  reach_least ins session context s P c n (in_candidate {i = i} m) = c.on_candidate i m
  reach_least ins session context s P c n lvalue = c.on_lvalue
  reach_least ins session context s P c n (in_created {f = f} {j = j} d m) = c.on_created f j d m
  reach_least ins session context s P c n (its_values {i = i} {v = v} {l = l} q e m) = c.on_values i v l (reach_least ins session context s P c (id i) q) e m
  reach_least ins session context s P c n (its_own {i = i} q) = c.on_own i (reach_least ins session context s P c (id i) q)
  reach_least ins session context s P c n (its_context {v = v} {f = f} {j = j} q e m) = c.on_context_is v f j (reach_least ins session context s P c (val v) q) e m
  reach_least ins session context s P c n (cached {i = i} {n = n'} {k = k} e d m) = c.on_cached n' i k e d m
  reach_least ins session context s P c n (fresh {n = n'} l m) = c.on_fresh n' l m

module _ {T : Tables} (L : Lawful T) where
  -- tables of the right size
  pub record Fit (s : State T) : Type 0 where
    pub values : L.FitValues s.values
    pub sets : L.FitSets s.sets

  module _ (ins : Instruction) (r : Rest T) (s t : State T) (p : Fit s) (q : Fit t) (k : L.Kept r.context) (a : Agree T (Reach T ins r.session r.context s) s t) where
    abbrev R : Node → Type 0
    R = Reach T ins r.session r.context s

    abbrev 𝓡 : Reaching T
    𝓡 = reaching T L.Kept R (Named ins) (Created ins) s t

    inside : (i : ℕ) → R (id i) → (o : Option ℕ) → T.set_of s.sets i ≡ o → All (λ v. R (val v)) (values_of o)
    inside i c None e = tt
    inside i c (Some l) e = all_of (members l) (λ v m. its_values c e m)

    -- the rules of the reach, one for each thing that a computation may ask
    start : Inv L 𝓡 (world s r) (world t r)
    start = record {
      same = refl;
      okay = record {
        kept = k;
        fresh_in = λ n l m. fresh l m;
        cached_in = λ n i k e d m. cached e d m;
        links_in = λ v c f e. all_of (identifiers (T.context_of r.context f)) (λ j m. its_context c e m);
        created_in = λ f c. all_of (identifiers (T.context_of r.context f)) (λ j m. in_created c m);
      };
      fits = (p.values, q.values, p.sets, q.sets);
      inside = λ i c. inside i c (T.set_of s.sets i) refl;
      agree = a.entries;
      flags = a.flags;
      left = λ n h. refl;
      right = λ n h. refl;
    }

    own_created : (o : Option ℕ) → ins.own ≡ o → All (Created ins) (listed o)
    own_created None e = tt
    own_created (Some f) e = (by_itself e, tt)

    runs : Rel (frame L 𝓡) Any (run ins (world s r)) (run ins (world t r))
    runs =
        (run_sim L R (Named ins) (Created ins) s t (λ i. its_own) (λ i. in_candidate) ins (own_created ins.own refl)
        (all_of ins.candidates (λ e m. (all_of (names e) (λ i c. by_effect m c), all_of (creates e) (λ f c. by_candidate m c))))
        lvalue).runs (world s r) (world t r) start

    ends : (x y : Res (World T) Done) → Rel (frame L 𝓡) Any x y → Alike T R s t (restore (world s r) x) (restore (world t r) y)
    unfolding restore
    ends (ok c w) (ok d u) h = record { same = h.2.same; agree = record { entries = h.2.agree; flags = h.2.flags }; left = h.2.left; right = h.2.right }
    ends (ok c w) (refused n u) h = h
    ends (refused m w) (ok d u) h = h
    ends (refused m w) (refused n u) h = (h.0, record { same = refl; agree = a; left = λ n c. refl; right = λ n c. refl })

    pub run_isolated : Alike T R s t (atomically (run ins) (world s r)) (atomically (run ins) (world t r))
    unfolding atomically
    run_isolated = ends (run ins (world s r)) (run ins (world t r)) runs

  -- ---- the call: "lent the same instruction, and output lists and scratch of equal length, whatever these hold"

  -- the session, context and instruction under way as they are when the step begins
  abbrev started : Rest T → Rest T
  started r = record { session = r.session; context = r.context; work = record { initialized = T.none_initialized; listed = T.none_listed; freeze_entries = 0; entries = 0 } }

  applies : (ins : Instruction) (w : World T) → apply_signature ins w ≡ atomically (run ins) (world w.state (started w.rest))
  unfolding apply_signature start_instruction ◌>>◌ ◌>>=◌ and_then change
  applies ins w = refl

  -- Isolation. Two worlds with equal session and context, whose states agree on the instruction's reach: the two calls are refused with the same
  -- number, or list the same effects, count the same entries, and leave equal sessions and contexts; entries in reach end equal, every
  -- entry outside ends as that run found it.
  pub isolation : (ins : Instruction) (w u : World T) → w.rest.session ≡ u.rest.session → w.rest.context ≡ u.rest.context → Fit w.state → Fit u.state → L.Kept w.rest.context
      → Agree T (Reach T ins w.rest.session w.rest.context w.state) w.state u.state
      → Alike T (Reach T ins w.rest.session w.rest.context w.state) w.state u.state (apply_signature ins w) (apply_signature ins u)
  isolation ins w u e c p q k a =
      subst₂ (Alike T (Reach T ins w.rest.session w.rest.context w.state) w.state u.state) (sym (applies ins w)) (sym (applies ins u))
      (subst (λ (r : Rest T). Alike T (Reach T ins w.rest.session w.rest.context w.state) w.state u.state (atomically (run ins) (world w.state (started w.rest))) (atomically (run ins) (world u.state r)))
      (λ i. record { session = e i; context = c i; work = (started w.rest).work })
      (run_isolated ins (started w.rest) w.state u.state p q k a))

  -- ---- no refusal but 6 to 11 can come, from whatever world: the depth of derivation never runs out. (The set is everything.)

  abbrev InRange : Res (World T) Done → Type 0
  InRange (ok a w) = Unit {0}
  InRange (refused n w) = lib.Dec.T (ltb 5 n && ltb n 12)

  every : {A : Type 0} {P : A → Type 0} → ((x : A) → P x) → (l : List A) → All P l
  every h [] = tt
  every h (x ∷ xs) = (h x, every h xs)

  abbrev everything : Node → Type 0
  everything n = Unit {0}

  abbrev all_numbers : ℕ → Type 0
  all_numbers n = Unit {0}

  -- the world that a computation ends in, refused or not
  abbrev pub after : Res (World T) Done → World T
  after (ok a w) = w
  after (refused n w) = w

  -- what the run of an instruction ends with, from whatever world: refused with 6 to 11 or not at all, tables of the right size, and what every
  pub record Ended (x : Res (World T) Done) : Type 0 where
    pub range : InRange x
    pub fit : Fit (after x).state
    pub kept : L.Kept (after x).rest.context

  pub run_ends : (ins : Instruction) (w : World T) → Fit w.state → L.Kept w.rest.context → Ended (run ins w)
  run_ends ins w p h =
      go (run ins w) ((run_sim L everything all_numbers all_numbers w.state w.state (λ i c. tt) (λ i n. tt) ins (every (λ f. tt) (listed ins.own))
      (every (λ e. (every (λ i. tt) (names e), every (λ f. tt) (creates e))) ins.candidates) tt).runs w w begins)
    where
      begins : Inv L (reaching T L.Kept everything all_numbers all_numbers w.state w.state) w w
      begins = record {
        same = refl;
        okay = record {
          kept = h;
          fresh_in = λ n l m. tt;
          cached_in = λ n i k e d m. tt;
          links_in = λ v c f e. every (λ j. tt) (identifiers (T.context_of w.rest.context f));
          created_in = λ f c. every (λ j. tt) (identifiers (T.context_of w.rest.context f));
        };
        fits = (p.values, p.values, p.sets, p.sets);
        inside = λ i c. every (λ v. tt) (values_of (T.set_of w.state.sets i));
        agree = λ n c. refl;
        flags = refl;
        left = λ n h. refl;
        right = λ n h. refl;
      }

      go : (x : Res (World T) Done) → Rel (frame L (reaching T L.Kept everything all_numbers all_numbers w.state w.state)) Any x x → Ended x
      go (ok a u) h = record { range = tt; fit = record { values = h.2.fits.0; sets = h.2.fits.2 }; kept = h.2.okay.kept }
      go (refused n u) h = record { range = h.1; fit = record { values = h.2.fits.0; sets = h.2.fits.2 }; kept = h.2.okay.kept }

  restored_range : (w : World T) (x : Res (World T) Done) → InRange x → InRange (restore w x)
  unfolding restore
  restored_range w (ok a u) h = h
  restored_range w (refused n u) h = h

  pub refusals : (ins : Instruction) (w : World T) → Fit w.state → L.Kept w.rest.context → InRange (apply_signature ins w)
  unfolding atomically
  refusals ins w p k =
      subst InRange (sym (applies ins w))
      (restored_range (world w.state (started w.rest)) (run ins (world w.state (started w.rest))) (run_ends ins (world w.state (started w.rest)) (record { values = p.values; sets = p.sets }) k).range)
