-- Worlds that agree on a set R, and what touches a world: each computation that reads and writes within R does the same in both,
-- and leaves the rest as found. Assumes nothing.
use Rattle.std.specs.Prelude.{ℕ, ◌≡◌, ◌&&◌, Option, None}
use Rattle.std.proofs.Math.Path.{refl, ap}
use Rattle.std.proofs.Common.{◌∙◌, subst}
use mathlib.Core.List.{List, [], ◌∷◌}
use lib.Dec.{T, ltb}
use Rattle.base_orders.specs.Options.{join_option}
use Rattle.base_sets.specs.Members.{members, values_of}
use Rattle.base_tests.specs.Tests.{All}
use Rattle.def_kinds.specs.declared.AbstractValue.{AbstractValue}
use Rattle.def_kinds.specs.Values.{join}
use Rattle.def_effects.specs.declared.Place.{Place}
use Rattle.def_effects.specs.Places.{identifiers}
use Rattle.def_transfer.specs.Monad.{M, Done, ◌>>=◌, each}
use Rattle.def_transfer.specs.Tables.{Tables, State, Rest, World}
use Rattle.def_transfer.specs.State.{or_default, join_values, kind_of, set_of, value_of, peek, initialize, point, ask, change}
use Rattle.def_transfer.specs.Reach.{Node, val, id, Entry, valued, pointing, entry, Untouched}
use Rattle.def_transfer.specs.Lawful.{Lawful}
use Rattle.def_transfer.proofs.Laws.Sim.{Any, Frame, Sim, plain, bind_sim, then_sim, done_sim, each_sim}

abbrev pub pointed : Entry → Option ℕ
pointed (valued a) = None
pointed (pointing o) = o

abbrev pub abstract : Entry → Option AbstractValue
abstract (valued a) = a
abstract (pointing o) = None

-- ---- the relation: the reach, what it asks of session and context, and the two states at the start

pub record Reaching (T : Tables) : Type 1 where
  pub R : Node → Type 0
  pub OkRest : Rest T → Type 0
  pub s₀ : State T
  pub t₀ : State T

module _ {T : Tables} (L : Lawful T) (𝓡 : Reaching T) where
  open 𝓡 use {R, OkRest, s₀, t₀}

  pub record Inv (w u : World T) : Type 0 where
    pub same : w.rest ≡ u.rest
    pub okay : OkRest w.rest
    pub fits : L.FitValues w.state.values × L.FitValues u.state.values × L.FitSets w.state.sets × L.FitSets u.state.sets
    pub inside : (i : ℕ) → R (id i) → All (λ v. R (val v)) (values_of (T.set_of w.state.sets i))
    pub agree : (n : Node) → R n → entry T w.state n ≡ entry T u.state n
    pub flags : w.state.is_function_expression ≡ u.state.is_function_expression
    pub left : Untouched T R s₀ w.state
    pub right : Untouched T R t₀ u.state

  -- refused with 6 to 11
  abbrev pub frame : Frame (World T)
  frame = record { Related = Inv; Allowed = λ n. lib.Dec.T (ltb 5 n && ltb n 12) }

  module _ {A : Type 0} where
    -- m keeps within the reach, and answers with Q
    abbrev pub Keeps : (A → Type 0) → M (World T) A → Type 0
    Keeps Q m = Sim frame Q m m

join_same : (P : ℕ → Type 0) (f g : ℕ → Option AbstractValue) → ((v : ℕ) → P v → f v ≡ g v) → (l : List ℕ) (a : Option AbstractValue) → All P l → join_values f l a ≡ join_values g l a
unfolding join_values
join_same P f g h [] a p = refl
join_same P f g h (v ∷ l) a p = rw (h v p.0) (join_same P f g h l (join_option join a (g v)) p.1)

module _ {T : Tables} {L : Lawful T} {𝓡 : Reaching T} where
  open 𝓡 use {R, OkRest, s₀, t₀}

  pub bind_number : {B : Type 0} {Q : B → Type 0} {m : M (World T) ℕ} {f : ℕ → M (World T) B} → Keeps L 𝓡 (λ n. R (val n)) m → ((n : ℕ) → R (val n) → Keeps L 𝓡 Q (f n)) → Keeps L 𝓡 Q (m >>= f)
  bind_number h k = bind_sim h k

  pub bind_set : {B : Type 0} {Q : B → Type 0} {m : M (World T) (Option ℕ)} {f : Option ℕ → M (World T) B}
      → Keeps L 𝓡 (λ o. All (λ v. R (val v)) (values_of o)) m → ((o : Option ℕ) → All (λ v. R (val v)) (values_of o) → Keeps L 𝓡 Q (f o)) → Keeps L 𝓡 Q (m >>= f)
  bind_set h k = bind_sim h k

  pub bind_places : {B : Type 0} {Q : B → Type 0} {m : M (World T) (List Place)} {f : List Place → M (World T) B}
      → Keeps L 𝓡 (λ l. All (λ i. R (id i)) (identifiers l)) m → ((l : List Place) → All (λ i. R (id i)) (identifiers l) → Keeps L 𝓡 Q (f l)) → Keeps L 𝓡 Q (m >>= f)
  bind_places h k = bind_sim h k

  pub each_value : {f : ℕ → M (World T) Done} (l : List ℕ) → All (λ v. R (val v)) l → ((v : ℕ) → R (val v) → Keeps L 𝓡 Any (f v)) → Keeps L 𝓡 Any (each l f)
  each_value l a h = each_sim l a h

  pub each_place : {f : Place → M (World T) Done} (P : ℕ → Type 0) (l : List Place) → All P (identifiers l) → ((p : Place) → P p.identifier → Keeps L 𝓡 Any (f p)) → Keeps L 𝓡 Any (each l f)
  unfolding each
  each_place P [] a h = done_sim
  each_place P (p ∷ ps) a h = then_sim (h p a.0) (each_place P ps a.1 h)

  pub each_reached : {f : Place → M (World T) Done} (l : List Place) → All (λ i. R (id i)) (identifiers l) → ((p : Place) → R (id p.identifier) → Keeps L 𝓡 Any (f p)) → Keeps L 𝓡 Any (each l f)
  each_reached l a h = each_place (λ i. R (id i)) l a h

  -- ---- the five that touch the state, and the two that touch the rest

  pub set_of_sim : (i : ℕ) → R (id i) → Keeps L 𝓡 (λ o. All (λ v. R (val v)) (values_of o)) (set_of i)
  unfolding set_of
  set_of_sim i r = record { runs = λ w u h. (ap pointed (h.agree (id i) r), h.inside i r, h) }

  pub value_of_sim : (v : ℕ) → R (val v) → Keeps L 𝓡 Any (value_of v)
  unfolding value_of
  value_of_sim v r = record { runs = λ w u h. (ap abstract (h.agree (val v) r), tt, h) }

  pub peek_sim : (i : ℕ) → R (id i) → Keeps L 𝓡 Any (peek i)
  unfolding peek kind_of
  peek_sim i r = record {
    runs = λ w u h. (
      ap or_default (join_same (λ v. R (val v)) (T.value_of w.state.values) (T.value_of u.state.values) (λ v q. ap abstract (h.agree (val v) q)) (values_of (T.set_of w.state.sets i)) None (h.inside i r)
          ∙ ap (λ (o : _). join_values (T.value_of u.state.values) (values_of o) None) (ap pointed (h.agree (id i) r))),
      tt,
      h,
    );
  }

  pub initialize_sim : (v : ℕ) (a : AbstractValue) → R (val v) → Keeps L 𝓡 Any (initialize v a)
  unfolding initialize
  initialize_sim v a r = record {
    runs = λ w u h. (
      refl,
      tt,
      record {
        same = h.same;
        okay = h.okay;
        fits = (L.fit_value w.state.values v a h.fits.0, L.fit_value u.state.values v a h.fits.1, h.fits.2, h.fits.3);
        inside = h.inside;
        agree = λ n. elim n as (λ k. R k → entry T (record { values = T.put_value w.state.values v a; sets = w.state.sets; is_function_expression = w.state.is_function_expression }) k ≡ entry T (record { values = T.put_value u.state.values v a; sets = u.state.sets; is_function_expression = u.state.is_function_expression }) k) [
          | val x ↦ λ q. ap valued (L.value_cong w.state.values u.state.values v a x h.fits.0 h.fits.1 (ap abstract (h.agree (val x) q)))
          | id i ↦ h.agree (id i)
        ];
        flags = h.flags;
        left = λ n. elim n as (λ k. ¬ R k → entry T (record { values = T.put_value w.state.values v a; sets = w.state.sets; is_function_expression = w.state.is_function_expression }) k ≡ entry T s₀ k) [
          | val x ↦ λ q. ap valued (L.value_other w.state.values v a x (λ e. q (subst (λ (y : ℕ). R (val y)) e r))) ∙ h.left (val x) q
          | id i ↦ h.left (id i)
        ];
        right = λ n. elim n as (λ k. ¬ R k → entry T (record { values = T.put_value u.state.values v a; sets = u.state.sets; is_function_expression = u.state.is_function_expression }) k ≡ entry T t₀ k) [
          | val x ↦ λ q. ap valued (L.value_other u.state.values v a x (λ e. q (subst (λ (y : ℕ). R (val y)) e r))) ∙ h.right (val x) q
          | id i ↦ h.right (id i)
        ];
      },
    );
  }

  pub point_sim : (i s : ℕ) → R (id i) → All (λ v. R (val v)) (members s) → Keeps L 𝓡 Any (point i s)
  unfolding point
  point_sim i s r a = record {
    runs = λ w u h. (
      refl,
      tt,
      record {
        same = h.same;
        okay = h.okay;
        fits = (h.fits.0, h.fits.1, L.fit_set w.state.sets i s h.fits.2, L.fit_set u.state.sets i s h.fits.3);
        inside = λ j q. L.set_has (λ v. R (val v)) w.state.sets i s j a (h.inside j q);
        agree = λ n. elim n as (λ k. R k → entry T (record { values = w.state.values; sets = T.put_set w.state.sets i s; is_function_expression = w.state.is_function_expression }) k ≡ entry T (record { values = u.state.values; sets = T.put_set u.state.sets i s; is_function_expression = u.state.is_function_expression }) k) [
          | val x ↦ h.agree (val x)
          | id j ↦ λ q. ap pointing (L.set_cong w.state.sets u.state.sets i s j h.fits.2 h.fits.3 (ap pointed (h.agree (id j) q)))
        ];
        flags = h.flags;
        left = λ n. elim n as (λ k. ¬ R k → entry T (record { values = w.state.values; sets = T.put_set w.state.sets i s; is_function_expression = w.state.is_function_expression }) k ≡ entry T s₀ k) [
          | val x ↦ h.left (val x)
          | id j ↦ λ q. ap pointing (L.set_other w.state.sets i s j (λ e. q (subst (λ (y : ℕ). R (id y)) e r))) ∙ h.left (id j) q
        ];
        right = λ n. elim n as (λ k. ¬ R k → entry T (record { values = u.state.values; sets = T.put_set u.state.sets i s; is_function_expression = u.state.is_function_expression }) k ≡ entry T t₀ k) [
          | val x ↦ h.right (val x)
          | id j ↦ λ q. ap pointing (L.set_other u.state.sets i s j (λ e. q (subst (λ (y : ℕ). R (id y)) e r))) ∙ h.right (id j) q
        ];
      },
    );
  }

  pub ask_sim : {A : Type 0} {Q : A → Type 0} (f : Rest T → A) → ((r : Rest T) → OkRest r → Q (f r)) → Keeps L 𝓡 Q (ask f)
  unfolding ask
  ask_sim f q = record { runs = λ w u h. (ap f h.same, q w.rest h.okay, h) }

  pub look_sim : {A : Type 0} (f : Rest T → A) → Keeps L 𝓡 Any (ask f)
  look_sim f = ask_sim f (λ r h. tt)

  pub change_sim : (f : Rest T → Rest T) → ((r : Rest T) → OkRest r → OkRest (f r)) → Keeps L 𝓡 Any (change f)
  unfolding change
  change_sim f q = record {
    runs = λ w u h. (
      refl,
      tt,
      record {
        same = ap f h.same;
        okay = q w.rest h.okay;
        fits = h.fits;
        inside = h.inside;
        agree = h.agree;
        flags = h.flags;
        left = h.left;
        right = h.right;
      },
    );
  }

pub ruleset sims = (plain, bind_number, bind_set, bind_places, each_value, each_reached, set_of_sim, value_of_sim, peek_sim, initialize_sim, point_sim, look_sim, change_sim)
