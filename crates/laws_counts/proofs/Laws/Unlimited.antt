-- Tables whose counts have no limit: listed effects as a list, entries as a number. What they come to in the tables as they are, and a
-- logic that says that a computation over both does the same. Assumes nothing.
use Rattle.std.specs.Prelude.{ℕ, zero, suc, ◌≡◌, Bool}
use Rattle.std.proofs.Math.Path.{refl, ap}
use Rattle.std.proofs.Common.{◌∙◌}
use Rattle.std.proofs.Math.Bool.{true, false}
use mathlib.Core.List.{List, [], ◌∷◌, ◌++◌}
use Rattle.def_effects.specs.declared.Session.{Session}
use Rattle.def_effects.specs.Effects.{AliasingEffect}
use Rattle.def_transfer.specs.Monad.{Res, ok, refused, M, Done, and_then, ◌>>=◌, ◌>>◌, return, refuse, done, when◌then◌else◌, each, restore, atomically}
use Rattle.def_transfer.specs.Tables.{Tables, Work, Rest, World}
use Rattle.def_transfer.specs.State.{ask, change}

-- the same tables, with the listed effects as a list and the entries as a number
abbrev pub unlimited : Tables → Tables
unlimited T = record {
  Values = T.Values;
  value_of = T.value_of;
  put_value = T.put_value;
  Sets = T.Sets;
  set_of = T.set_of;
  put_set = T.put_set;
  Context = T.Context;
  interned_count = T.interned_count;
  find_effect = T.find_effect;
  add_effect = T.add_effect;
  key_at = T.key_at;
  find_number = T.find_number;
  put_key = T.put_key;
  link_of = T.link_of;
  put_link = T.put_link;
  context_of = T.context_of;
  mutated_inside = T.mutated_inside;
  has_tracked_side_effect = T.has_tracked_side_effect;
  make_read = T.make_read;
  is_ref = T.is_ref;
  is_hoisted = T.is_hoisted;
  access_span = T.access_span;
  name_of = T.name_of;
  is_transitive = T.is_transitive;
  identity_count = T.identity_count;
  instance_count = T.instance_count;
  find_identity = T.find_identity;
  find_instance = T.find_instance;
  add_diagnostic = T.add_diagnostic;
  Initialized = T.Initialized;
  none_initialized = T.none_initialized;
  is_initialized = T.is_initialized;
  put_initialized = T.put_initialized;
  Listed = List AliasingEffect;
  none_listed = [];
  put_listed = λ l e. l ++ (e ∷ []);
  one_more = λ n. suc n;
  access_of = T.access_of;
}

module _ (T : Tables) where
  -- the effects of a list, listed one after the other
  unfoldable pub list_all : T.Listed → List AliasingEffect → T.Listed
  list_all l [] = l
  list_all l (e ∷ es) = list_all (T.put_listed l e) es

  -- so many entries, counted one after the other
  unfoldable pub count_all : ℕ → ℕ
  count_all zero = 0
  count_all (suc n) = T.one_more (count_all n)

  -- one more effect at the end is listed last
  pub list_last : (l : T.Listed) (es : List AliasingEffect) (e : AliasingEffect) → list_all l (es ++ (e ∷ [])) ≡ T.put_listed (list_all l es) e
  unfolding list_all
  list_last l [] e = refl
  list_last l (x ∷ es) e = list_last (T.put_listed l x) es e

  -- ---- a world without limits, as the tables have it

  -- the session, with its entries as the tables count them
  abbrev pub limit_session : Session → Session
  limit_session s = record { next = s.next; access = s.access; span = s.span; entries = count_all s.entries }

  -- the work, with its effects as the tables list them and its entries as they count them
  abbrev pub limit_work : Work (unlimited T) → Work T
  limit_work k = record { initialized = k.initialized; listed = list_all T.none_listed k.listed; freeze_entries = k.freeze_entries; entries = count_all k.entries }

  -- session, context and work
  abbrev pub limit_rest : Rest (unlimited T) → Rest T
  limit_rest r = record { session = limit_session r.session; context = r.context; work = limit_work r.work }

  -- a whole world
  abbrev pub limit : World (unlimited T) → World T
  limit w = record { state = record { values = w.state.values; sets = w.state.sets; is_function_expression = w.state.is_function_expression }; rest = limit_rest w.rest }

  -- an outcome, with its world as the tables have it
  abbrev pub limited : {A : Type 0} → Res (World (unlimited T)) A → Res (World T) A
  limited (ok a w) = ok a (limit w)
  limited (refused n w) = refused n (limit w)

  -- m over the tables does what n does without limits
  pub record Same {A : Type 0} (m : M (World T) A) (n : M (World (unlimited T)) A) : Type 0 where
    pub same : (w : World (unlimited T)) → m (limit w) ≡ limited (n w)

module _ {T : Tables} where
  -- the same outcome, and then the same
  and_then_is : {A B : Type 0} {f : A → M (World T) B} {g : A → M (World (unlimited T)) B} → ((a : A) → Same T (f a) (g a)) → (r : Res (World (unlimited T)) A) → and_then (limited T r) f ≡ limited T (and_then r g)
  unfolding and_then
  and_then_is h (ok a w) = (h a).same w
  and_then_is h (refused n w) = refl

  -- one computation, and then what its answer leads to
  -- both are the same
  pub bind_same : {A B : Type 0} {m : M (World T) A} {n : M (World (unlimited T)) A} {f : A → M (World T) B} {g : A → M (World (unlimited T)) B} → Same T m n → ((a : A) → Same T (f a) (g a)) → Same T (m >>= f) (n >>= g)
  unfolding ◌>>=◌
  bind_same {n = n} {f = f} {g = g} h k = record { same = λ w. ap (λ (r : Res (World T) _). and_then r f) (h.same w) ∙ and_then_is k (n w) }

  -- one computation, and then another
  pub then_same : {B : Type 0} {m : M (World T) Done} {n : M (World (unlimited T)) Done} {f : M (World T) B} {g : M (World (unlimited T)) B} → Same T m n → Same T f g → Same T (m >> f) (n >> g)
  unfolding ◌>>◌
  then_same h k = bind_same h (λ a. k)

  -- an answer
  pub return_same : {A : Type 0} (a : A) → Same T (return a) (return a)
  unfolding return
  return_same a = record { same = λ w. refl }

  -- an answer that says nothing
  pub done_same : Same T done done
  unfolding done
  done_same = return_same tt

  -- a refusal
  pub refuse_same : {A : Type 0} (n : ℕ) → Same T (refuse {A = A} n) (refuse n)
  unfolding refuse
  refuse_same n = record { same = λ w. refl }

  -- either branch
  pub if_same : {A : Type 0} {m n : M (World T) A} {f g : M (World (unlimited T)) A} (b : Bool) → Same T m f → Same T n g → Same T (when b then m else n) (when b then f else g)
  unfolding when◌then◌else◌
  if_same true h k = h
  if_same false h k = k

  -- one after the other
  pub each_same : {A : Type 0} {f : A → M (World T) Done} {g : A → M (World (unlimited T)) Done} (l : List A) → ((x : A) → Same T (f x) (g x)) → Same T (each l f) (each l g)
  unfolding each
  each_same [] h = done_same
  each_same (x ∷ xs) h = then_same (h x) (each_same xs h)

  -- after a refusal the world is as before
  pub atomically_same : {A : Type 0} {m : M (World T) A} {n : M (World (unlimited T)) A} → Same T m n → Same T (atomically m) (atomically n)
  unfolding atomically restore
  atomically_same {A = A} {m = m} {n = n} h = record { same = λ w. ap (restore (limit T w)) (h.same w) ∙ go w (n w) }
    where
      go : (w : World (unlimited T)) (r : Res (World (unlimited T)) A) → restore (limit T w) (limited T r) ≡ limited T (restore w r)
      go w (ok a u) = refl
      go w (refused k u) = refl

  -- what is read of session, context and work
  pub ask_same : {A : Type 0} (f : Rest T → A) (g : Rest (unlimited T) → A) → ((r : Rest (unlimited T)) → f (limit_rest T r) ≡ g r) → Same T (ask f) (ask g)
  unfolding ask
  ask_same f g h = record { same = λ w. ap (λ (a : _). ok a (limit T w)) (h w.rest) }

  -- a change of session, context and work
  pub change_same : (f : Rest T → Rest T) (g : Rest (unlimited T) → Rest (unlimited T)) → ((r : Rest (unlimited T)) → f (limit_rest T r) ≡ limit_rest T (g r)) → Same T (change f) (change g)
  unfolding change
  change_same f g h = record {
    same = λ w. ap (λ (r : Rest T). ok tt (record { state = record { values = w.state.values; sets = w.state.sets; is_function_expression = w.state.is_function_expression }; rest = r })) (h w.rest);
  }

-- what `search` finds by that two computations are the same
pub ruleset alike = (bind_same, then_same, return_same, done_same, refuse_same, if_same, each_same, ask_same, change_same)
