-- A world of faithful tables and a plain one that mean the same; computations that do the same from such worlds. Assumes nothing.
use Prim.Native.Nat.{ℕ, ◌≤◌, ◌<◌}
use Rattle.std.specs.Prelude.{◌≡◌, Bool, Option, None, Some}
use Rattle.std.proofs.Math.Path.{refl, ap, ap₂, subst, fun_ext}
use Rattle.std.proofs.Common.{◌∙◌, arith}
use Rattle.std.proofs.Math.Bool.{true, false}
use mathlib.Core.List.{List, [], ◌∷◌}
use Rattle.std.proofs.lemmas.Nat.{or_lt}
use Rattle.base_orders.specs.Options.{join_option}
use Rattle.base_tests.specs.Tests.{All}
use Rattle.def_kinds.specs.declared.AbstractValue.{AbstractValue}
use Rattle.def_kinds.specs.Values.{join}
use Rattle.def_effects.specs.declared.Place.{Place}
use Rattle.def_effects.specs.declared.Session.{Session}
use Rattle.def_effects.specs.Places.{identifiers}
use Rattle.def_transfer.specs.Monad.{Res, ok, refused, M, Done, and_then, ◌>>=◌, ◌>>◌, return, refuse, done, when◌then◌else◌, each, restore, atomically}
use Rattle.def_transfer.specs.Tables.{Tables, State, Work, Rest, World}
use Rattle.base_sets.specs.Members.{values_of}
use Rattle.def_transfer.specs.State.{or_default, join_values, kind_of, set_of, value_of, peek, initialize, point, ask, change}
use Rattle.def_transfer.specs.Pure.{pure, at}
use Rattle.def_transfer.specs.Pure as Pure
use Rattle.def_faithful.specs.Ranges.{Number, Fresh, IsSet, Pointing, Reasoned, Entered}
use Rattle.def_faithful.specs.Faithful.{Faithful}

-- nothing to say of an answer
-- most are only equal
abbrev pub Any : {A : Type 0} → A → Type 0
Any a = Unit {0}

-- the reasons of a join are a word
join_entered : (a b : Option AbstractValue) → Entered a → Entered b → Entered (join_option join a b)
unfolding join_option join
join_entered None b p q = q
join_entered (Some a) None p q = p
join_entered (Some a) (Some b) p q = record { word = or_lt 32 a.reason b.reason p.word q.word }

joined : (f : ℕ → Option AbstractValue) → ((v : ℕ) → Entered (f v)) → (l : List ℕ) (a : Option AbstractValue) → Entered a → Entered (join_values f l a)
unfolding join_values
joined f h [] a p = p
joined f h (v ∷ l) a p = joined f h l (join_option join a (f v)) (join_entered a (f v) p (h v))

or_default_is : (o : Option AbstractValue) → Entered o → Reasoned (or_default o)
or_default_is None p = record { word = omega arith }
or_default_is (Some a) p = p

module _ {n : ℕ} {T : Tables} (F : Faithful n T) where
  -- a state and a plain one with the same entries
  -- the tables are fit
  pub record SameState (s : State T) (t : State pure) : Type 0 where
    pub fit_values : F.FitValues s.values
    pub values : T.value_of s.values ≡ t.values
    pub fit_sets : F.FitSets s.sets
    pub sets : T.set_of s.sets ≡ t.sets
    pub flag : s.is_function_expression ≡ t.is_function_expression

  -- the same session, but that entries are counted as far as the tables can
  -- fresh numbers start at 1
  pub record SameSession (s t : Session) : Type 0 where
    pub low : 1 ≤ s.next
    pub next : s.next ≡ t.next
    pub access : s.access ≡ t.access
    pub span : s.span ≡ t.span
    pub entries : F.Counts s.entries t.entries

  -- the same done so far
  -- the entries of the Freeze under way are never more than 4,096
  pub record SameWork (k : Work T) (l : Work pure) : Type 0 where
    pub initialized : F.Marked k.initialized l.initialized
    pub listed : F.Lists k.listed l.listed
    pub freeze_entries : k.freeze_entries ≡ l.freeze_entries
    pub entries : F.Counts k.entries l.entries

  -- no number from the next one on has a key
  -- so that a fresh number takes nobody's place
  abbrev pub Unused : Session → Pure.Context → Type 0
  Unused s c = (v : ℕ) → s.next ≤ v → c.cached v ≡ None

  -- session, context and work
  -- the context means the plain one
  pub record SameRest (r : Rest T) (q : Rest pure) : Type 0 where
    pub session : SameSession r.session q.session
    pub fit : F.FitContext r.context
    pub context : F.meaning r.context ≡ q.context
    pub unused : Unused q.session q.context
    pub work : SameWork r.work q.work

  -- two worlds as a call finds them
  -- whatever was done before is forgotten as an instruction starts
  pub record Begins (w : World T) (u : World pure) : Type 0 where
    pub state : SameState w.state u.state
    pub session : SameSession w.rest.session u.rest.session
    pub fit : F.FitContext w.rest.context
    pub context : F.meaning w.rest.context ≡ u.rest.context
    pub unused : Unused u.rest.session u.rest.context

  pub record Related (w : World T) (u : World pure) : Type 0 where
    pub state : SameState w.state u.state
    pub rest : SameRest w.rest u.rest

  module _ {A : Type 0} (Q : A → Type 0) where
    -- the same answer, which has Q, or the same refusal; the worlds stay related
    abbrev pub Rel : Res (World T) A → Res (World pure) A → Type 0
    Rel (ok a w) (ok b u) = (a ≡ b) × Q a × Related w u
    Rel (ok a w) (refused j u) = ⊥
    Rel (refused i w) (ok b u) = ⊥
    Rel (refused i w) (refused j u) = (i ≡ j) × Related w u

    -- m over the tables does what p does over plain ones
    pub record Means (m : M (World T) A) (p : M (World pure) A) : Type 0 where
      pub runs : (w : World T) (u : World pure) → Related w u → Rel (m w) (p u)

    -- the same, from worlds of which P holds: an answer that was just read of it
    pub record When (P : Rest T → Type 0) (m : M (World T) A) (p : M (World pure) A) : Type 0 where
      pub runs : (w : World T) (u : World pure) → Related w u → P w.rest → Rel (m w) (p u)

module _ {n : ℕ} {T : Tables} {F : Faithful n T} where
  -- ---- rules for what computations are made of

  rel_bind : {A B : Type 0} (P : A → Type 0) (Q : B → Type 0) (f : A → M (World T) B) (g : A → M (World pure) B) → ((a : A) → P a → Means F Q (f a) (g a))
      → (x : Res (World T) A) (y : Res (World pure) A) → Rel F P x y → Rel F Q (and_then x f) (and_then y g)
  unfolding and_then
  rel_bind P Q f g h (ok a w) (ok b u) r = subst (λ (c : _). Rel F Q (f a w) (g c u)) r.0 ((h a r.1).runs w u r.2)
  rel_bind P Q f g h (ok a w) (refused j u) r = absurd r
  rel_bind P Q f g h (refused i w) (ok b u) r = absurd r
  rel_bind P Q f g h (refused i w) (refused j u) r = r

  pub bind_means : {A B : Type 0} {P : A → Type 0} {Q : B → Type 0} {m : M (World T) A} {p : M (World pure) A} {f : A → M (World T) B} {g : A → M (World pure) B}
      → Means F P m p → ((a : A) → P a → Means F Q (f a) (g a)) → Means F Q (m >>= f) (p >>= g)
  unfolding ◌>>=◌
  bind_means {P = P} {Q = Q} {m = m} {p = p} {f = f} {g = g} h k = record { runs = λ w u i. rel_bind P Q f g k (m w) (p u) (h.runs w u i) }

  pub then_means : {B : Type 0} {Q : B → Type 0} {m : M (World T) Done} {p : M (World pure) Done} {f : M (World T) B} {g : M (World pure) B} → Means F Any m p → Means F Q f g → Means F Q (m >> f) (p >> g)
  unfolding ◌>>◌
  then_means h k = bind_means h (λ a p. k)

  pub bind_any : {A B : Type 0} {Q : B → Type 0} {m : M (World T) A} {p : M (World pure) A} {f : A → M (World T) B} {g : A → M (World pure) B} → Means F Any m p → ((a : A) → Means F Q (f a) (g a)) → Means F Q (m >>= f) (p >>= g)
  bind_any h k = bind_means h (λ a _. k a)

  pub bind_fresh : {B : Type 0} {Q : B → Type 0} {m : M (World T) ℕ} {p : M (World pure) ℕ} {f : ℕ → M (World T) B} {g : ℕ → M (World pure) B} → Means F Fresh m p → ((v : ℕ) → Fresh v → Means F Q (f v) (g v)) → Means F Q (m >>= f) (p >>= g)
  bind_fresh h k = bind_means h k

  pub bind_set : {B : Type 0} {Q : B → Type 0} {m : M (World T) (Option ℕ)} {p : M (World pure) (Option ℕ)} {f : Option ℕ → M (World T) B} {g : Option ℕ → M (World pure) B}
      → Means F Pointing m p → ((o : Option ℕ) → Pointing o → Means F Q (f o) (g o)) → Means F Q (m >>= f) (p >>= g)
  bind_set h k = bind_means h k

  pub bind_value : {B : Type 0} {Q : B → Type 0} {m : M (World T) AbstractValue} {p : M (World pure) AbstractValue} {f : AbstractValue → M (World T) B} {g : AbstractValue → M (World pure) B}
      → Means F Reasoned m p → ((a : AbstractValue) → Reasoned a → Means F Q (f a) (g a)) → Means F Q (m >>= f) (p >>= g)
  bind_value h k = bind_means h k

  pub return_means : {A : Type 0} {Q : A → Type 0} (a : A) → Q a → Means F Q (return a) (return a)
  unfolding return
  return_means a q = record { runs = λ w u i. (refl, q, i) }

  pub done_means : Means F Any done done
  unfolding done
  done_means = return_means tt tt

  pub refuse_means : {A : Type 0} {Q : A → Type 0} (k : ℕ) → Means F Q (refuse k) (refuse k)
  unfolding refuse
  refuse_means k = record { runs = λ w u i. (refl, i) }

  pub if_means : {A : Type 0} {Q : A → Type 0} {m k : M (World T) A} {f g : M (World pure) A} (b : Bool) → Means F Q m f → Means F Q k g → Means F Q (when b then m else k) (when b then f else g)
  unfolding when◌then◌else◌
  if_means true h k = h
  if_means false h k = k

  -- the same, with the test's outcome in each branch
  pub test_means : {A : Type 0} {Q : A → Type 0} {m k : M (World T) A} {f g : M (World pure) A} (b : Bool) → (b ≡ true → Means F Q m f) → (b ≡ false → Means F Q k g) → Means F Q (when b then m else k) (when b then f else g)
  unfolding when◌then◌else◌
  test_means true h k = h refl
  test_means false h k = k refl

  pub each_value : {f : ℕ → M (World T) Done} {g : ℕ → M (World pure) Done} (l : List ℕ) → All Number l → ((v : ℕ) → Number v → Means F Any (f v) (g v)) → Means F Any (each l f) (each l g)
  unfolding each
  each_value [] a h = done_means
  each_value (x ∷ xs) a h = then_means (h x a.0) (each_value xs a.1 h)

  pub each_place : {f : Place → M (World T) Done} {g : Place → M (World pure) Done} (P : ℕ → Type 0) (l : List Place) → All P (identifiers l) → ((p : Place) → P p.identifier → Means F Any (f p) (g p)) → Means F Any (each l f) (each l g)
  unfolding each
  each_place P [] a h = done_means
  each_place P (p ∷ ps) a h = then_means (h p a.0) (each_place P ps a.1 h)

  pub each_any : {A : Type 0} {f : A → M (World T) Done} {g : A → M (World pure) Done} (l : List A) → ((x : A) → Means F Any (f x) (g x)) → Means F Any (each l f) (each l g)
  unfolding each
  each_any [] h = done_means
  each_any (x ∷ xs) h = then_means (h x) (each_any xs h)

  pub each_all : {A : Type 0} {f : A → M (World T) Done} {g : A → M (World pure) Done} (P : A → Type 0) (l : List A) → All P l → ((x : A) → P x → Means F Any (f x) (g x)) → Means F Any (each l f) (each l g)
  unfolding each
  each_all P [] a h = done_means
  each_all P (x ∷ xs) a h = then_means (h x a.0) (each_all P xs a.1 h)

  pub atomically_means : {m : M (World T) Done} {p : M (World pure) Done} → Means F Any m p → Means F Any (atomically m) (atomically p)
  unfolding atomically restore
  atomically_means {m = m} {p = p} h = record { runs = λ w u i. go w u i (m w) (p u) (h.runs w u i) }
    where
      go : (w : World T) (u : World pure) → Related F w u → (x : Res (World T) Done) (y : Res (World pure) Done) → Rel F Any x y → Rel F Any (restore w x) (restore u y)
      go w u i (ok a v) (ok b z) r = r
      go w u i (ok a v) (refused k z) r = absurd r
      go w u i (refused j v) (ok b z) r = absurd r
      go w u i (refused j v) (refused k z) r = (r.0, i)

  -- ---- the five that touch the state

  pub set_of_means : (i : ℕ) → Means F Pointing (set_of i) (set_of i)
  unfolding set_of
  set_of_means i = record { runs = λ w u h. (ap (λ (f : ℕ → Option ℕ). f i) h.state.sets, F.set_is w.state.sets i h.state.fit_sets, h) }

  pub value_of_means : (v : ℕ) → Means F Any (value_of v) (value_of v)
  unfolding value_of
  value_of_means v = record { runs = λ w u h. (ap (λ (f : ℕ → Option AbstractValue). f v) h.state.values, tt, h) }

  pub peek_means : (i : ℕ) → Means F Reasoned (peek i) (peek i)
  unfolding peek kind_of
  peek_means i = record {
    runs = λ w u h. (
      ap₂ (λ (f : ℕ → Option AbstractValue) (o : Option ℕ). kind_of f o) h.state.values (ap (λ (f : ℕ → Option ℕ). f i) h.state.sets),
      or_default_is (join_values (T.value_of w.state.values) (values_of (T.set_of w.state.sets i)) None) (joined (T.value_of w.state.values) (λ v. F.value_word w.state.values v h.state.fit_values) (values_of (T.set_of w.state.sets i)) None tt),
      h,
    );
  }

  pub initialize_means : (v : ℕ) (a : AbstractValue) → Number v → Reasoned a → Means F Any (initialize v a) (initialize v a)
  unfolding initialize
  initialize_means v a p q = record {
    runs = λ w u h. (
      refl,
      tt,
      record {
        state = record {
          fit_values = F.value_fit w.state.values v a h.state.fit_values p q;
          values = fun_ext (F.value_put w.state.values v a h.state.fit_values p q) ∙ ap (λ (f : ℕ → Option AbstractValue). at f v (Some a)) h.state.values;
          fit_sets = h.state.fit_sets;
          sets = h.state.sets;
          flag = h.state.flag;
        };
        rest = h.rest;
      },
    );
  }

  pub point_means : (i s : ℕ) → i < n → IsSet s → Means F Any (point i s) (point i s)
  unfolding point
  point_means i s p q = record {
    runs = λ w u h. (
      refl,
      tt,
      record {
        state = record {
          fit_values = h.state.fit_values;
          values = h.state.values;
          fit_sets = F.set_fit w.state.sets i s h.state.fit_sets p q;
          sets = fun_ext (F.set_put w.state.sets i s h.state.fit_sets p q) ∙ ap (λ (f : ℕ → Option ℕ). at f i (Some s)) h.state.sets;
          flag = h.state.flag;
        };
        rest = h.rest;
      },
    );
  }

  -- ---- the two that touch the rest

  pub answer_means : {A : Type 0} {Q : A → Type 0} (f : Rest T → A) (g : Rest pure → A) → ((r : Rest T) (q : Rest pure) → SameRest F r q → (f r ≡ g q) × Q (f r)) → Means F Q (ask f) (ask g)
  unfolding ask
  answer_means f g k = record { runs = λ w u h. let x = k w.rest u.rest h.rest in (x.0, x.1, h) }

  pub ask_means : {A : Type 0} (f : Rest T → A) (g : Rest pure → A) → ((r : Rest T) (q : Rest pure) → SameRest F r q → f r ≡ g q) → Means F Any (ask f) (ask g)
  ask_means f g k = answer_means f g (λ r q h. (k r q h, tt))

  pub change_means : (f : Rest T → Rest T) (g : Rest pure → Rest pure) → ((r : Rest T) (q : Rest pure) → SameRest F r q → SameRest F (f r) (g q)) → Means F Any (change f) (change g)
  unfolding change
  change_means f g k = record { runs = λ w u h. (refl, tt, record { state = h.state; rest = k w.rest u.rest h.rest }) }

  -- ---- what holds of the world at hand

  pub always : {P : Rest T → Type 0} {A : Type 0} {Q : A → Type 0} {m : M (World T) A} {p : M (World pure) A} → Means F Q m p → When F Q P m p
  always h = record { runs = λ w u i _. h.runs w u i }

  pub when_bind : {P : Rest T → Type 0} {A B : Type 0} {R : A → Type 0} {Q : B → Type 0} {m : M (World T) A} {p : M (World pure) A} {f : A → M (World T) B} {g : A → M (World pure) B}
      → When F R P m p → ((a : A) → R a → Means F Q (f a) (g a)) → When F Q P (m >>= f) (p >>= g)
  unfolding ◌>>=◌
  when_bind {R = R} {Q = Q} {m = m} {p = p} {f = f} {g = g} h k = record { runs = λ w u i x. rel_bind R Q f g k (m w) (p u) (h.runs w u i x) }

  pub when_then : {P : Rest T → Type 0} {B : Type 0} {Q : B → Type 0} {m : M (World T) Done} {p : M (World pure) Done} {f : M (World T) B} {g : M (World pure) B} → When F Any P m p → Means F Q f g → When F Q P (m >> f) (p >> g)
  unfolding ◌>>◌
  when_then h k = when_bind h (λ a _. k)

  pub when_ask : {P : Rest T → Type 0} {A B : Type 0} {Q : B → Type 0} (f : Rest T → A) (g : Rest pure → A) {k : A → M (World T) B} {l : A → M (World pure) B} → ((r : Rest T) (q : Rest pure) → SameRest F r q → f r ≡ g q)
      → ((a : A) → When F Q (λ r. P r × (f r ≡ a)) (k a) (l a)) → When F Q P (ask f >>= k) (ask g >>= l)
  unfolding ask ◌>>=◌ and_then
  when_ask {Q = Q} f g {k = k} {l = l} e h = record { runs = λ w u i x. subst (λ (b : _). Rel F Q (k (f w.rest) w) (l b u)) (e w.rest u.rest i.rest) ((h (f w.rest)).runs w u i (x, refl)) }

  pub look : {A B : Type 0} {Q : B → Type 0} (f : Rest T → A) (g : Rest pure → A) {k : A → M (World T) B} {l : A → M (World pure) B} → ((r : Rest T) (q : Rest pure) → SameRest F r q → f r ≡ g q)
      → ((a : A) → When F Q (λ r. f r ≡ a) (k a) (l a)) → Means F Q (ask f >>= k) (ask g >>= l)
  unfolding ask ◌>>=◌ and_then
  look {Q = Q} f g {k = k} {l = l} e h = record { runs = λ w u i. subst (λ (b : _). Rel F Q (k (f w.rest) w) (l b u)) (e w.rest u.rest i.rest) ((h (f w.rest)).runs w u i refl) }

  -- the same, where more is known of what was read
  pub look_found : {A B : Type 0} {P : A → Type 0} {Q : B → Type 0} (f : Rest T → A) (g : Rest pure → A) {k : A → M (World T) B} {l : A → M (World pure) B} → ((r : Rest T) (q : Rest pure) → SameRest F r q → f r ≡ g q)
      → ((r : Rest T) (q : Rest pure) → SameRest F r q → P (f r)) → ((a : A) → P a → When F Q (λ r. f r ≡ a) (k a) (l a)) → Means F Q (ask f >>= k) (ask g >>= l)
  unfolding ask ◌>>=◌ and_then
  look_found {Q = Q} f g {k = k} {l = l} e x h = record { runs = λ w u i. subst (λ (b : _). Rel F Q (k (f w.rest) w) (l b u)) (e w.rest u.rest i.rest) ((h (f w.rest) (x w.rest u.rest i.rest)).runs w u i refl) }

  pub when_test : {P : Rest T → Type 0} {A : Type 0} {Q : A → Type 0} {m k : M (World T) A} {f g : M (World pure) A} (b : Bool) → Means F Q m f → (b ≡ false → When F Q P k g) → When F Q P (when b then m else k) (when b then f else g)
  unfolding when◌then◌else◌
  when_test true h k = record { runs = λ w u i _. h.runs w u i }
  when_test false h k = record { runs = λ w u i x. (k refl).runs w u i x }

  pub when_change : {P : Rest T → Type 0} (f : Rest T → Rest T) (g : Rest pure → Rest pure) → ((r : Rest T) (q : Rest pure) → SameRest F r q → P r → SameRest F (f r) (g q)) → When F Any P (change f) (change g)
  unfolding change
  when_change f g k = record { runs = λ w u h x. (refl, tt, record { state = h.state; rest = k w.rest u.rest h.rest x }) }

pub ruleset plain = (then_means, bind_any, bind_fresh, bind_set, bind_value, if_means, done_means, refuse_means, return_means, each_value, set_of_means, value_of_means, peek_means, initialize_means, point_means, ask_means)
