-- A computation goes alike in worlds that differ in what it neither reads nor writes. Assumes nothing.
use Rattle.std.specs.Prelude.{ℕ, ◌≡◌, Bool, true, false}
use Rattle.std.proofs.Common.{◌∙◌}
use Rattle.std.proofs.Math.Path.{refl, ap}
use mathlib.Core.List.{List}
use Rattle.base_tests.specs.Tests.{is_some}
use Rattle.def_effects.specs.declared.Span.{Span}
use Rattle.def_transfer.specs.Monad.{Res, ok, refused, M, and_then, ◌>>=◌, ◌>>◌, refuse, done, return, when◌then◌else◌}
use Rattle.def_transfer.specs.Tables.{World}
use Rattle.def_transfer.specs.State as State
use Rattle.def_transfer.specs.State.{ask, change}
use Rattle.def_transfer.specs.Context as Context
use Rattle.lent_layout.specs.Context.{ContextWords}
use Rattle.lent_world.specs.World.{lent}

-- ---- worlds that differ

-- a world, but with another context, and with this output list
abbrev pub with_context : (ContextWords → ContextWords) → List ℕ → World lent → World lent
with_context f os w = record {
  state = w.state;
  rest = record {
    session = w.rest.session;
    context = f w.rest.context;
    work = record { initialized = w.rest.work.initialized; listed = record { words = os; count = w.rest.work.listed.count }; freeze_entries = w.rest.work.freeze_entries; entries = w.rest.work.entries };
  };
}

-- a world, but with these values, these sets and this output list
abbrev pub with_state : List ℕ → List ℕ → List ℕ → World lent → World lent
with_state vs ss os w = record {
  state = record { values = vs; sets = ss; is_function_expression = w.state.is_function_expression };
  rest = record {
    session = w.rest.session;
    context = w.rest.context;
    work = record { initialized = w.rest.work.initialized; listed = record { words = os; count = w.rest.work.listed.count }; freeze_entries = w.rest.work.freeze_entries; entries = w.rest.work.entries };
  };
}

-- what a computation comes to, in a world that differs
abbrev pub moved : {A : Type 0} → (World lent → World lent) → Res (World lent) A → Res (World lent) A
moved g (ok a w) = ok a (g w)
moved g (refused n w) = refused n (g w)

-- the computation goes alike there: the same answer or refusal, and the world that it leaves differs as the one before it
abbrev pub GoesAlike : {A : Type 0} → (World lent → World lent) → M (World lent) A → Type 0
GoesAlike g m = (w : World lent) → m (g w) ≡ moved g (m w)

module _ (g : World lent → World lent) {A : Type 0} where
  -- what it comes to there, where what it comes to here is known
  pub alike : (m : M (World lent) A) → GoesAlike g m → (w : World lent) (x : Res (World lent) A) → m w ≡ x → m (g w) ≡ moved g x
  alike m s w x h = s w ∙ ap (λ (y : Res (World lent) A). moved g y) h

  pub return_alike : (a : A) → GoesAlike g (return a)
  unfolding return
  return_alike a w = refl

  pub refuse_alike : (n : ℕ) → GoesAlike g (refuse {A = A} n)
  unfolding refuse
  refuse_alike n w = refl

  pub when_alike : (b : Bool) (m n : M (World lent) A) → GoesAlike g m → GoesAlike g n → GoesAlike g (when b then m else n)
  unfolding when◌then◌else◌
  when_alike true m n s t w = s w
  when_alike false m n s t w = t w

module _ (g : World lent → World lent) {A B : Type 0} where
  pub bind_alike : (m : M (World lent) A) (k : A → M (World lent) B) → GoesAlike g m → ((a : A) → GoesAlike g (k a)) → GoesAlike g (m >>= k)
  unfolding ◌>>=◌ and_then
  bind_alike m k s t w = ap (λ (y : Res (World lent) A). and_then y k) (s w) ∙ go (m w)
    where
      go : (y : Res (World lent) A) → and_then (moved g y) k ≡ moved g (and_then y k)
      go (ok a u) = t a u
      go (refused n u) = refl

  pub then_alike : (m : M (World lent) A) (n : M (World lent) B) → GoesAlike g m → GoesAlike g n → GoesAlike g (m >> n)
  unfolding ◌>>◌
  then_alike m n s t = bind_alike m (λ _. n) s (λ _. t)

-- ---- parts that neither read nor write the context and the output list

module _ (f : ContextWords → ContextWords) (os : List ℕ) where
  -- a place begins
  pub begin_alike : (i : ℕ) → GoesAlike (with_context f os) (Context.begin i)
  unfolding Context.begin Context.is_initialized Context.put_initialized ask change
  begin_alike i = bind_alike _ _ _ (λ w. refl) (λ b. when_alike _ b _ _ (refuse_alike _ 6) (λ w. refl))

  -- the kind of a place, with its first undefined access
  pub kind_alike : (i : ℕ) (span : Span) → GoesAlike (with_context f os) (State.kind_with_span i span)
  unfolding State.kind_with_span State.set_of State.peek State.record_access change done
  kind_alike i span =
      bind_alike _ _ _ (λ w. refl) (λ o. then_alike _ _ _ (when_alike _ (is_some o) _ _ (return_alike _ tt) (λ w. refl)) (λ w. refl))

  -- the same without a span
  pub plain_alike : (i : ℕ) → GoesAlike (with_context f os) (State.kind i)
  unfolding State.kind
  plain_alike i = kind_alike i _
