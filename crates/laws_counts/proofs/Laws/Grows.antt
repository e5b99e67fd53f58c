-- How much a measure of an instruction's work grows in a computation: `Grows μ b m` says that m, refused or not, ends where μ is at most
-- b more than where m began. Assumes nothing.
use Rattle.std.specs.Prelude.{ℕ, ◌+◌, ◌≤◌, Bool, ◌≡◌}
use native.Mathlib.Omega.{arith}
use Rattle.std.proofs.Math.Bool.{true, false}
use Rattle.std.proofs.Math.Path.{refl}
use mathlib.Core.List.{List, [], ◌∷◌}
use Rattle.def_transfer.specs.Monad.{Res, ok, refused, M, Done, and_then, ◌>>=◌, ◌>>◌, return, refuse, done, when◌then◌else◌, each, restore, atomically}
use Rattle.def_transfer.specs.Tables.{Tables, Work, Rest, World}
use Rattle.def_transfer.specs.State.{ask}

-- the sum of what a list's members weigh
unfoldable pub total : {A : Type 0} → (A → ℕ) → List A → ℕ
total c [] = 0
total c (x ∷ xs) = c x + total c xs

module _ {T : Tables} where
  -- the work that a computation ends with
  abbrev pub after : {A : Type 0} → Res (World T) A → Work T
  after (ok a w) = w.rest.work
  after (refused n w) = w.rest.work

  -- what is answered has Q
  abbrev pub Holds : {A : Type 0} → (A → Type 0) → Res (World T) A → Type 0
  Holds Q (ok a w) = Q a
  Holds Q (refused n w) = Unit {0}

  -- from any world, the measure at the end is at most b more; state, session and context do not count
  -- a refusal counts as well: what went before it was counted
  pub record Grows (μ : Work T → ℕ) {A : Type 0} (b : ℕ) (m : M (World T) A) : Type 0 where
    pub grows : (w : World T) → μ (after (m w)) ≤ μ w.rest.work + b

module _ {T : Tables} {μ : Work T → ℕ} where
  -- one computation after the other, from where the first ended
  pub and_then_is : {A B : Type 0} {Q : A → Type 0} {f : A → M (World T) B} (n c : ℕ) (r : Res (World T) A) → Holds Q r → μ (after r) ≤ n → ((a : A) → Q a → Grows μ c (f a)) → μ (after (and_then r f)) ≤ n + c
  unfolding and_then
  and_then_is n c (ok a w) q l h = let k = (h a q).grows w in omega arith
  and_then_is n c (refused m w) q l h = omega arith

  -- nothing to know of an answer
  pub and_after : {A B : Type 0} {f : A → M (World T) B} (n c : ℕ) (r : Res (World T) A) → μ (after r) ≤ n → ((a : A) → Grows μ c (f a)) → μ (after (and_then r f)) ≤ n + c
  unfolding and_then
  and_after n c (ok a w) l h = let k = (h a).grows w in omega arith
  and_after n c (refused m w) l h = omega arith

  -- a larger bound is one as well
  pub weaken : {A : Type 0} {m : M (World T) A} {b c : ℕ} → b ≤ c → Grows μ b m → Grows μ c m
  weaken l h = record { grows = λ w. let k = h.grows w in omega arith }

  -- both bounds together
  pub bind_grows : {A B : Type 0} {m : M (World T) A} {f : A → M (World T) B} (b c : ℕ) → Grows μ b m → ((a : A) → Grows μ c (f a)) → Grows μ (b + c) (m >>= f)
  unfolding ◌>>=◌
  bind_grows {m = m} b c h k = record { grows = λ w. let l = and_after (μ w.rest.work + b) c (m w) (h.grows w) k in omega arith }

  -- the same, with what is known of the answer, where the first adds nothing
  -- for interning, which answers an effect of the same key
  pub bind_known : {A B : Type 0} {Q : A → Type 0} {m : M (World T) A} {f : A → M (World T) B} {c : ℕ} → ((w : World T) → Holds Q (m w)) → Grows μ 0 m → ((a : A) → Q a → Grows μ c (f a)) → Grows μ c (m >>= f)
  unfolding ◌>>=◌
  bind_known {Q = Q} {m = m} {c = c} q h k = record { grows = λ w. let l = and_then_is {Q = Q} (μ w.rest.work + 0) c (m w) (q w) (h.grows w) k in omega arith }

  -- both bounds together
  pub then_grows : {B : Type 0} {m : M (World T) Done} {f : M (World T) B} (b c : ℕ) → Grows μ b m → Grows μ c f → Grows μ (b + c) (m >> f)
  unfolding ◌>>◌
  then_grows b c h k = bind_grows b c h (λ a. k)

  -- what adds nothing, and then what its answer leads to
  -- the form that `search` applies
  pub bind_keeps : {A B : Type 0} {m : M (World T) A} {f : A → M (World T) B} {c : ℕ} → Grows μ 0 m → ((a : A) → Grows μ c (f a)) → Grows μ c (m >>= f)
  bind_keeps {c = c} h k = weaken (omega arith) (bind_grows 0 c h k)

  -- what adds nothing, and then what is bounded
  -- the form that `search` applies
  pub then_keeps : {B : Type 0} {m : M (World T) Done} {f : M (World T) B} {c : ℕ} → Grows μ 0 m → Grows μ c f → Grows μ c (m >> f)
  then_keeps {c = c} h k = weaken (omega arith) (then_grows 0 c h k)

  -- what is bounded, and then what adds nothing
  -- the bound is the first's
  pub then_rest : {B : Type 0} {m : M (World T) Done} {f : M (World T) B} {b : ℕ} → Grows μ b m → Grows μ 0 f → Grows μ b (m >> f)
  then_rest {b = b} h k = weaken (omega arith) (then_grows b 0 h k)

  -- an answer adds nothing
  pub return_grows : {A : Type 0} {b : ℕ} (a : A) → Grows μ b (return a)
  unfolding return
  return_grows a = record { grows = λ w. omega arith }

  -- an answer that says nothing
  pub done_grows : {b : ℕ} → Grows μ b done
  unfolding done
  done_grows = return_grows tt

  -- a refusal adds nothing
  pub refuse_grows : {A : Type 0} {b : ℕ} (n : ℕ) → Grows μ b (refuse {A = A} n)
  unfolding refuse
  refuse_grows n = record { grows = λ w. omega arith }

  -- either branch is bounded
  pub if_grows : {A : Type 0} {m n : M (World T) A} {b : ℕ} (t : Bool) → Grows μ b m → Grows μ b n → Grows μ b (when t then m else n)
  unfolding when◌then◌else◌
  if_grows true h k = h
  if_grows false h k = k

  -- refused where a test of the rest holds: what goes on may use that it does not
  -- for entries, which are counted below 4,096 only
  pub unless_grows : {A : Type 0} {b : ℕ} (f : Rest T → Bool) (n : ℕ) (m : M (World T) A) → ((w : World T) → f w.rest ≡ false → μ (after (m w)) ≤ μ w.rest.work + b) → Grows μ b (ask f >>= λ t. when t then refuse n else m)
  unfolding ask ◌>>=◌ and_then when◌then◌else◌ refuse
  unless_grows {b = b} f n m h = record { grows = λ w. go w (f w.rest) (h w) }
    where
      go : (w : World T) (t : Bool) → (t ≡ false → μ (after (m w)) ≤ μ w.rest.work + b) → μ (after ((when t then refuse n else m) w)) ≤ μ w.rest.work + b
      go w true k = omega arith
      go w false k = k refl

  -- one after the other: the sum
  pub each_grows : {A : Type 0} {f : A → M (World T) Done} (c : A → ℕ) (l : List A) → ((x : A) → Grows μ (c x) (f x)) → Grows μ (total c l) (each l f)
  unfolding each total
  each_grows c [] h = done_grows
  each_grows c (x ∷ xs) h = then_grows (c x) (total c xs) (h x) (each_grows c xs h)

  -- one after the other, none of which adds anything
  -- the form that `search` applies
  pub each_keeps : {A : Type 0} {f : A → M (World T) Done} {b : ℕ} (l : List A) → ((x : A) → Grows μ 0 (f x)) → Grows μ b (each l f)
  unfolding each
  each_keeps [] h = done_grows
  each_keeps (x ∷ xs) h = then_keeps (h x) (each_keeps xs h)

-- after a refusal the world is as before: what is refused adds nothing
pub atomically_grows : {T : Tables} {A : Type 0} (μ : Work T → ℕ) (m : M (World T) A) (w : World T) (b : ℕ) → μ (after (m w)) ≤ μ w.rest.work + b → μ (after (atomically m w)) ≤ μ w.rest.work + b
unfolding atomically restore
atomically_grows {T = T} {A = A} μ m w b = go (m w)
  where
    go : (r : Res (World T) A) → μ (after r) ≤ μ w.rest.work + b → μ (after (restore w r)) ≤ μ w.rest.work + b
    go (ok a u) l = l
    go (refused n u) l = omega arith

-- what `search` composes bounds with
pub ruleset plain = (bind_keeps, then_keeps, return_grows, done_grows, refuse_grows, if_grows, each_keeps)
