-- What a set of entries asks of session and context to be closed under reach. Assumes nothing.
use Rattle.std.specs.Prelude.{ℕ, ◌≤◌, ◌<◌, ◌≡◌, Some}
use Rattle.std.proofs.Common.{sym, subst}
use Rattle.base_tests.specs.Tests.{All}
use Rattle.def_effects.specs.Places.{identifiers}
use Rattle.def_effects.specs.Keys.{EffectKey}
use Rattle.def_transfer.specs.Tables.{Tables, State}
use Rattle.def_transfer.specs.Reach.{Node, val, id}
use Rattle.def_transfer.specs.Lawful.{SameLinks}
use Rattle.def_transfer.proofs.Laws.Worlds.{Reaching}

-- what a set R asks of session and context: N are the identifiers that candidates name, F the functions that they create
pub record Closed (T : Tables) (K : T.Context → Type 0) (R : Node → Type 0) (N F : ℕ → Type 0) (next : ℕ) (context : T.Context) : Type 0 where
  pub kept : K context
  pub fresh_in : (n : ℕ) → next ≤ n → n < 512 → R (val n)
  pub cached_in : (n i : ℕ) (k : EffectKey) → T.key_at context n ≡ Some k → k.into ≡ Some i → N i → R (val n)
  pub links_in : (v : ℕ) → R (val v) → (f : ℕ) → T.link_of context v ≡ Some f → All (λ j. R (id j)) (identifiers (T.context_of context f))
  pub created_in : (f : ℕ) → F f → All (λ j. R (id j)) (identifiers (T.context_of context f))

-- a context that leads nowhere else keeps what R asks
pub closed_same : (T : Tables) (K : T.Context → Type 0) (R : Node → Type 0) (N F : ℕ → Type 0) (next : ℕ) (c d : T.Context) → SameLinks T c d → (K c → K d) → Closed T K R N F next c → Closed T K R N F next d
closed_same T K R N F next c d s g h = record {
  kept = g h.kept;
  fresh_in = h.fresh_in;
  cached_in = λ n i k e g a. h.cached_in n i k (s.keys n k e) g a;
  links_in = λ v q f e. subst (All (λ j. R (id j))) (sym (s.contexts f)) (h.links_in v q f (s.links v f e));
  created_in = λ f q. subst (All (λ j. R (id j))) (sym (s.contexts f)) (h.created_in f q);
}

abbrev pub reaching : (T : Tables) → (T.Context → Type 0) → (Node → Type 0) → (ℕ → Type 0) → (ℕ → Type 0) → State T → State T → Reaching T
reaching T K R N F s t = record { R = R; OkRest = λ r. Closed T K R N F r.session.next r.context; s₀ = s; t₀ = t }
