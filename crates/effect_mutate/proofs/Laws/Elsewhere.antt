-- What a mutation reports goes alike among any values, sets and output lists. Assumes nothing.
use Rattle.std.specs.Prelude.{ℕ, leb, Option, None, Some, Result}
use Rattle.std.proofs.Common.{subst}
use Rattle.std.proofs.Math.Path.{◌≡◌, refl, ap₂}
use mathlib.Core.List.{List}
use Rattle.def_effects.specs.declared.Diagnostic.{Diagnostic}
use Rattle.def_effects.specs.declared.Place.{Place}
use Rattle.def_effects.specs.Effects.{AliasingEffect}
use Rattle.def_refusals.specs.declared.Refusal.{Refusal}
use Rattle.def_transfer.specs.Monad.{Res, M, Done}
use Rattle.def_transfer.specs.Tables.{World}
use Rattle.def_transfer.specs.State.{ask, change}
use Rattle.def_transfer.specs.Context as Context
use Rattle.laws_monad.specs.Answers.{answers}
use Rattle.lent_layout.specs.Context.{ContextWords}
use Rattle.lent_work.specs.declared.Run.{Run}
use Rattle.lent_world.specs.World.{lent, world}
use Rattle.effect_acts.specs.declared.Next.{Next}
use Rattle.effect_acts.specs.Acts.{follow}
use Rattle.effect_parts.proofs.Laws.Elsewhere.{with_state, GoesAlike, bind_alike, then_alike, when_alike, return_alike, refuse_alike}

-- ---- the numbers of a diagnostic

module _ (vs ss os : List ℕ) where
  identity_alike : (o : Option ℕ) → GoesAlike (with_state vs ss os) (Context.new_identity o)
  unfolding Context.new_identity ask
  identity_alike (Some n) = return_alike _ n
  identity_alike None = bind_alike _ _ _ (λ w. refl) (λ n. when_alike _ (leb 256 n) _ _ (refuse_alike _ 10) (return_alike _ n))

  instance_alike : (i : ℕ) (d : Diagnostic) (o : Option ℕ) → GoesAlike (with_state vs ss os) (Context.new_instance i d o)
  unfolding Context.new_instance Context.put_diagnostic ask change
  instance_alike i d (Some n) = return_alike _ n
  instance_alike i d None =
      bind_alike _ _ _ (λ w. refl) (λ n. when_alike _ (leb 256 n) _ _ (refuse_alike _ 10) (then_alike _ _ _ (λ w. refl) (return_alike _ n)))

  pub intern_alike : (d : Diagnostic) → GoesAlike (with_state vs ss os) (Context.intern_diagnostic d)
  unfolding Context.intern_diagnostic ask
  intern_alike d =
      bind_alike _ _ _ (λ w. refl)
      (λ o. bind_alike _ _ _ (identity_alike o)
      (λ i. bind_alike _ _ _ (λ w. refl)
      (λ p. bind_alike _ _ _ (instance_alike i d p) (λ n. return_alike _ _))))

-- ---- what comes next, among values and sets that stay

-- those before may be taken for those after
pub among_same : (m : Res (World lent) Done) (again : AliasingEffect → M (World lent) Done) (e : AliasingEffect) (cs : List Place) (x : Result Next Refusal)
    → (vs us ss ts : List ℕ) (c : ContextWords) (os : List ℕ) (r : Run) → vs ≡ us → ss ≡ ts
    → m ≡ answers x (λ n. follow again e cs n (world vs ss c os r)) (world vs ss c os r)
    → m ≡ answers x (λ n. follow again e cs n (world us ts c os r)) (world us ts c os r)
among_same m again e cs x vs us ss ts c os r h g k =
    subst (λ (w : World lent). m ≡ answers x (λ n. follow again e cs n w) w) (ap₂ (λ (i j : List ℕ). world i j c os r) h g) k
