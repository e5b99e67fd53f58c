-- A law for each variant: the diagnostic of an effect, and the first effect under a key with the diagnostic of the newest. Assumes nothing.
use Rattle.std.specs.Prelude.{◌≡◌, List}
use Rattle.std.proofs.Math.Path.{refl, sym, ap}
use Rattle.std.proofs.Common.{◌∙◌}
use Rattle.def_effects.specs.declared.Place.{Place}
use Rattle.def_effects.specs.declared.AliasingDiagnostic.{AliasingDiagnostic}
use Rattle.def_effects.specs.Effects.{MutateFrozen, MutateGlobal, Impure}
use Rattle.def_transfer.specs.Context.{diagnostic_of, refreshed}
use Rattle.lent_effects.specs.declared.AliasingEffect.{AliasingEffect as Head}
use Rattle.lent_effects.specs.Records.{effect_with}

-- ---- the diagnostic of an effect, or another where it has none

module _ (other : AliasingDiagnostic) (e : Head) where
  pub d_mutate_frozen : (p : Place) (d : AliasingDiagnostic) → e ≡ Head.MutateFrozen p d → (cs : List Place) → d ≡ diagnostic_of other (effect_with e cs)
  unfolding effect_with
  d_mutate_frozen p d h cs = sym (ap (λ (x : Head). diagnostic_of other (effect_with x cs)) h)

  pub d_mutate_global : (p : Place) (d : AliasingDiagnostic) → e ≡ Head.MutateGlobal p d → (cs : List Place) → d ≡ diagnostic_of other (effect_with e cs)
  unfolding effect_with
  d_mutate_global p d h cs = sym (ap (λ (x : Head). diagnostic_of other (effect_with x cs)) h)

  pub d_impure : (p : Place) (d : AliasingDiagnostic) → e ≡ Head.Impure p d → (cs : List Place) → d ≡ diagnostic_of other (effect_with e cs)
  unfolding effect_with
  d_impure p d h cs = sym (ap (λ (x : Head). diagnostic_of other (effect_with x cs)) h)

-- an effect of another kind has none
pub d_other : (other : AliasingDiagnostic) (e : Head) → ((p : Place) (d : AliasingDiagnostic) → e ≡ Head.MutateFrozen p d → ⊥) → ((p : Place) (d : AliasingDiagnostic) → e ≡ Head.MutateGlobal p d → ⊥) → ((p : Place) (d : AliasingDiagnostic) → e ≡ Head.Impure p d → ⊥) → (cs : List Place) → other ≡ diagnostic_of other (effect_with e cs)
unfolding effect_with
d_other other (Head.Freeze p r) f g h cs = refl
d_other other (Head.Mutate p r) f g h cs = refl
d_other other (Head.MutateConditionally p) f g h cs = refl
d_other other (Head.MutateTransitive p) f g h cs = refl
d_other other (Head.MutateTransitiveConditionally p) f g h cs = refl
d_other other (Head.Capture a b) f g h cs = refl
d_other other (Head.Alias a b) f g h cs = refl
d_other other (Head.MaybeAlias a b) f g h cs = refl
d_other other (Head.Assign a b) f g h cs = refl
d_other other (Head.Create a k r) f g h cs = refl
d_other other (Head.CreateFrom a b) f g h cs = refl
d_other other (Head.ImmutableCapture a b) f g h cs = refl
d_other other (Head.CreateFunction n a) f g h cs = refl
d_other other (Head.MutateFrozen p d) f g h cs = absurd (f p d refl)
d_other other (Head.MutateGlobal p d) f g h cs = absurd (g p d refl)
d_other other (Head.Impure p d) f g h cs = absurd (h p d refl)
d_other other (Head.Render p) f g h cs = refl

-- ---- the first effect under a key, refreshed

module _ (e x : Head) where
  pub r_mutate_frozen : (p : Place) (d : AliasingDiagnostic) (n : AliasingDiagnostic) → x ≡ Head.MutateFrozen p d → ((cs : List Place) → n ≡ diagnostic_of d (effect_with e cs)) → (cs ds : List Place) → effect_with (Head.MutateFrozen p n) ds ≡ refreshed (effect_with e cs) (effect_with x ds)
  unfolding effect_with
  r_mutate_frozen p d n h g cs ds = ap (λ (y : AliasingDiagnostic). MutateFrozen p y) (g cs) ∙ sym (ap (λ (y : Head). refreshed (effect_with e cs) (effect_with y ds)) h)

  pub r_mutate_global : (p : Place) (d : AliasingDiagnostic) (n : AliasingDiagnostic) → x ≡ Head.MutateGlobal p d → ((cs : List Place) → n ≡ diagnostic_of d (effect_with e cs)) → (cs ds : List Place) → effect_with (Head.MutateGlobal p n) ds ≡ refreshed (effect_with e cs) (effect_with x ds)
  unfolding effect_with
  r_mutate_global p d n h g cs ds = ap (λ (y : AliasingDiagnostic). MutateGlobal p y) (g cs) ∙ sym (ap (λ (y : Head). refreshed (effect_with e cs) (effect_with y ds)) h)

  pub r_impure : (p : Place) (d : AliasingDiagnostic) (n : AliasingDiagnostic) → x ≡ Head.Impure p d → ((cs : List Place) → n ≡ diagnostic_of d (effect_with e cs)) → (cs ds : List Place) → effect_with (Head.Impure p n) ds ≡ refreshed (effect_with e cs) (effect_with x ds)
  unfolding effect_with
  r_impure p d n h g cs ds = ap (λ (y : AliasingDiagnostic). Impure p y) (g cs) ∙ sym (ap (λ (y : Head). refreshed (effect_with e cs) (effect_with y ds)) h)

-- an effect of another kind stays as it is
pub r_other : (e x : Head) → ((p : Place) (d : AliasingDiagnostic) → x ≡ Head.MutateFrozen p d → ⊥) → ((p : Place) (d : AliasingDiagnostic) → x ≡ Head.MutateGlobal p d → ⊥) → ((p : Place) (d : AliasingDiagnostic) → x ≡ Head.Impure p d → ⊥) → (cs ds : List Place) → effect_with x ds ≡ refreshed (effect_with e cs) (effect_with x ds)
unfolding effect_with
r_other e (Head.Freeze p r) f g h cs ds = refl
r_other e (Head.Mutate p r) f g h cs ds = refl
r_other e (Head.MutateConditionally p) f g h cs ds = refl
r_other e (Head.MutateTransitive p) f g h cs ds = refl
r_other e (Head.MutateTransitiveConditionally p) f g h cs ds = refl
r_other e (Head.Capture a b) f g h cs ds = refl
r_other e (Head.Alias a b) f g h cs ds = refl
r_other e (Head.MaybeAlias a b) f g h cs ds = refl
r_other e (Head.Assign a b) f g h cs ds = refl
r_other e (Head.Create a k r) f g h cs ds = refl
r_other e (Head.CreateFrom a b) f g h cs ds = refl
r_other e (Head.ImmutableCapture a b) f g h cs ds = refl
r_other e (Head.CreateFunction n a) f g h cs ds = refl
r_other e (Head.MutateFrozen p d) f g h cs ds = absurd (f p d refl)
r_other e (Head.MutateGlobal p d) f g h cs ds = absurd (g p d refl)
r_other e (Head.Impure p d) f g h cs ds = absurd (h p d refl)
r_other e (Head.Render p) f g h cs ds = refl
