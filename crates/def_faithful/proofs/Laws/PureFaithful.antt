-- The plain tables are faithful: each law by computing. Assumes nothing.
use Rattle.std.specs.Prelude.{ℕ, suc, ◌≤◌, ◌≡◌, refl, Bool, true, false, List, [], ◌∷◌, ◌++◌, eqb, Some}
use Rattle.std.proofs.Common.{ap}
use Rattle.def_effects.specs.Effects.{AliasingEffect}
use Rattle.def_transfer.specs.Pure.{pure, at}
use Rattle.def_faithful.specs.Ranges.{Pointing, Entered}
use Rattle.def_faithful.specs.Faithful.{Faithful}

pub at_has : {A : Type 0} (P : A → Type 0) (f : ℕ → A) (i : ℕ) (x : A) (j : ℕ) → P x → P (f j) → P (at f i x j)
unfolding at
at_has P f i x j p q = go (eqb i j)
  where
    go : (b : Bool) → P (elim b [ true ↦ x | false ↦ f j ])
    go true = p
    go false = q

unfoldable pub pure_faithful : (n : ℕ) → n ≤ 512 → Faithful n pure
pure_faithful n l = record {
  few = l;
  FitValues = λ t. (v : ℕ) → Entered (t v);
  value_fit = λ t v a h p q x. at_has Entered t v (Some a) x q (h x);
  value_word = λ t v h. h v;
  value_put = λ t v a h p q x. refl;
  FitSets = λ t. (i : ℕ) → Pointing (t i);
  set_fit = λ t i s h p q x. at_has Pointing t i (Some s) x q (h x);
  set_is = λ t i h. h i;
  set_put = λ t i s h p q x. refl;
  FitContext = λ c. Unit {0};
  meaning = λ c. c;
  count_is = λ c h. refl;
  effect_is = λ c k h. refl;
  key_is = λ c v h. refl;
  number_is = λ c k h. refl;
  link_is = λ c v h. refl;
  places_is = λ c f h. refl;
  inside_is = λ c f h. refl;
  tracked_is = λ c f h. refl;
  ref_is = λ c i h. refl;
  hoisted_is = λ c i h. refl;
  access_is = λ c i h l. refl;
  name_is = λ c i h. refl;
  transitive_is = λ c h. refl;
  identities_is = λ c h. refl;
  instances_is = λ c h. refl;
  identity_is = λ c d h. refl;
  instance_is = λ c m d h. refl;
  effect_fit = λ c e h k s z. tt;
  effect_add = λ c e h k s z. refl;
  key_fit = λ c v k h p s z f. tt;
  key_put = λ c v k h p s z f. refl;
  link_fit = λ c v f h p. tt;
  link_put = λ c v f h p. refl;
  read_fit = λ c f i h. tt;
  read_made = λ c f i h. refl;
  diagnostic_fit = λ c m d h k z. tt;
  diagnostic_add = λ c m d h k z. refl;
  Marked = λ m k. m ≡ k;
  none_marked = refl;
  mark_is = λ m k i h p. ap (λ (x : List ℕ). pure.is_initialized x i) h;
  mark_put = λ m k i h p. ap (λ (x : List ℕ). i ∷ x) h;
  Lists = λ k es. k ≡ es;
  none_listed_is = refl;
  list_put = λ k es e h s. ap (λ (x : List AliasingEffect). x ++ (e ∷ [])) h;
  Counts = λ a b. a ≡ b;
  none_counted = refl;
  one_more_is = λ a b h. ap suc h;
  access_of_is = λ i h. refl;
}
