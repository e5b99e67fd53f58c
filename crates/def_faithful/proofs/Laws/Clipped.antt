-- The plain tables again, up to what they hold of identifiers that are not in the list: no instruction reads the access span of one. Assumes nothing.
use Rattle.std.specs.Prelude.{ℕ, suc, ◌≤◌, ◌<◌, ◌≡◌, refl, Bool, true, false, List, [], ◌∷◌, ◌++◌, ltb, Some}
use Rattle.std.proofs.Common.{sym, ap, lt-ltb, ltb-false}
use Rattle.def_effects.specs.Effects.{AliasingEffect}
use Rattle.def_transfer.specs.Pure.{pure, Context, Identifier}
use Rattle.def_faithful.specs.Ranges.{Pointing, Entered}
use Rattle.def_faithful.specs.Faithful.{Faithful}
use Rattle.def_faithful.proofs.Laws.PureFaithful.{at_has}

abbrev pub zero_identifier : Identifier
zero_identifier = record { ref = false; hoisted = false; access = record { start = 0; end = 0 }; name = 0 }

abbrev pub known : ℕ → (ℕ → Identifier) → ℕ → Identifier
known n f i = elim (ltb i n) [ true ↦ f i | false ↦ zero_identifier ]

abbrev pub clip : ℕ → Context → Context
clip n c = record { interned = c.interned; cached = c.cached; links = c.links; functions = c.functions; identifiers = known n c.identifiers; transitive = c.transitive; diagnostics = c.diagnostics }

-- an identifier that is not in the list is no ref, is not hoisted and has no name
pub record Unknown (n : ℕ) (c : Context) : Type 0 where
  pub ref : (i : ℕ) → n ≤ i → (c.identifiers i).ref ≡ false
  pub hoisted : (i : ℕ) → n ≤ i → (c.identifiers i).hoisted ≡ false
  pub name : (i : ℕ) → n ≤ i → (c.identifiers i).name ≡ 0

pub known_is : {A : Type 0} (g : Identifier → A) (n : ℕ) (f : ℕ → Identifier) (i : ℕ) → (n ≤ i → g (f i) ≡ g zero_identifier) → g (f i) ≡ g (known n f i)
known_is {A = A} g n f i h = go (ltb i n) (λ e. h (ltb-false i n e))
  where
    go : (b : Bool) → (b ≡ false → g (f i) ≡ g zero_identifier) → g (f i) ≡ g (elim b as (λ _. Identifier) [ true ↦ f i | false ↦ zero_identifier ])
    go true k = refl
    go false k = k refl

pub known_in : (n : ℕ) (f : ℕ → Identifier) (i : ℕ) → i < n → f i ≡ known n f i
known_in n f i l = sym (ap (λ (b : Bool). elim b as (λ _. Identifier) [ true ↦ f i | false ↦ zero_identifier ]) (lt-ltb i n l))

unfoldable pub clipped : (n : ℕ) → n ≤ 512 → Faithful n pure
clipped n l = record {
  few = l;
  FitValues = λ t. (v : ℕ) → Entered (t v);
  value_fit = λ t v a h p q x. at_has Entered t v (Some a) x q (h x);
  value_word = λ t v h. h v;
  value_put = λ t v a h p q x. refl;
  FitSets = λ t. (i : ℕ) → Pointing (t i);
  set_fit = λ t i s h p q x. at_has Pointing t i (Some s) x q (h x);
  set_is = λ t i h. h i;
  set_put = λ t i s h p q x. refl;
  FitContext = Unknown n;
  meaning = clip n;
  count_is = λ c h. refl;
  effect_is = λ c k h. refl;
  key_is = λ c v h. refl;
  number_is = λ c k h. refl;
  link_is = λ c v h. refl;
  places_is = λ c f h. refl;
  inside_is = λ c f h. refl;
  tracked_is = λ c f h. refl;
  ref_is = λ c i h. known_is (λ x. x.ref) n c.identifiers i (h.ref i);
  hoisted_is = λ c i h. known_is (λ x. x.hoisted) n c.identifiers i (h.hoisted i);
  access_is = λ c i h q. ap (λ (x : Identifier). x.access) (known_in n c.identifiers i q);
  name_is = λ c i h. known_is (λ x. x.name) n c.identifiers i (h.name i);
  transitive_is = λ c h. refl;
  identities_is = λ c h. refl;
  instances_is = λ c h. refl;
  identity_is = λ c d h. refl;
  instance_is = λ c m d h. refl;
  effect_fit = λ c e h k s z. record { ref = h.ref; hoisted = h.hoisted; name = h.name };
  effect_add = λ c e h k s z. refl;
  key_fit = λ c v k h p s z f. record { ref = h.ref; hoisted = h.hoisted; name = h.name };
  key_put = λ c v k h p s z f. refl;
  link_fit = λ c v f h p. record { ref = h.ref; hoisted = h.hoisted; name = h.name };
  link_put = λ c v f h p. refl;
  read_fit = λ c f i h. record { ref = h.ref; hoisted = h.hoisted; name = h.name };
  read_made = λ c f i h. refl;
  diagnostic_fit = λ c m d h k z. record { ref = h.ref; hoisted = h.hoisted; name = h.name };
  diagnostic_add = λ c m d h k z. refl;
  Marked = λ m k. m ≡ k;
  none_marked = refl;
  mark_is = λ m k i h p. ap (λ (x : List ℕ). pure.is_initialized x i) h;
  mark_put = λ m k i h p. ap (λ (x : List ℕ). i ∷ x) h;
  Lists = λ k es. k ≡ es;
  none_listed_is = refl;
  list_put = λ k es e h s. ap (λ (x : List AliasingEffect). x ++ (e ∷ [])) h;
  Counts = λ a b. a ≡ b;
  none_counted = refl;
  one_more_is = λ a b h. ap suc h;
  access_of_is = λ i h. refl;
}
