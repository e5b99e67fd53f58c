-- What isolation asks of tables: writing at one place leaves the others; what is found is what was asked for.
-- Any tables with these laws are isolated: the lists that code is lent as well as functions. Assumes nothing: these are definitions.
use Rattle.std.specs.Prelude.{ℕ, ◌≡◌, ◌⊎◌, Some}
use Rattle.base_sets.specs.Members.{members, values_of}
use Rattle.base_tests.specs.Tests.{All}
use Rattle.def_kinds.specs.declared.AbstractValue.{AbstractValue}
use Rattle.def_effects.specs.Places.{identifiers}
use Rattle.def_effects.specs.Effects.{AliasingEffect}
use Rattle.def_effects.specs.Keys.{EffectKey, effect_key}
use Rattle.def_transfer.specs.Diagnostics.{Diagnostic}
use Rattle.def_transfer.specs.Tables.{Tables}

-- a changed context d leads nowhere that c does not lead: its cached keys and links are c's, and each function has context places of the same identifiers
pub record SameLinks (T : Tables) (c d : T.Context) : Type 0 where
  pub keys : (n : ℕ) (k : EffectKey) → T.key_at d n ≡ Some k → T.key_at c n ≡ Some k
  pub links : (v f : ℕ) → T.link_of d v ≡ Some f → T.link_of c v ≡ Some f
  pub contexts : (f : ℕ) → identifiers (T.context_of d f) ≡ identifiers (T.context_of c f)

pub record Lawful (T : Tables) : Type 1 where
  -- tables of the right size
  pub FitValues : T.Values → Type 0
  pub fit_value : (t : T.Values) (v : ℕ) (a : AbstractValue) → FitValues t → FitValues (T.put_value t v a)
  pub value_cong : (t u : T.Values) (v : ℕ) (a : AbstractValue) (x : ℕ) → FitValues t → FitValues u → T.value_of t x ≡ T.value_of u x → T.value_of (T.put_value t v a) x ≡ T.value_of (T.put_value u v a) x
  pub value_other : (t : T.Values) (v : ℕ) (a : AbstractValue) (x : ℕ) → ¬ (v ≡ x) → T.value_of (T.put_value t v a) x ≡ T.value_of t x
  pub FitSets : T.Sets → Type 0
  pub fit_set : (t : T.Sets) (i s : ℕ) → FitSets t → FitSets (T.put_set t i s)
  pub set_cong : (t u : T.Sets) (i s j : ℕ) → FitSets t → FitSets u → T.set_of t j ≡ T.set_of u j → T.set_of (T.put_set t i s) j ≡ T.set_of (T.put_set u i s) j
  pub set_other : (t : T.Sets) (i s j : ℕ) → ¬ (i ≡ j) → T.set_of (T.put_set t i s) j ≡ T.set_of t j
  -- what was written has no members but those given
  pub set_has : (P : ℕ → Type 0) (t : T.Sets) (i s j : ℕ) → All P (members s) → All P (values_of (T.set_of t j)) → All P (values_of (T.set_of (T.put_set t i s) j))
  -- what is found under a key has that key
  pub effect_found : (c : T.Context) (k : EffectKey) (e : AliasingEffect) → T.find_effect c k ≡ Some e → k ≡ effect_key e
  pub number_found : (c : T.Context) (k : EffectKey) (n : ℕ) → T.find_number c k ≡ Some n → T.key_at c n ≡ Some k
  -- what each of the five ways to change a context keeps, as a user of the tables needs it: of lent words, that those which no instruction
  -- writes stay, and how many there are
  pub Kept : T.Context → Type 0
  -- each of the five ways to change a context: what it leads to that it did not lead to before
  pub effect_same : (c : T.Context) (e : AliasingEffect) → SameLinks T c (T.add_effect c e)
  pub diagnostic_same : (c : T.Context) (n : ℕ) (d : Diagnostic) → SameLinks T c (T.add_diagnostic c n d)
  pub read_same : (c : T.Context) (f i : ℕ) → SameLinks T c (T.make_read c f i)
  pub key_put : (c : T.Context) (n m : ℕ) (k j : EffectKey) → T.key_at (T.put_key c n k) m ≡ Some j → (n ≡ m) ⊎ (T.key_at c m ≡ Some j)
  pub key_links : (c : T.Context) (n : ℕ) (k : EffectKey) (v f : ℕ) → T.link_of (T.put_key c n k) v ≡ Some f → T.link_of c v ≡ Some f
  pub key_contexts : (c : T.Context) (n : ℕ) (k : EffectKey) (g : ℕ) → identifiers (T.context_of (T.put_key c n k) g) ≡ identifiers (T.context_of c g)
  pub link_put : (c : T.Context) (v f x g : ℕ) → Kept c → T.link_of (T.put_link c v f) x ≡ Some g → (f ≡ g) ⊎ (T.link_of c x ≡ Some g)
  pub link_keys : (c : T.Context) (v f n : ℕ) (k : EffectKey) → T.key_at (T.put_link c v f) n ≡ Some k → T.key_at c n ≡ Some k
  pub link_contexts : (c : T.Context) (v f g : ℕ) → identifiers (T.context_of (T.put_link c v f) g) ≡ identifiers (T.context_of c g)
  pub effect_kept : (c : T.Context) (e : AliasingEffect) → Kept c → Kept (T.add_effect c e)
  pub diagnostic_kept : (c : T.Context) (n : ℕ) (d : Diagnostic) → Kept c → Kept (T.add_diagnostic c n d)
  pub read_kept : (c : T.Context) (f i : ℕ) → Kept c → Kept (T.make_read c f i)
  pub key_kept : (c : T.Context) (n : ℕ) (k : EffectKey) → Kept c → Kept (T.put_key c n k)
  pub link_kept : (c : T.Context) (v f : ℕ) → Kept c → Kept (T.put_link c v f)
