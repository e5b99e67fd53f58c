-- What it is for tables to be faithful: each read after each write, as the plain tables `pure` have it. Assumes nothing: these are definitions.
-- n is the number of identifiers in the list. Ranges stand only where a table of words needs them: at writes, and at the identifier of an access.
use Rattle.std.specs.Prelude.{ℕ, suc, ◌≤◌, ◌<◌, ◌≡◌, List, [], ◌∷◌, ◌++◌, None, Some}
use Rattle.def_kinds.specs.declared.AbstractValue.{AbstractValue}
use Rattle.def_effects.specs.Effects.{AliasingEffect}
use Rattle.def_effects.specs.Keys.{EffectKey, effect_key}
use Rattle.def_transfer.specs.Diagnostics.{Diagnostic}
use Rattle.def_transfer.specs.Tables.{Tables}
use Rattle.def_transfer.specs.Instruction.{has}
use Rattle.def_transfer.specs.Pure.{pure, at}
use Rattle.def_transfer.specs.Pure as Pure
use Rattle.def_faithful.specs.Ranges.{Number, Fresh, IsSet, Pointing, Reasoned, Entered, Short}

-- ---- the laws

pub record Faithful (n : ℕ) (T : Tables) : Type 1 where
  pub few : n ≤ 512
  -- values: tables of the right size, whose reasons are words; what was written is read, and the rest stays
  pub FitValues : T.Values → Type 0
  pub value_fit : (t : T.Values) (v : ℕ) (a : AbstractValue) → FitValues t → Number v → Reasoned a → FitValues (T.put_value t v a)
  pub value_word : (t : T.Values) (v : ℕ) → FitValues t → Entered (T.value_of t v)
  pub value_put : (t : T.Values) (v : ℕ) (a : AbstractValue) → FitValues t → Number v → Reasoned a → (x : ℕ) → T.value_of (T.put_value t v a) x ≡ at (T.value_of t) v (Some a) x
  -- sets: tables of the right size, whose rows are sets of value numbers
  pub FitSets : T.Sets → Type 0
  pub set_fit : (t : T.Sets) (i s : ℕ) → FitSets t → i < n → IsSet s → FitSets (T.put_set t i s)
  pub set_is : (t : T.Sets) (i : ℕ) → FitSets t → Pointing (T.set_of t i)
  pub set_put : (t : T.Sets) (i s : ℕ) → FitSets t → i < n → IsSet s → (j : ℕ) → T.set_of (T.put_set t i s) j ≡ at (T.set_of t) i (Some s) j
  -- the context: what its tables mean, as plain tables
  pub FitContext : T.Context → Type 0
  pub meaning : T.Context → Pure.Context
  -- every read is the plain one
  pub count_is : (c : T.Context) → FitContext c → T.interned_count c ≡ pure.interned_count (meaning c)
  pub effect_is : (c : T.Context) (k : EffectKey) → FitContext c → T.find_effect c k ≡ pure.find_effect (meaning c) k
  pub key_is : (c : T.Context) (v : ℕ) → FitContext c → T.key_at c v ≡ pure.key_at (meaning c) v
  pub number_is : (c : T.Context) (k : EffectKey) → FitContext c → T.find_number c k ≡ pure.find_number (meaning c) k
  pub link_is : (c : T.Context) (v : ℕ) → FitContext c → T.link_of c v ≡ pure.link_of (meaning c) v
  pub places_is : (c : T.Context) (f : ℕ) → FitContext c → T.context_of c f ≡ pure.context_of (meaning c) f
  pub inside_is : (c : T.Context) (f : ℕ) → FitContext c → T.mutated_inside c f ≡ pure.mutated_inside (meaning c) f
  pub tracked_is : (c : T.Context) (f : ℕ) → FitContext c → T.has_tracked_side_effect c f ≡ pure.has_tracked_side_effect (meaning c) f
  pub ref_is : (c : T.Context) (i : ℕ) → FitContext c → T.is_ref c i ≡ pure.is_ref (meaning c) i
  pub hoisted_is : (c : T.Context) (i : ℕ) → FitContext c → T.is_hoisted c i ≡ pure.is_hoisted (meaning c) i
  pub access_is : (c : T.Context) (i : ℕ) → FitContext c → i < n → T.access_span c i ≡ pure.access_span (meaning c) i
  pub name_is : (c : T.Context) (i : ℕ) → FitContext c → T.name_of c i ≡ pure.name_of (meaning c) i
  pub transitive_is : (c : T.Context) → FitContext c → T.is_transitive c ≡ pure.is_transitive (meaning c)
  pub identities_is : (c : T.Context) → FitContext c → T.identity_count c ≡ pure.identity_count (meaning c)
  pub instances_is : (c : T.Context) → FitContext c → T.instance_count c ≡ pure.instance_count (meaning c)
  pub identity_is : (c : T.Context) (d : Diagnostic) → FitContext c → T.find_identity c d ≡ pure.find_identity (meaning c) d
  pub instance_is : (c : T.Context) (m : ℕ) (d : Diagnostic) → FitContext c → T.find_instance c m d ≡ pure.find_instance (meaning c) m d
  -- every write means the plain one, and leaves the tables fit
  pub effect_fit : (c : T.Context) (e : AliasingEffect) → FitContext c → T.interned_count c < 2048 → Short (effect_key e) → T.find_effect c (effect_key e) ≡ None → FitContext (T.add_effect c e)
  pub effect_add : (c : T.Context) (e : AliasingEffect) → FitContext c → T.interned_count c < 2048 → Short (effect_key e) → T.find_effect c (effect_key e) ≡ None → meaning (T.add_effect c e) ≡ pure.add_effect (meaning c) e
  pub key_fit : (c : T.Context) (v : ℕ) (k : EffectKey) → FitContext c → Fresh v → Short k → T.key_at c v ≡ None → T.find_number c k ≡ None → FitContext (T.put_key c v k)
  pub key_put : (c : T.Context) (v : ℕ) (k : EffectKey) → FitContext c → Fresh v → Short k → T.key_at c v ≡ None → T.find_number c k ≡ None → meaning (T.put_key c v k) ≡ pure.put_key (meaning c) v k
  pub link_fit : (c : T.Context) (v f : ℕ) → FitContext c → Fresh v → FitContext (T.put_link c v f)
  pub link_put : (c : T.Context) (v f : ℕ) → FitContext c → Fresh v → meaning (T.put_link c v f) ≡ pure.put_link (meaning c) v f
  pub read_fit : (c : T.Context) (f i : ℕ) → FitContext c → FitContext (T.make_read c f i)
  pub read_made : (c : T.Context) (f i : ℕ) → FitContext c → meaning (T.make_read c f i) ≡ pure.make_read (meaning c) f i
  pub diagnostic_fit : (c : T.Context) (m : ℕ) (d : Diagnostic) → FitContext c → T.instance_count c < 256 → T.find_instance c m d ≡ None → FitContext (T.add_diagnostic c m d)
  pub diagnostic_add : (c : T.Context) (m : ℕ) (d : Diagnostic) → FitContext c → T.instance_count c < 256 → T.find_instance c m d ≡ None → meaning (T.add_diagnostic c m d) ≡ pure.add_diagnostic (meaning c) m d
  -- places initialized in the instruction: a mark for each identifier, or their list
  pub Marked : T.Initialized → List ℕ → Type 0
  pub none_marked : Marked T.none_initialized []
  pub mark_is : (m : T.Initialized) (l : List ℕ) (i : ℕ) → Marked m l → i < n → T.is_initialized m i ≡ has i l
  pub mark_put : (m : T.Initialized) (l : List ℕ) (i : ℕ) → Marked m l → i < n → Marked (T.put_initialized m i) (i ∷ l)
  -- effects listed: what the tables hold of a list, as far as they have room for it
  pub Lists : T.Listed → List AliasingEffect → Type 0
  pub none_listed_is : Lists T.none_listed []
  pub list_put : (l : T.Listed) (es : List AliasingEffect) (e : AliasingEffect) → Lists l es → Short (effect_key e) → Lists (T.put_listed l e) (es ++ (e ∷ []))
  -- entries counted, as far as the tables can count them
  pub Counts : ℕ → ℕ → Type 0
  pub none_counted : Counts 0 0
  pub one_more_is : (a b : ℕ) → Counts a b → Counts (T.one_more a) (suc b)
  -- how a session holds an identifier
  pub access_of_is : (i : ℕ) → i < n → T.access_of i ≡ suc i
