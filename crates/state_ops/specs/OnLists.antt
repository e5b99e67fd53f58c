-- Any tables, with a state that is lent as two lists of words. Assumes nothing: these are definitions.
use Rattle.std.specs.Prelude.{ℕ, Bool, List}
use Rattle.def_transfer.specs.Tables.{Tables, Rest, World}
use Rattle.lent_values.specs.Cells.{value_at, put_value}
use Rattle.lent_sets.specs.Rows.{set_at, put_set}

-- any tables, with a state that is lent as two lists of words
abbrev pub on_lists : Tables → Tables
on_lists T = record {
  Values = List ℕ;
  value_of = value_at;
  put_value = put_value;
  Sets = List ℕ;
  set_of = set_at;
  put_set = put_set;
  Context = T.Context;
  interned_count = T.interned_count;
  find_effect = T.find_effect;
  add_effect = T.add_effect;
  key_at = T.key_at;
  find_number = T.find_number;
  put_key = T.put_key;
  link_of = T.link_of;
  put_link = T.put_link;
  context_of = T.context_of;
  mutated_inside = T.mutated_inside;
  has_tracked_side_effect = T.has_tracked_side_effect;
  make_read = T.make_read;
  is_ref = T.is_ref;
  is_hoisted = T.is_hoisted;
  access_span = T.access_span;
  name_of = T.name_of;
  is_transitive = T.is_transitive;
  identity_count = T.identity_count;
  instance_count = T.instance_count;
  find_identity = T.find_identity;
  find_instance = T.find_instance;
  add_diagnostic = T.add_diagnostic;
  Initialized = T.Initialized;
  none_initialized = T.none_initialized;
  is_initialized = T.is_initialized;
  put_initialized = T.put_initialized;
  Listed = T.Listed;
  none_listed = T.none_listed;
  put_listed = T.put_listed;
  one_more = T.one_more;
  access_of = T.access_of;
}

-- the world with these two lists
module _ (T : Tables) (flag : Bool) (r : Rest (on_lists T)) where
  abbrev pub lists : List ℕ → List ℕ → World (on_lists T)
  lists vs ss = record { state = record { values = vs; sets = ss; is_function_expression = flag }; rest = r }
