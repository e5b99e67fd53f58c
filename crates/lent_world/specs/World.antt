-- The tables that code is lent, as an instance of the definition's `Tables`; and the world of lent lists that contracts speak of.
-- Assumes nothing: these are definitions.
use Rattle.std.specs.Prelude.{ℕ, suc, List, ltb}
use Rattle.base_tests.specs.Tests.{ite}
use Rattle.def_effects.specs.Effects.{AliasingEffect}
use Rattle.def_transfer.specs.Tables.{Tables, World}
use Rattle.lent_values.specs.Cells.{value_at, put_value}
use Rattle.lent_sets.specs.Rows.{set_at, put_set}
pub use Rattle.lent_copies.specs.Copies.{zeros}
use Rattle.lent_effects.specs.Records.{put_effect}
use Rattle.lent_work.specs.declared.Marks.{Marks}
use Rattle.lent_work.specs.Access.{access_of}
use Rattle.lent_work.specs.declared.Run.{Run}
use Rattle.lent_work.specs.Marks.{no_marks, is_marked, marked}
use Rattle.lent_context.specs.Lent as Lent
-- one more entry, as long as a word of 32 bits can count it: no instruction makes more than 4,096 for each candidate (crate `laws_counts`)
unfoldable pub use Rattle.lent_context.specs.Lent.{one_more}
use Rattle.lent_layout.specs.Layout.{output, output_words}
use Rattle.lent_layout.specs.Context.{ContextWords}

-- the effects listed so far: the words of the output list, and how many effects they hold
-- an effect is listed as the record after the last
pub record Listed : Type 0 where
  pub words : List ℕ
  pub count : ℕ

-- one more record, as long as a word of 32 bits can count it; past the list's 1,120 records nothing is written
-- no instruction lists more than 32 + 64 × 17 (crate `laws_counts`), so that none is lost
unfoldable pub put_listed : Listed → AliasingEffect → Listed
put_listed l e = ite (ltb l.count 4294967295) (record { words = put_effect output l.words l.count e; count = suc l.count }) l

-- the lent tables: a word for each value, a row for each identifier, a list for each table of the context, the output list;
-- the places initialized in the instruction go by value
abbrev pub lent : Tables
lent = record {
  Values = List ℕ;
  value_of = value_at;
  put_value = put_value;
  Sets = List ℕ;
  set_of = set_at;
  put_set = put_set;
  Context = ContextWords;
  interned_count = Lent.interned_count;
  find_effect = Lent.find_effect;
  add_effect = Lent.add_effect;
  key_at = Lent.key_at;
  find_number = Lent.find_number;
  put_key = Lent.put_key;
  link_of = Lent.link_of;
  put_link = Lent.put_link;
  context_of = Lent.context_of;
  mutated_inside = Lent.mutated_inside;
  has_tracked_side_effect = Lent.has_tracked_side_effect;
  make_read = Lent.make_read;
  is_ref = Lent.is_ref;
  is_hoisted = Lent.is_hoisted;
  access_span = Lent.access_span;
  name_of = Lent.name_of;
  is_transitive = Lent.is_transitive;
  identity_count = Lent.identity_count;
  instance_count = Lent.instance_count;
  find_identity = Lent.find_identity;
  find_instance = Lent.find_instance;
  add_diagnostic = Lent.add_diagnostic;
  Initialized = Marks;
  none_initialized = no_marks;
  is_initialized = is_marked;
  put_initialized = marked;
  Listed = Listed;
  none_listed = record { words = zeros output_words; count = 0 };
  put_listed = put_listed;
  one_more = one_more;
  access_of = access_of;
}

-- the world of what a function is lent: values, sets, context and output list, and what goes by value
-- contracts speak of it at a function's entry and at its exit
abbrev pub world : List ℕ → List ℕ → ContextWords → List ℕ → Run → World lent
world vs ss cs os r = record {
  state = record { values = vs; sets = ss; is_function_expression = r.flag };
  rest = record {
    session = r.session;
    context = cs;
    work = record { initialized = r.marks; listed = record { words = os; count = r.listed }; freeze_entries = r.freeze; entries = r.entries };
  };
}
