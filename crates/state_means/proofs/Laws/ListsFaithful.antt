-- Plain tables with a lent state are faithful: the state's laws are those of the lent tables, the rest is plain. Assumes nothing.
use Rattle.std.specs.Prelude.{ℕ, ◌*◌, ◌≤◌, ◌≡◌, length}
use Rattle.std.proofs.Common.{◌∙◌}
use Rattle.def_transfer.specs.Pure.{pure}
use Rattle.lent_values.proofs.Laws.Cell.{put_length}
use Rattle.lent_sets.proofs.Laws.Row.{fit_set}
use Rattle.state_ops.specs.OnLists.{on_lists}
use Rattle.def_faithful.specs.Faithful.{Faithful}
use Rattle.def_faithful.proofs.Laws.PureFaithful.{pure_faithful}
use Rattle.lent_world.proofs.Laws.StateFaithful.{value_word, value_put, set_is, set_put}

unfoldable pub lists_faithful : (n : ℕ) → n ≤ 512 → Faithful n (on_lists pure)
unfolding pure_faithful
lists_faithful n few = record {
  few = few;
  FitValues = λ t. length t ≡ 1024;
  value_fit = λ t v a h p q. put_length t v a ∙ h;
  value_word = λ t v h. value_word t v;
  value_put = value_put;
  FitSets = λ t. length t ≡ 16 * n;
  set_fit = λ t i s h p q. fit_set n t i s h;
  set_is = λ t i h. set_is t i;
  set_put = set_put n;
  FitContext = (pure_faithful n few).FitContext;
  meaning = (pure_faithful n few).meaning;
  count_is = (pure_faithful n few).count_is;
  effect_is = (pure_faithful n few).effect_is;
  key_is = (pure_faithful n few).key_is;
  number_is = (pure_faithful n few).number_is;
  link_is = (pure_faithful n few).link_is;
  places_is = (pure_faithful n few).places_is;
  inside_is = (pure_faithful n few).inside_is;
  tracked_is = (pure_faithful n few).tracked_is;
  ref_is = (pure_faithful n few).ref_is;
  hoisted_is = (pure_faithful n few).hoisted_is;
  access_is = (pure_faithful n few).access_is;
  name_is = (pure_faithful n few).name_is;
  transitive_is = (pure_faithful n few).transitive_is;
  identities_is = (pure_faithful n few).identities_is;
  instances_is = (pure_faithful n few).instances_is;
  identity_is = (pure_faithful n few).identity_is;
  instance_is = (pure_faithful n few).instance_is;
  effect_fit = (pure_faithful n few).effect_fit;
  effect_add = (pure_faithful n few).effect_add;
  key_fit = (pure_faithful n few).key_fit;
  key_put = (pure_faithful n few).key_put;
  link_fit = (pure_faithful n few).link_fit;
  link_put = (pure_faithful n few).link_put;
  read_fit = (pure_faithful n few).read_fit;
  read_made = (pure_faithful n few).read_made;
  diagnostic_fit = (pure_faithful n few).diagnostic_fit;
  diagnostic_add = (pure_faithful n few).diagnostic_add;
  Marked = (pure_faithful n few).Marked;
  none_marked = (pure_faithful n few).none_marked;
  mark_is = (pure_faithful n few).mark_is;
  mark_put = (pure_faithful n few).mark_put;
  Lists = (pure_faithful n few).Lists;
  none_listed_is = (pure_faithful n few).none_listed_is;
  list_put = (pure_faithful n few).list_put;
  Counts = (pure_faithful n few).Counts;
  none_counted = (pure_faithful n few).none_counted;
  one_more_is = (pure_faithful n few).one_more_is;
  access_of_is = (pure_faithful n few).access_of_is;
}
