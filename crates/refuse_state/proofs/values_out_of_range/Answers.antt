-- `refuse_state::values_out_of_range` meets its contract: what the search of the words finds. Assumes nothing.
use Rattle.std.specs.Prelude.{◌≡◌, refl, true, false, get_or}
use Rattle.std.proofs.Common.{rules, sym}
use Rattle.std.proofs.lemmas.Iterator.{cases_from_any, YieldsList-from_range}
use Rattle.base_tests.proofs.Laws.Any.{any_is}
use Rattle.refuse_entries.specs.Words.{word_out_of_range, values_out_of_range}
use Rattle.refuse_state.proofs.values_out_of_range.Goals as goal

pub returns : goal.returns
unfolding values_out_of_range
returns c = any_is 1024 (λ k. word_out_of_range c.args.n k (get_or c.args.values.now k 0)) c.any.result
    (cases_from_any _ _ _ (λ k. word_out_of_range c.args.n k (get_or c.args.values.now k 0) ≡ true) (λ k. word_out_of_range c.args.n k (get_or c.args.values.now k 0) ≡ false) c.any.ensures.ran (YieldsList-from_range 0 1024 1024 refl refl)
    (λ x q k. sym (search rules)) (λ x q k. (search rules, sym (search rules))))
