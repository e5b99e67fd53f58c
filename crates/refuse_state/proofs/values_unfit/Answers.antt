-- `refuse_state::values_unfit` meets its contract: what the search of the words finds. Assumes nothing.
use Rattle.std.specs.Prelude.{◌≡◌, refl, true, false, get_or}
use Rattle.std.proofs.Common.{rules, sym}
use Rattle.std.proofs.lemmas.Iterator.{cases_from_any, YieldsList-from_range}
use Rattle.base_tests.proofs.Laws.Any.{any_is}
use Rattle.refuse_entries.specs.Words.{word_unfit, values_unfit}
use Rattle.refuse_state.proofs.values_unfit.Goals as goal

pub returns : goal.returns
unfolding values_unfit
returns c = any_is 1024 (λ k. word_unfit c.args.next k (get_or c.args.values.now k 0)) c.any.result
    (cases_from_any _ _ _ (λ k. word_unfit c.args.next k (get_or c.args.values.now k 0) ≡ true) (λ k. word_unfit c.args.next k (get_or c.args.values.now k 0) ≡ false) c.any.ensures.ran (YieldsList-from_range 0 1024 1024 refl refl)
    (λ x q k. sym (search rules)) (λ x q k. (search rules, sym (search rules))))
