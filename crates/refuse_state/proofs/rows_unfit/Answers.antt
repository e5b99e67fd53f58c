-- `refuse_state::rows_unfit` meets its contract: what the search of the rows finds. Assumes nothing.
use Rattle.std.specs.Prelude.{◌≡◌, refl, true, false}
use Rattle.std.proofs.Common.{rules, sym, arith}
use Rattle.std.proofs.lemmas.Iterator.{cases_from_any, YieldsList-from_range}
use Rattle.base_tests.proofs.Laws.Any.{any_is}
use Rattle.refuse_entries.specs.Words.{row_unfit, rows_unfit}
use Rattle.refuse_state.proofs.rows_unfit.Goals as goal

pub returns : goal.returns
unfolding rows_unfit
returns c = any_is c.args.n (λ k. row_unfit c.args.next c.args.sets.now k) c.any.result
    (cases_from_any _ _ _ (λ k. row_unfit c.args.next c.args.sets.now k ≡ true) (λ k. row_unfit c.args.next c.args.sets.now k ≡ false) c.any.ensures.ran (YieldsList-from_range 0 c.args.n c.args.n refl (omega arith))
    (λ x q k. sym (search rules)) (λ x q k. (search rules, sym (search rules))))
