-- `refuse_rows::row_in_use` meets its contract: what the search of the words finds. Assumes nothing.
use Rattle.std.specs.Prelude.{◌≡◌, refl, true, false, not, eqb}
use Rattle.std.proofs.Common.{rules}
use Rattle.std.proofs.lemmas.Iterator.{cases_from_any, YieldsList-from_range}
use Rattle.base_tests.proofs.Laws.Any.{any_is}
use Rattle.lent_sets.specs.Rows.{row_word}
use Rattle.refuse_entries.specs.Words.{row_in_use}
use Rattle.refuse_rows.proofs.row_in_use.Goals as goal

pub returns : goal.returns
unfolding row_in_use
returns c = any_is 16 (λ w. not (eqb (row_word c.args.sets.now c.args.i w) 0)) c.any.result
    (cases_from_any _ _ _ (λ w. not (eqb (row_word c.args.sets.now c.args.i w) 0) ≡ true) (λ w. not (eqb (row_word c.args.sets.now c.args.i w) 0) ≡ false) c.any.ensures.ran (YieldsList-from_range 0 16 16 refl refl)
    (λ x q k. search rules) (λ x q k. (search rules, search rules)))
