-- `lent_members::is_empty` meets its contract: what the search of the words finds. Assumes nothing.
use Rattle.std.proofs.Common.{arith, rules, refl}
use Rattle.std.specs.Prelude.{◌≡◌, get_or}
use Rattle.std.proofs.lemmas.Iterator.{cases_from_all, YieldsList-from_range}
use Rattle.lent_members.proofs.Laws.Words.{empty_is}
use Rattle.lent_members.proofs.is_empty.Goals as goal

pub returns : goal.returns
returns c = empty_is c.args.acc.now (λ k. let h = c.type_inv.acc k in omega arith) c.all.result
    (cases_from_all _ _ _ (λ w. get_or c.args.acc.now w 0 ≡ 0) (λ w. get_or c.args.acc.now w 0 ≡ 0 → ⊥) c.all.ensures.ran (YieldsList-from_range 0 16 16 refl refl)
    (λ x q k. (search rules, search rules)) (λ x q k. search rules))
