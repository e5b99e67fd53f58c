-- `state_adds::adds_bits` meets its contract: what the search of the words finds. Assumes nothing.
use Rattle.std.proofs.Common.{arith, rules, refl, true, false, ◌≡◌, ◌∙◌}
use Rattle.std.proofs.lemmas.Iterator.{cases_from_any, YieldsList-from_range}
use Rattle.base_tests.proofs.Laws.Any.{any_is}
use Rattle.state_adds.proofs.Laws.Any.{word_adds, any_bits}
use Rattle.state_adds.proofs.adds_bits.Goals as goal

pub returns : goal.returns
returns c = any_is 16 (word_adds c.args.sets.now c.args.other.now c.args.i) c.any.result
    (cases_from_any _ _ _ (λ w. word_adds c.args.sets.now c.args.other.now c.args.i w ≡ true) (λ w. word_adds c.args.sets.now c.args.other.now c.args.i w ≡ false) c.any.ensures.ran (YieldsList-from_range 0 16 16 refl refl)
    (λ x q k. search rules) (λ x q k. (search rules, search rules)))
    ∙ any_bits c.args.sets.now c.args.other.now c.args.i (λ k. let h = c.type_inv.sets k in omega arith) (λ k. let h = c.type_inv.other k in omega arith)
