-- `image_class2::any_below` meets its contract: what the search of a range finds. Assumes nothing.
use Rattle.std.proofs.Common.{arith, rules, refl, sym, true, false, ◌≡◌}
use Rattle.std.proofs.lemmas.Iterator.{cases_from_any, YieldsList-from_range}
use Rattle.base_tests.proofs.Laws.Any.{any_is}
use Rattle.image_class2.proofs.any_below.Goals as goal

pub returns : goal.returns
returns g c = λ f h. any_is c.args.n f c.any.result
    (cases_from_any _ _ _ (λ x. f x ≡ true) (λ x. f x ≡ false) c.any.ensures.ran (YieldsList-from_range 0 c.args.n c.args.n refl (omega arith))
    (λ x q k. sym (h x true (search rules))) (λ x q k. (search rules, sym (h x false (search rules)))))
