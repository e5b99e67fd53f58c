-- `refuse_key_order::keyed` meets its contract: the sum of a one for each number that has a key. Assumes nothing.
use Rattle.std.proofs.Common.{arith, rules, ◌∙◌}
use Rattle.std.proofs.lemmas.Iterator.{YieldsList-from_map, YieldsList-from_range}
use Rattle.std.proofs.lemmas.Iterator.Consumers.{sum_from_yields_List, fits_from_yields_list}
use Rattle.base_tests.specs.Tests.{ite}
use Rattle.lent_layout.specs.Context.{held}
use Rattle.lent_context.specs.Lent.{is_keyed}
use Rattle.refuse_key_order.proofs.Laws.KeyOrder.{how_many_le, counted}
use Rattle.refuse_key_order.proofs.keyed.Goals as goal

pub sum-requires-clause-fits : goal.sum-requires-clause-fits
sum-requires-clause-fits c =
    fits_from_yields_list c.map.result 4294967296
    (YieldsList-from_map _ (λ v. ite (is_keyed (held c.args.context.now) v) 1 0) (YieldsList-from_range 0 c.args.m c.args.m c.map.ensures.source (omega arith)) c.map.ensures.closure (λ x r q k. search rules))
    (let e = counted (is_keyed (held c.args.context.now)) c.args.m in let l = how_many_le (is_keyed (held c.args.context.now)) c.args.m in omega arith)

pub returns : goal.returns
returns c =
    sum_from_yields_List c.map.result _ c.sum.ensures.ran
    (YieldsList-from_map _ (λ v. ite (is_keyed (held c.args.context.now) v) 1 0) (YieldsList-from_range 0 c.args.m c.args.m c.map.ensures.source (omega arith)) c.map.ensures.closure (λ x r q k. search rules))
    ∙ counted (is_keyed (held c.args.context.now)) c.args.m
