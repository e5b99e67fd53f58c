-- `lent_members::count_bits` meets its contract: the bits of a row are the sum of those of its words. Assumes nothing.
use Rattle.std.specs.Int.Count.{ones}
use Rattle.std.specs.List.{range_with_len}
use Rattle.std.proofs.Common.{arith, rules, refl, ◌∙◌}
use Rattle.std.proofs.lemmas.Iterator.{YieldsList-from_map, YieldsList-from_range}
use Rattle.std.proofs.lemmas.Iterator.Consumers.{sum_by_from_yields_List, fits_by_from_yields_list}
use Rattle.lent_sets.specs.Rows.{row_word}
use Rattle.lent_sets.proofs.Laws.Code.{count_fits}
use Rattle.lent_members.proofs.Laws.Words.{bits_are}
use Rattle.lent_members.proofs.count_bits.Goals as goal

pub sum-requires-clause-fits : goal.sum-requires-clause-fits
sum-requires-clause-fits c =
    let e = bits_are c.args.rows.now c.args.i (λ k. let h = c.type_inv.rows k in omega arith) in
    let l = count_fits c.args.rows.now c.args.i in
    fits_by_from_yields_list (λ w. ones (row_word c.args.rows.now c.args.i w)) (range_with_len 0 16) c.map.result 4294967296
    (YieldsList-from_map _ (λ w. ones (row_word c.args.rows.now c.args.i w)) (YieldsList-from_range 0 16 16 c.map.ensures.source refl) c.map.ensures.closure (λ x r q k. search rules))
    (omega arith)

pub returns : goal.returns
returns c =
    sum_by_from_yields_List (λ w. ones (row_word c.args.rows.now c.args.i w)) (range_with_len 0 16) c.map.result _ c.sum.ensures.ran
    (YieldsList-from_map _ (λ w. ones (row_word c.args.rows.now c.args.i w)) (YieldsList-from_range 0 16 16 c.map.ensures.source refl) c.map.ensures.closure (λ x r q k. search rules))
    ∙ bits_are c.args.rows.now c.args.i (λ k. let h = c.type_inv.rows k in omega arith)
