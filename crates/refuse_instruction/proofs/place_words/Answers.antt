use Rattle.base_tests.specs.Tests.{ite}
use native.Mathlib.Omega.{arith}
use Rattle.refuse_instruction.specs.Parts.{place_word}
use Rattle.refuse_instruction.proofs.Laws.Parts.{lowest_five, word_of_place}
use Rattle.refuse_instruction.proofs.place_words.Goals as goal

pub returns : goal.returns
returns c =
    lowest_five (place_word c.args.t c.args.xs.now c.args.i c.args.first (ite c.args.u 1 0) c.args.identifiers) _ _ _ _ _ _ _ _ _ (word_of_place c.args.t c.args.xs.now c.args.i c.args.first (ite c.args.u 1 0) c.args.identifiers 0 _ _ _ c.place_limit.result c.used_if.result c.place_limit.ensures c.used_if.ensures (omega arith) c.field-a.ensures c.word_class-identifier.ensures) (word_of_place c.args.t c.args.xs.now c.args.i c.args.first (ite c.args.u 1 0) c.args.identifiers 1 _ _ _ c.place_limit-2.result c.used_if-2.result c.place_limit-2.ensures c.used_if-2.ensures (omega arith) c.field-b.ensures c.word_class-effect.ensures) (word_of_place c.args.t c.args.xs.now c.args.i c.args.first (ite c.args.u 1 0) c.args.identifiers 2 _ _ _ c.place_limit-3.result c.used_if-3.result c.place_limit-3.ensures c.used_if-3.ensures (omega arith) c.field-c.ensures c.word_class-reactive.ensures) (word_of_place c.args.t c.args.xs.now c.args.i c.args.first (ite c.args.u 1 0) c.args.identifiers 3 _ _ _ c.place_limit-4.result c.used_if-4.result c.place_limit-4.ensures c.used_if-4.ensures (omega arith) c.field-d.ensures c.word_class-start.ensures) (word_of_place c.args.t c.args.xs.now c.args.i c.args.first (ite c.args.u 1 0) c.args.identifiers 4 _ _ _ c.place_limit-5.result c.used_if-5.result c.place_limit-5.ensures c.used_if-5.ensures (omega arith) c.field-e.ensures c.word_class-end.ensures) c.lower.ensures c.lower-2.ensures c.lower-3.ensures c.lower-4.ensures
