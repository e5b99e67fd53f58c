use Rattle.refuse_instruction.specs.Parts.{middle_word}
use Rattle.refuse_instruction.proofs.Laws.Parts.{lowest_seven, word_of_middle}
use Rattle.refuse_instruction.proofs.middle_words.Goals as goal

pub returns : goal.returns
returns c =
    lowest_seven (middle_word c.args.t c.args.xs.now c.args.i c.args.by.counts.functions c.args.by.diagnostics c.args.by.code) _ _ _ _ _ _ _ _ _ _ _ _ _ (word_of_middle c.args.t c.args.xs.now c.args.i c.args.by.counts.functions c.args.by.diagnostics c.args.by.code 0 _ _ c.middle_limit.result c.middle_limit.ensures c.field.ensures c.word_class-kind.ensures) (word_of_middle c.args.t c.args.xs.now c.args.i c.args.by.counts.functions c.args.by.diagnostics c.args.by.code 1 _ _ c.middle_limit-2.result c.middle_limit-2.ensures c.field-2.ensures c.word_class-reason.ensures) (word_of_middle c.args.t c.args.xs.now c.args.i c.args.by.counts.functions c.args.by.diagnostics c.args.by.code 2 _ _ c.middle_limit-3.result c.middle_limit-3.ensures c.field-3.ensures c.word_class-mutation.ensures) (word_of_middle c.args.t c.args.xs.now c.args.i c.args.by.counts.functions c.args.by.diagnostics c.args.by.code 3 _ _ c.middle_limit-4.result c.middle_limit-4.ensures c.field-4.ensures c.word_class-function.ensures) (word_of_middle c.args.t c.args.xs.now c.args.i c.args.by.counts.functions c.args.by.diagnostics c.args.by.code 4 _ _ c.middle_limit-5.result c.middle_limit-5.ensures c.field-5.ensures c.word_class-identity.ensures) (word_of_middle c.args.t c.args.xs.now c.args.i c.args.by.counts.functions c.args.by.diagnostics c.args.by.code 5 _ _ c.middle_limit-6.result c.middle_limit-6.ensures c.field-6.ensures c.word_class-instance.ensures) (word_of_middle c.args.t c.args.xs.now c.args.i c.args.by.counts.functions c.args.by.diagnostics c.args.by.code 6 _ _ c.middle_limit-7.result c.middle_limit-7.ensures c.field-7.ensures c.word_class-count.ensures) c.lower.ensures c.lower-2.ensures c.lower-3.ensures c.lower-4.ensures c.lower-5.ensures c.lower-6.ensures
