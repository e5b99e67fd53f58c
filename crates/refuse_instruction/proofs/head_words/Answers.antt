use Rattle.refuse_instruction.proofs.Laws.Parts.{head_is}
use Rattle.refuse_instruction.proofs.head_words.Goals as goal

pub returns : goal.returns
returns c =
    head_is c.args.t c.args.xs.now c.args.i c.args.by.counts.identifiers c.args.by.counts.functions c.args.by.diagnostics c.args.by.code c.args.by.captures _ _ _ _ _ _ _ _ _ _ c.field.ensures c.word_class-tag.ensures c.uses_place.ensures c.place_words-first.ensures c.uses_destination.ensures c.place_words-second.ensures c.middle_words-rest.ensures c.lower.ensures c.lower-2.ensures c.lower-3.ensures
