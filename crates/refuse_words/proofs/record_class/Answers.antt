use Rattle.std.proofs.Common.{rules}
use Rattle.lent_tables.specs.Words.{field}
use Rattle.refuse_words.specs.Classes.{word_class, words_below, record_class}
use Rattle.refuse_words.proofs.record_class.Goals as goal

pub returns : goal.returns
unfolding words_below record_class
returns g c = λ limits h. c.lowest.ensures (λ w. word_class (limits w) (field c.args.t c.args.xs.now c.args.i w)) (λ w v l p. search (rules, h))
