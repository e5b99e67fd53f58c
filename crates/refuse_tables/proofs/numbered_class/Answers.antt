use Rattle.std.proofs.Common.{rules, get_or}
use Rattle.lent_layout.specs.Context.{interned_of}
use Rattle.refuse_words.specs.Classes.{word_class}
use Rattle.refuse_tables.specs.TableClasses.{numbers_of, numbered_class}
use Rattle.refuse_tables.proofs.numbered_class.Goals as goal

pub returns : goal.returns
unfolding numbered_class
returns g c = λ limits h. c.lowest.ensures (λ w. word_class (limits w) (get_or (numbers_of (interned_of c.args.x)) w 0)) (λ w v l p. search (rules, h))
