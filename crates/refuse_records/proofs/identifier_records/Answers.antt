-- `refuse_records::identifier_records` meets its contract: those past the last that the table has earn nothing. Assumes nothing.
use Rattle.std.proofs.Common.{rules, arith, ◌∙◌}
use Rattle.refuse_words.proofs.Laws.Stray.{lowest_rest}
use Rattle.refuse_tables.specs.TableClasses.{identifier_class}
use Rattle.refuse_tables.proofs.Laws.Table.{identifier_past}
use Rattle.refuse_records.proofs.identifier_records.Goals as goal

pub returns : goal.returns
returns c =
    c.lowest.ensures (identifier_class c.args.identifiers.now) (λ k v l p. search rules)
    ∙ lowest_rest (identifier_class c.args.identifiers.now) c.min-m.result c.args.n (omega arith) (λ k h l. identifier_past c.args.identifiers.now k (omega arith))
