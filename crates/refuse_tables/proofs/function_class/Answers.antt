use Rattle.std.proofs.Common.{rules}
use Rattle.refuse_words.specs.Classes.{run_limit}
use Rattle.refuse_tables.specs.TableClasses.{function_limit}
use Rattle.refuse_tables.proofs.Laws.Table.{function_is}
use Rattle.refuse_tables.proofs.function_class.Goals as goal

pub returns : goal.returns
returns c =
    function_is _ _ _ _ _ _ _ _ _ _ _ _ _ _ _ c.field-flags.ensures c.field-n.ensures c.field-inside.ensures
    (c.record_class-words.ensures (function_limit c.args.identifiers c.field-inside.result) (λ w l h p. search rules))
    (c.record_class-places.ensures (run_limit c.args.identifiers c.field-n.result) (λ w l h p. search rules))
    c.needs_known.ensures c.earns-known.ensures c.places_class.ensures c.lower.ensures c.lower-2.ensures c.lower-3.ensures
