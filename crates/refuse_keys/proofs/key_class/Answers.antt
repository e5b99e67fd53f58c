use Rattle.std.proofs.Common.{rules}
use Rattle.refuse_tables.specs.TableClasses.{key_limit}
use Rattle.refuse_tables.proofs.Laws.Key.{key_is}
use Rattle.refuse_keys.proofs.key_class.Goals as goal

pub returns : goal.returns
returns c =
    key_is _ _ _ _ _ _ _ _ _ _ _ _ _ c.field-code.ensures c.field-source.ensures c.field-destination.ensures c.field-function.ensures c.field-n.ensures
    (c.record_class-words.ensures (key_limit c.args.counts.identifiers c.args.counts.functions c.field-code.result c.field-n.result) (λ w l h p. search rules))
    c.key_lacks-lacks.ensures c.earns.ensures c.lower.ensures
