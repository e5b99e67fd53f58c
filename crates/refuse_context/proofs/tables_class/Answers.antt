use Rattle.refuse_records.proofs.Laws.Accepting.{tables_are}
use Rattle.refuse_context.proofs.tables_class.Goals as goal

pub returns : goal.returns
returns c = tables_are _ _ _ _ _ _ _ _ _ _ _ _ _ _ _ _ c.word_class-options.ensures c.identifiers_class-names.ensures c.functions_class-bodies.ensures c.links_class-links.ensures c.keys_class-keys.ensures c.diagnostics_class-messages.ensures c.effects_class-effects.ensures c.lower.ensures c.lower-2.ensures c.lower-3.ensures c.lower-4.ensures c.lower-5.ensures c.lower-6.ensures
