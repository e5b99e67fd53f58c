-- `lent_diagnostics::identities_before` meets its contract: the highest that the records give. Assumes nothing.
use Rattle.std.proofs.Common.{rules, ap, sym, arith, ◌∙◌}
use Rattle.std.specs.Option.{unwrap_or}
use Rattle.std.proofs.lemmas.Iterator.{YieldsList-from_map, YieldsList-from_range}
use Rattle.std.proofs.lemmas.Iterator.Adapters.{option_map_id}
use Rattle.std.proofs.lemmas.Iterator.Consumers.{max_from_yields_List}
use Rattle.lent_diagnostics.proofs.Laws.Diagnostic.{above, identities_are}
use Rattle.lent_diagnostics.proofs.identities_before.Goals as goal

pub returns : goal.returns
returns c =
    c.unwrap_or.ensures
    ∙ ap (λ o. unwrap_or o 0) (sym (option_map_id _) ∙ max_from_yields_List c.map.result c.max.result c.max.ensures.ran
    (YieldsList-from_map _ (above c.args.diagnostics.now) (YieldsList-from_range 0 c.args.n c.args.n c.map.ensures.source (omega arith)) c.map.ensures.closure (λ x r q k. search rules)))
    ∙ identities_are c.args.diagnostics.now c.args.n
