use Rattle.effect_reports.proofs.Laws.Mutation.{hoisted_is}
use Rattle.effect_reports.proofs.hoisted_diagnostic.Goals as goal

pub returns : goal.returns
returns c = hoisted_is c.args.p c.args.name c.args.access _ c.access_label-label.ensures
