use Rattle.effect_reports.proofs.Laws.Mutation.{modified_is}
use Rattle.effect_reports.proofs.modified_diagnostic.Goals as goal

pub returns : goal.returns
returns c = modified_is c.args.p c.args.name _ c.args.a c.get_write_error_reason.ensures
