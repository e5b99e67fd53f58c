use Rattle.std.proofs.Common.{◌∙◌}
use Rattle.lent_key_order.proofs.Laws.Heads.{heads_are}
use Rattle.lent_key_order.proofs.compare_heads.Goals as goal

pub returns : goal.returns
returns c = c.cmp.ensures ∙ heads_are c.args.a c.args.b
