use Rattle.std.proofs.Math.Path.{ap}
use Rattle.lent_keys.specs.KeyRecords.{key_with}
use Rattle.lent_keys.proofs.WholeKey.new.Goals as goal

pub returns : goal.returns
returns c = ap (key_with c.args.head) c.captures_beside.ensures
