-- `lent_keys::Numbers::get` meets its contract: one read, at a place that fits 64 bits. Assumes nothing.
use native.Mathlib.Omega.{arith}
use Rattle.lent_keys.proofs.Laws.Number.{number_fits}
use Rattle.lent_keys.proofs.Numbers.get.Goals as goal

pub overflow_mul-w : goal.overflow_mul-w
overflow_mul-w c = let p = number_fits 0 c.args.k c.args.self.step (omega arith) (omega arith) (omega arith) in omega arith

pub overflow_add-w : goal.overflow_add-w
overflow_add-w c = let p = number_fits c.args.self.first c.args.k c.args.self.step (omega arith) (omega arith) (omega arith) in omega arith
