use native.Mathlib.Omega.{arith}
use Rattle.lent_order.specs.Order.{order_at}
use Rattle.refuse_order.proofs.Laws.Order.{last_place, next_place}
use Rattle.refuse_order.proofs.descends.Goals as goal

pub returns-then-j-saturating_sub : goal.returns-then-j-saturating_sub
returns-then-j-saturating_sub g c = λ key h. last_place key (order_at c.args.order c.args.xs.now) c.args.n c.args.j (omega arith)

pub returns : goal.returns
returns g c = λ key h.
    next_place key (order_at c.args.order c.args.xs.now) c.args.n c.args.j _ _ _ _ _ (omega arith) c.order_at-a.ensures (omega arith) c.order_at-b.ensures (h _ _ _ (omega arith) (omega arith) c.compare.ensures) c.is_ge.ensures
