use native.Mathlib.Omega.{arith}
use mathlib.Core.Path.{sym, ◌∙◌}
use Rattle.base_search.proofs.Laws.Comparings.{numbers_compared}
use Rattle.lent_key_order.proofs.Laws.Runs.{left_all, second_done, past_both, one_differs, one_same, first_ends}
use Rattle.lent_key_order.proofs.compare_runs.Goals as goal

pub loop-k-init : goal.loop-k-init
loop-k-init c = (omega arith, omega arith, left_all c.args.a c.args.b)

pub returns-then-k-b : goal.returns-then-k-b
returns-then-k-b c = second_done c.args.a c.args.b _ c.loop-k-test.true c.if-k-b.true ∙ sym c.loop-k.invariant.2

pub returns-then-is_past-2 : goal.returns-then-is_past-2
returns-then-is_past-2 c =
    past_both c.args.a c.args.b _ _ c.loop-k-test.true c.if-k-b.false (c.is_past.ensures c.if-is_past.true) (c.is_past-then-is_past.ensures c.if-is_past-2.true) (c.cmp.ensures ∙ numbers_compared _ _) ∙ sym c.loop-k.invariant.2

pub returns-then-is_ne : goal.returns-then-is_ne
returns-then-is_ne c =
    one_differs c.args.a c.args.b _ c.loop-k-test.true c.if-k-b.false _ _ c.get.ensures c.get-in-loop-k.ensures _ (c.cmp-o.ensures ∙ numbers_compared _ _) (sym c.is_ne.ensures ∙ c.if-is_ne.true) ∙ sym c.loop-k.invariant.2

pub loop-k-preserved : goal.loop-k-preserved
loop-k-preserved c =
    (omega arith, omega arith, c.loop-k.invariant.2 ∙ one_same c.args.a c.args.b _ c.loop-k-test.true c.if-k-b.false _ _ c.get.ensures c.get-in-loop-k.ensures _ (c.cmp-o.ensures ∙ numbers_compared _ _) (sym c.is_ne.ensures ∙ c.if-is_ne.false))

pub returns : goal.returns
returns c = first_ends c.args.a c.args.b _ _ c.loop-k-test.false c.loop-k.invariant.0 c.loop-k.invariant.1 (c.cmp-2.ensures ∙ numbers_compared _ _) ∙ sym c.loop-k.invariant.2
