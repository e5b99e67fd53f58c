-- `state_read_sets::write_values` meets its contract: each turn writes the first of the members that are left. Assumes nothing.
use Rattle.std.proofs.Common.{arith, ap, inl, length, ◌≡◌, ◌∙◌, ap₂}
use Rattle.lent_members.specs.Members.{rest}
use Rattle.base_sets.specs.Members.{values_of}
use Rattle.lent_sets.specs.Rows.{set_at}
use Rattle.state_calls.specs.Calls.{written}
use Rattle.state_calls.proofs.Laws.More.{write_turn, write_done}
use Rattle.state_means.proofs.Laws.Promises.{values_most}
use Rattle.state_read_sets.proofs.write_values.Goals as goal

pub loop-k-init : goal.loop-k-init
loop-k-init c =
    let e = c.into_iter-k-iterator.ensures.into_iter_gives in
    let s : rest c.into_iter-k-iterator.result.iter ≡ values_of (set_at c.args.sets.now c.args.i) = ap (λ x. rest x.iter) e ∙ ap rest c.enumerate-k-items.ensures.source ∙ c.members.ensures in
    let n : c.into_iter-k-iterator.result.count ≡ 0 = ap (λ x. x.count) e ∙ c.enumerate-k-items.ensures.count in
    let m = values_most c.args.sets.now c.args.i in
    let l : length (rest c.into_iter-k-iterator.result.iter) ≡ length (values_of (set_at c.args.sets.now c.args.i)) = ap length s in
    ((tt, tt, inl (omega arith)), tt, omega arith, ap₂ (λ l k. written l k c.args.out.now) s n)

pub loop-k-preserved : goal.loop-k-preserved
loop-k-preserved c =
    let p = c.in-Some.ensures.steps in
    let b = c.loop-k.invariant.2 in
    let l = ap length p.0 in
    let n = p.2 in
    ((tt, tt, inl (omega arith)), tt, omega arith, write_turn _ _ _ _ _ _ _ _ _ p.0 p.1 p.2 c.set.ensures c.loop-k.invariant.3)

pub returns : goal.returns
returns c = write_done _ _ _ _ c.in-None.ensures.steps.0.0 c.loop-k.invariant.3
