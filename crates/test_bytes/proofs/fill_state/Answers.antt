-- `test_bytes::fill_state` meets its contract: each turn fills one entry, or one row. Assumes nothing.
use Rattle.std.specs.Prelude.{ℕ, ◌≡◌, refl}
use Rattle.std.proofs.Common.{arith, subst, lit<}
use Rattle.lent_sets.specs.Rows.{number}
use Rattle.test_bytes.specs.Full.{all_values, SetsFilled}
use Rattle.test_bytes.proofs.Laws.Full.{value_filled, set_filled}
use Rattle.test_bytes.proofs.fill_state.Goals as goal

pub loop-v-preserved : goal.loop-v-preserved
loop-v-preserved c = value_filled _ _ _ c.loop-v.v (omega arith) c.put_value.ensures c.loop-v.invariant

pub loop-i-preserved : goal.loop-i-preserved
unfolding number all_values
loop-i-preserved c = set_filled _ _ _ c.loop-i.i _ (lit< tt) refl c.put_set.ensures c.loop-i.invariant

pub returns-clause-sets : goal.returns-clause-sets
returns-clause-sets c = subst (λ (n : ℕ). SetsFilled n c.args.sets.now c.loop-i.sets) (let e : c.loop-i.i ≡ 512 = omega arith in e) c.loop-i.invariant
