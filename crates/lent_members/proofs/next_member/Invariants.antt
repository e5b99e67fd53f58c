use Rattle.std.specs.Prelude.{◌≡◌, ◌*◌}
use Rattle.lent_sets.specs.Rows.{next_member}
use Rattle.lent_members.proofs.next_member.Given as goal

abbrev pub invariant-loop-w : goal.invariant-loop-w
invariant-loop-w l = next_member l.rows l.i l.from ≡ next_member l.rows l.i (l.w * 64)
