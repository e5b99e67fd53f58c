use native.Mathlib.Omega.{arith}
use mathlib.Core.Path.{refl, sym, ◌∙◌}
use Rattle.lent_order.proofs.Laws.Insert.{none_left, moved_all}
use Rattle.lent_order.proofs.insert.Goals as goal

pub returns : goal.returns
returns c = moved_all _ _ _ _ _ _ _ _ c.args.p (omega arith) (sym c.move_up.ensures ∙ sym (none_left _ _ _ _ (omega arith))) refl c.put_field.ensures
