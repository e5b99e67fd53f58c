-- The lower of two classes meets its contract, by its three ways. Assumes nothing.
use Rattle.std.proofs.Common.{arith, ◌∙◌, ⊎_elim}
use Rattle.std.proofs.Math.Nat.{min-eq_left, min-eq_right}
use Rattle.base_tests.proofs.Laws.Order.{lt_or_ge}
use Rattle.refuse_class.proofs.Laws.Class.{lower_none, lower_alone, lower_first, lower_second}
use Rattle.refuse_class.proofs.U32Class.lower_of.Goals as goal

pub returns-in-0-default : goal.returns-in-0-default
returns-in-0-default c = lower_none _ _ c.in-0-default.is-0

pub returns-in_default-eq0 : goal.returns-in_default-eq0
returns-in_default-eq0 c = lower_alone _ _ c.in_default-eq0.is-0.1 c.in_default-eq0.is-1

pub returns-in_default : goal.returns-in_default
returns-in_default c =
    ⊎_elim
    (λ l. c.min.ensures ∙ min-eq_right (omega arith) ∙ lower_second _ _ c.in_default.is-0.1 c.in_default.is-1.1 l)
    (λ l. c.min.ensures ∙ min-eq_left l ∙ lower_first _ _ c.in_default.is-0.1 c.in_default.is-1.1 l)
    (lt_or_ge c.args.other c.args.self)
