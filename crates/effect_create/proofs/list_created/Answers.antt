-- `effect_create::list_created` meets its contract: one law for each of its three ways. Assumes nothing.
use Rattle.effect_create.proofs.Laws.Creation.{listed_copied, listed_frozen, listed_itself}
use Rattle.effect_create.proofs.list_created.Goals as goal

pub returns-then-is_copied-clause-does : goal.returns-then-is_copied-clause-does
returns-then-is_copied-clause-does c =
    λ again ps. listed_copied _ _ _ _ again ps _ c.is_copied.ensures _ _ _ c.if-is_copied.true c.primary_reason-reason.ensures c.emit.ensures.does

pub returns-then-is_frozen-clause-does : goal.returns-then-is_frozen-clause-does
returns-then-is_frozen-clause-does c =
    λ again ps. listed_frozen _ _ _ _ again ps _ c.is_copied.ensures c.if-is_copied.false _ c.is_frozen.ensures _ _ _ c.if-is_frozen.true c.primary_reason-reason.ensures c.emit-then-is_frozen.ensures.does

pub returns-clause-does : goal.returns-clause-does
returns-clause-does c = λ again ps. listed_itself _ _ _ _ again ps _ c.is_copied.ensures c.if-is_copied.false _ c.is_frozen.ensures c.if-is_frozen.false
