use Rattle.std.proofs.Common.{◌∙◌}
use Rattle.effect_plain.proofs.Laws.Plain.{plain_freeze, plain_create, plain_immutable_capture, plain_listed, plain_only}
use Rattle.effect_plain.proofs.plain.Goals as goal

pub returns-in-Freeze-clause-does : goal.returns-in-Freeze-clause-does
returns-in-Freeze-clause-does c = λ z again. plain_freeze _ _ _ _ _ c.in-Freeze.is again ∙ c.freezing.ensures.does again

pub returns-in-Create-clause-does : goal.returns-in-Create-clause-does
returns-in-Create-clause-does c = λ z again. plain_create _ _ _ _ _ _ c.in-Create.is again ∙ c.creating.ensures.does again

pub returns-in-ImmutableCapture-clause-does : goal.returns-in-ImmutableCapture-clause-does
returns-in-ImmutableCapture-clause-does c = λ z again. plain_immutable_capture _ _ _ _ _ c.in-ImmutableCapture.is again ∙ c.capturing_immutably.ensures.does again

pub returns-in-MutateFrozen-clause-does : goal.returns-in-MutateFrozen-clause-does
returns-in-MutateFrozen-clause-does c = λ z again. plain_listed _ _ _ _ c.in-MutateFrozen.is again ∙ c.emit.ensures.does

pub returns-in_default-clause-does : goal.returns-in_default-clause-does
returns-in_default-clause-does c = λ z again. absurd (plain_only _ c.in_default.not-Freeze c.in_default.not-Create c.in_default.not-ImmutableCapture c.in_default.not-MutateFrozen c.in_default.not-MutateGlobal c.in_default.not-Impure c.in_default.not-Render z)
