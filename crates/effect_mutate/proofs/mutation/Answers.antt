use Rattle.effect_reports.proofs.Laws.Mutation.{mutation_ref, mutation_goes}
use Rattle.effect_parts.proofs.Laws.Elsewhere.{alike, kind_alike}
use Rattle.effect_mutate.proofs.mutation.Goals as goal

pub returns-then-is_ref-clause-does : goal.returns-then-is_ref-clause-does
returns-then-is_ref-clause-does c = λ again e cs. mutation_ref again e cs _ _ _ _ c.is_ref.ensures c.if-is_ref.true

pub returns-clause-does : goal.returns-clause-does
returns-clause-does c =
    λ again e cs. mutation_goes again e cs _ _ _ _ c.is_ref.ensures _ _ _ _ _ c.if-is_ref.false c.kind_with_span-a.ensures.does c.is_strict.ensures c.result_of.ensures (c.report_result.ensures.does again e cs)

pub returns-then-is_ref-clause-elsewhere : goal.returns-then-is_ref-clause-elsewhere
returns-then-is_ref-clause-elsewhere c = λ again e cs os. mutation_ref again e cs _ _ _ _ c.is_ref.ensures c.if-is_ref.true

pub returns-clause-elsewhere : goal.returns-clause-elsewhere
returns-clause-elsewhere c =
    λ again e cs os. mutation_goes again e cs _ _ _ _ c.is_ref.ensures _ _ _ _ _ c.if-is_ref.false (alike _ _ (kind_alike (λ x. x) os _ _) _ _ c.kind_with_span-a.ensures.does) c.is_strict.ensures c.result_of.ensures (c.report_result.ensures.elsewhere again e cs os)
