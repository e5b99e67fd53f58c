use Rattle.effect_parts.proofs.Laws.Elsewhere.{alike, kind_alike}
use Rattle.effect_flow.proofs.Laws.Flow.{flowing_goes}
use Rattle.effect_flow.proofs.flowing.Goals as goal

pub returns-clause-does : goal.returns-clause-does
returns-clause-does c =
    λ again e cs. flowing_goes again e cs _ _ _ _ _ _ _ _ _ c.kind_with_span-destination.ensures.does c.kind_with_span-source.ensures.does c.flow_next.ensures

pub returns-clause-elsewhere : goal.returns-clause-elsewhere
returns-clause-elsewhere c =
    λ again e cs o os. flowing_goes again e cs _ _ _ _ _ _ _ _ _ (alike _ _ (kind_alike (λ _. o) os _ _) _ _ c.kind_with_span-destination.ensures.does) (alike _ _ (kind_alike (λ _. o) os _ _) _ _ c.kind_with_span-source.ensures.does) c.flow_next.ensures
