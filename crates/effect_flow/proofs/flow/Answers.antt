use Rattle.effect_flow.proofs.Laws.Flow.{capture_goes, maybe_goes, alias_goes, alias_refused, as_maybe_goes, as_maybe_refused}
use Rattle.effect_flow.proofs.flow.Goals as goal

pub returns-in-Capture-clause-does : goal.returns-in-Capture-clause-does
returns-in-Capture-clause-does c = λ again e cs. capture_goes again e cs _ _ _ _ _ c.in-Capture.is (c.flowing.ensures.does again e cs)

pub returns-in-MaybeAlias-clause-does : goal.returns-in-MaybeAlias-clause-does
returns-in-MaybeAlias-clause-does c = λ again e cs. maybe_goes again e cs _ _ _ _ _ c.in-MaybeAlias.is (c.flowing-in-MaybeAlias.ensures.does again e cs)

pub returns-then-not-is_marked-clause-does : goal.returns-then-not-is_marked-clause-does
returns-then-not-is_marked-clause-does c = λ again e cs. alias_refused again e cs _ _ _ _ c.in-Alias.is _ c.is_marked.ensures c.if-not-is_marked.true

pub returns-else-not-is_marked-clause-does : goal.returns-else-not-is_marked-clause-does
returns-else-not-is_marked-clause-does c = λ again e cs. alias_goes again e cs _ _ _ _ _ c.in-Alias.is _ c.is_marked.ensures c.if-not-is_marked.false (c.flowing-in-Alias.ensures.does again e cs)

pub returns-in-Capture-clause-elsewhere : goal.returns-in-Capture-clause-elsewhere
returns-in-Capture-clause-elsewhere c = λ again e cs o os. capture_goes again e cs _ _ _ _ _ c.in-Capture.is (c.flowing.ensures.elsewhere again e cs o os)

pub returns-in-MaybeAlias-clause-elsewhere : goal.returns-in-MaybeAlias-clause-elsewhere
returns-in-MaybeAlias-clause-elsewhere c = λ again e cs o os. maybe_goes again e cs _ _ _ _ _ c.in-MaybeAlias.is (c.flowing-in-MaybeAlias.ensures.elsewhere again e cs o os)

pub returns-then-not-is_marked-clause-elsewhere : goal.returns-then-not-is_marked-clause-elsewhere
returns-then-not-is_marked-clause-elsewhere c = λ again e cs o os. alias_refused again e cs _ _ _ _ c.in-Alias.is _ c.is_marked.ensures c.if-not-is_marked.true

pub returns-else-not-is_marked-clause-elsewhere : goal.returns-else-not-is_marked-clause-elsewhere
returns-else-not-is_marked-clause-elsewhere c = λ again e cs o os. alias_goes again e cs _ _ _ _ _ c.in-Alias.is _ c.is_marked.ensures c.if-not-is_marked.false (c.flowing-in-Alias.ensures.elsewhere again e cs o os)

pub returns-then-not-is_marked-2-clause-does : goal.returns-then-not-is_marked-2-clause-does
returns-then-not-is_marked-2-clause-does c = λ again e cs. as_maybe_refused again e cs _ _ _ _ c.in-AliasAsMaybe.is _ c.is_marked-in-AliasAsMaybe.ensures c.if-not-is_marked-2.true

pub returns-else-not-is_marked-2-clause-does : goal.returns-else-not-is_marked-2-clause-does
returns-else-not-is_marked-2-clause-does c = λ again e cs. as_maybe_goes again e cs _ _ _ _ _ c.in-AliasAsMaybe.is _ c.is_marked-in-AliasAsMaybe.ensures c.if-not-is_marked-2.false (c.flowing-in-AliasAsMaybe.ensures.does again e cs)

pub returns-then-not-is_marked-2-clause-elsewhere : goal.returns-then-not-is_marked-2-clause-elsewhere
returns-then-not-is_marked-2-clause-elsewhere c = λ again e cs o os. as_maybe_refused again e cs _ _ _ _ c.in-AliasAsMaybe.is _ c.is_marked-in-AliasAsMaybe.ensures c.if-not-is_marked-2.true

pub returns-else-not-is_marked-2-clause-elsewhere : goal.returns-else-not-is_marked-2-clause-elsewhere
returns-else-not-is_marked-2-clause-elsewhere c = λ again e cs o os. as_maybe_goes again e cs _ _ _ _ _ c.in-AliasAsMaybe.is _ c.is_marked-in-AliasAsMaybe.ensures c.if-not-is_marked-2.false (c.flowing-in-AliasAsMaybe.ensures.elsewhere again e cs o os)
