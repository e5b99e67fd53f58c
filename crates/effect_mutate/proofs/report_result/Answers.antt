use Rattle.std.proofs.Common.{⊎_elim}
use Rattle.effect_reports.proofs.Laws.Mutation.{result_none, result_ref, result_mutate, result_global, result_hoisted, result_frozen}
use Rattle.effect_parts.proofs.Laws.Elsewhere.{alike, plain_alike}
use Rattle.effect_mutate.proofs.Laws.Elsewhere.{among_same}
use Rattle.effect_mutate.proofs.report_result.Goals as goal

pub returns-then-is_hoisted-clause-does : goal.returns-then-is_hoisted-clause-does
returns-then-is_hoisted-clause-does c =
    λ again e cs. result_hoisted again e cs _ _ _ _ _ c.kind-a-in-MutateFrozen.ensures.does _ _ c.is_hoisted.ensures c.in-MutateFrozen.is c.if-is_hoisted.true (c.report_hoisted.ensures.does again e cs)

pub returns-in-None-clause-does : goal.returns-in-None-clause-does
returns-in-None-clause-does c = λ again e cs. ⊎_elim (result_none again e cs _ _ _) (result_ref again e cs _ _ _) c.in-None.is

pub returns-in-Mutate-clause-does : goal.returns-in-Mutate-clause-does
returns-in-Mutate-clause-does c = λ again e cs. result_mutate again e cs _ _ _ c.in-Mutate.is

pub returns-in-MutateGlobal-clause-does : goal.returns-in-MutateGlobal-clause-does
returns-in-MutateGlobal-clause-does c =
    λ again e cs. result_global again e cs _ _ _ _ _ c.kind-a.ensures.does _ c.in-MutateGlobal.is (c.report_modified.ensures.does again e cs)

pub returns-else-is_hoisted-clause-does : goal.returns-else-is_hoisted-clause-does
returns-else-is_hoisted-clause-does c =
    λ again e cs. result_frozen again e cs _ _ _ _ _ c.kind-a-in-MutateFrozen.ensures.does _ _ c.is_hoisted.ensures c.in-MutateFrozen.is c.if-is_hoisted.false (c.report_modified-in-MutateFrozen.ensures.does again e cs)

pub returns-then-is_hoisted-clause-elsewhere : goal.returns-then-is_hoisted-clause-elsewhere
returns-then-is_hoisted-clause-elsewhere c =
    λ again e cs os. result_hoisted again e cs _ _ _ _ _ (alike _ _ (plain_alike (λ x. x) os _) _ _ c.kind-a-in-MutateFrozen.ensures.does) _ _ c.is_hoisted.ensures c.in-MutateFrozen.is c.if-is_hoisted.true (among_same _ again e cs _ _ _ _ _ _ os _ c.report_hoisted.ensures.unwritten.0 c.report_hoisted.ensures.unwritten.1 (c.report_hoisted.ensures.elsewhere again e cs _ _ os))

pub returns-in-None-clause-elsewhere : goal.returns-in-None-clause-elsewhere
returns-in-None-clause-elsewhere c = λ again e cs os. ⊎_elim (result_none again e cs _ _ _) (result_ref again e cs _ _ _) c.in-None.is

pub returns-in-Mutate-clause-elsewhere : goal.returns-in-Mutate-clause-elsewhere
returns-in-Mutate-clause-elsewhere c = λ again e cs os. result_mutate again e cs _ _ _ c.in-Mutate.is

pub returns-in-MutateGlobal-clause-elsewhere : goal.returns-in-MutateGlobal-clause-elsewhere
returns-in-MutateGlobal-clause-elsewhere c =
    λ again e cs os. result_global again e cs _ _ _ _ _ (alike _ _ (plain_alike (λ x. x) os _) _ _ c.kind-a.ensures.does) _ c.in-MutateGlobal.is (among_same _ again e cs _ _ _ _ _ _ os _ c.report_modified.ensures.unwritten.0 c.report_modified.ensures.unwritten.1 (c.report_modified.ensures.elsewhere again e cs _ _ os))

pub returns-else-is_hoisted-clause-elsewhere : goal.returns-else-is_hoisted-clause-elsewhere
returns-else-is_hoisted-clause-elsewhere c =
    λ again e cs os. result_frozen again e cs _ _ _ _ _ (alike _ _ (plain_alike (λ x. x) os _) _ _ c.kind-a-in-MutateFrozen.ensures.does) _ _ c.is_hoisted.ensures c.in-MutateFrozen.is c.if-is_hoisted.false (among_same _ again e cs _ _ _ _ _ _ os _ c.report_modified-in-MutateFrozen.ensures.unwritten.0 c.report_modified-in-MutateFrozen.ensures.unwritten.1 (c.report_modified-in-MutateFrozen.ensures.elsewhere again e cs _ _ os))
