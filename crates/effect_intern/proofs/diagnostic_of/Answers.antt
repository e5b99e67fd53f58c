use Rattle.effect_intern.proofs.Laws.Refresh as Refresh
use Rattle.effect_intern.proofs.diagnostic_of.Goals as goal

pub returns-in-MutateFrozen : goal.returns-in-MutateFrozen
returns-in-MutateFrozen c = Refresh.d_mutate_frozen _ _ _ _ c.in-MutateFrozen.is

pub returns-in-MutateGlobal : goal.returns-in-MutateGlobal
returns-in-MutateGlobal c = Refresh.d_mutate_global _ _ _ _ c.in-MutateGlobal.is

pub returns-in-Impure : goal.returns-in-Impure
returns-in-Impure c = Refresh.d_impure _ _ _ _ c.in-Impure.is

pub returns-in_default : goal.returns-in_default
returns-in_default c = Refresh.d_other _ _ c.in_default.not-MutateFrozen c.in_default.not-MutateGlobal c.in_default.not-Impure
