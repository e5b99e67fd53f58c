use Rattle.effect_intern.proofs.Laws.Refresh as Refresh
use Rattle.effect_intern.proofs.refresh.Goals as goal

pub returns-in-MutateFrozen : goal.returns-in-MutateFrozen
returns-in-MutateFrozen c = Refresh.r_mutate_frozen _ _ _ _ _ c.in-MutateFrozen.is c.diagnostic_of-error.ensures

pub returns-in-MutateGlobal : goal.returns-in-MutateGlobal
returns-in-MutateGlobal c = Refresh.r_mutate_global _ _ _ _ _ c.in-MutateGlobal.is c.diagnostic_of-error-in-MutateGlobal.ensures

pub returns-in-Impure : goal.returns-in-Impure
returns-in-Impure c = Refresh.r_impure _ _ _ _ _ c.in-Impure.is c.diagnostic_of-error-in-Impure.ensures

pub returns-in_default : goal.returns-in_default
returns-in_default c = Refresh.r_other _ _ c.in_default.not-MutateFrozen c.in_default.not-MutateGlobal c.in_default.not-Impure
