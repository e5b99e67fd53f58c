-- `image_run::run_tables` meets its contract: what does not fit is no accepted image; what fits runs. Assumes nothing.
use Rattle.image_outcome.proofs.Laws.Inferring.{runs_job}
use mathlib.Core.Path.{sym, refl}
use lib.Seq.{length-take-le}
use native.Mathlib.Omega.{arith}
use Rattle.image_run.proofs.run_tables.Goals as goal
use Rattle.image_run.proofs.run_tables.Goals.{then-m-sets-via-then-m-sets, then-m-sets-via-else-m-sets+then-n-candidates, then-m-sets-via-else-m-sets+else-n-candidates+then-e-scratch64}

pub returns-then-m-sets-clause-does : goal.returns-then-m-sets-clause-does
returns-then-m-sets-clause-does c = λ h a b. elim c.then-m-sets.branch [
  | then-m-sets-via-then-m-sets w ↦ absurd (omega (arith, h.rows, w.if-m-sets.true))
  | then-m-sets-via-else-m-sets+then-n-candidates w ↦ absurd (omega (arith, h.records, w.if-n-candidates.true))
  | then-m-sets-via-else-m-sets+else-n-candidates+then-e-scratch64 w ↦ absurd (omega (arith, h.scratch, w.if-e-scratch64.true))
]

pub slice_bounds-apply_signature-end-2 : goal.slice_bounds-apply_signature-end-2
slice_bounds-apply_signature-end-2 c = sym (length-take-le _ _ c.if-m-sets.false)

pub slice_bounds-apply_signature-end-3 : goal.slice_bounds-apply_signature-end-3
slice_bounds-apply_signature-end-3 c =
    sym (length-take-le _ _ c.if-n-candidates.false)

pub slice_bounds-apply_signature-end-5 : goal.slice_bounds-apply_signature-end-5
slice_bounds-apply_signature-end-5 c =
    sym (length-take-le _ _ c.if-e-scratch64.false)

pub returns-clause-does : goal.returns-clause-does
returns-clause-does c =
    λ h a b. runs_job _ _ _ _ _ _ _ _ _ _ _ _ _ _ _ _ _ _ _ _ refl refl refl c.if-m-sets.false c.if-e-scratch64.false a b c.apply_signature-applied.ensures.meets.0 c.apply_signature-applied.auto.sets c.clear_from.ensures (c.shown_of.ensures _ _)
