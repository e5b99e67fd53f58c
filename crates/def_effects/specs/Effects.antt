-- The effects of an instruction: `AliasingEffect` without Apply. Assumes nothing: these are definitions.
use Rattle.std.specs.Prelude.{ℕ, List}
use Rattle.def_kinds.specs.declared.ValueKind.{ValueKind}
use Rattle.def_effects.specs.declared.Place.{Place}
use Rattle.def_effects.specs.declared.AliasingDiagnostic.{AliasingDiagnostic}

-- Places come in the order from, into. Reasons are numbers; a mutation reason is 0 for none, else 1 + its place in `MutationReason`.
pub data AliasingEffect : Type 0 where
  Freeze : Place → ℕ → AliasingEffect
  Mutate : Place → ℕ → AliasingEffect
  MutateConditionally MutateTransitive MutateTransitiveConditionally : Place → AliasingEffect
  Capture Alias MaybeAlias Assign : Place → Place → AliasingEffect
  Create : Place → ValueKind → ℕ → AliasingEffect
  CreateFrom ImmutableCapture : Place → Place → AliasingEffect
  CreateFunction : List Place → ℕ → Place → AliasingEffect
  MutateFrozen MutateGlobal Impure : Place → AliasingDiagnostic → AliasingEffect
  Render : Place → AliasingEffect

-- "code (order of `AliasingEffect`, Freeze 0, Apply 12, Render 17)"
abbrev pub code_of : AliasingEffect → ℕ
code_of (Freeze p r) = 0
code_of (Mutate p r) = 1
code_of (MutateConditionally p) = 2
code_of (MutateTransitive p) = 3
code_of (MutateTransitiveConditionally p) = 4
code_of (Capture f i) = 5
code_of (Alias f i) = 6
code_of (MaybeAlias f i) = 7
code_of (Assign f i) = 8
code_of (Create i k r) = 9
code_of (CreateFrom f i) = 10
code_of (ImmutableCapture f i) = 11
code_of (CreateFunction cs f i) = 13
code_of (MutateFrozen p d) = 14
code_of (MutateGlobal p d) = 15
code_of (Impure p d) = 16
code_of (Render p) = 17
