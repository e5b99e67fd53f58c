-- What a mutation of a place comes to, by its variant and the place's kind (`mutate_with_span`). Assumes nothing: these are definitions.
use Rattle.std.specs.Prelude.{ℕ, Bool, true, false}
use Rattle.def_kinds.specs.declared.ValueKind.{ValueKind}
use Rattle.def_kinds.specs.declared.ValueKind.TheVariants.{Mutable, Frozen, Primitive, MaybeFrozen, Global, Context}
use Rattle.def_effects.specs.declared.MutateVariant.{MutateVariant}
use Rattle.def_effects.specs.declared.MutateVariant.TheVariants as Variant
use Rattle.def_effects.specs.declared.MutationResult.{MutationResult}
use Rattle.def_effects.specs.declared.MutationResult.TheVariants as Result

-- the variants that are not conditional
abbrev pub is_strict : MutateVariant → Bool
is_strict Variant.Mutate = true
is_strict Variant.MutateConditionally = false
is_strict Variant.MutateTransitive = true
is_strict Variant.MutateTransitiveConditionally = false

-- a conditional mutation of what cannot be written is none
unfoldable pub result_of : Bool → ValueKind → MutationResult
result_of strict Mutable = Result.Mutate
result_of strict Context = Result.Mutate
result_of strict Primitive = Result.None
result_of true Frozen = Result.MutateFrozen
result_of true MaybeFrozen = Result.MutateFrozen
result_of true Global = Result.MutateGlobal
result_of false Frozen = Result.None
result_of false MaybeFrozen = Result.None
result_of false Global = Result.None

-- the answer's number: 0 None, 1 Mutate, 2 MutateFrozen, 3 MutateGlobal, 4 MutateRef
abbrev pub result_code : MutationResult → ℕ
result_code Result.None = 0
result_code Result.Mutate = 1
result_code Result.MutateFrozen = 2
result_code Result.MutateGlobal = 3
result_code Result.MutateRef = 4
