-- Laws by which the code of a mutation's answer meets its definition. Assumes nothing.
use Rattle.std.specs.Prelude.{◌≡◌, Bool}
use Rattle.std.proofs.Common.{sym, ap, ◌∙◌}
use Rattle.def_kinds.specs.declared.ValueKind.{ValueKind}
use Rattle.def_effects.specs.declared.MutationResult.{MutationResult}
use Rattle.def_effects.specs.Mutation.{result_of}

-- strict or conditional
pub result_strict : (b : Bool) (kind : ValueKind) (r : MutationResult) (c : Bool) → b ≡ c → r ≡ result_of c kind → r ≡ result_of b kind
result_strict b kind r c t e = e ∙ ap (λ (x : Bool). result_of x kind) (sym t)
