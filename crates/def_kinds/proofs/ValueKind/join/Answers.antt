use mathlib.Core.Path.{ap₂, ◌∙◌}
use Prim.Native.Nat.{ℕ}
use Rattle.std.specs.Prelude.{get_or, []}
use Rattle.def_kinds.specs.Kinds.{kind_at, join_table, join_kind}
use Rattle.def_kinds.proofs.ValueKind.join.Goals as goal

pub returns : goal.returns
unfolding join_kind join_table
returns c = c.of_code.ensures ∙ ap₂ (λ (m n : ℕ). kind_at (get_or (get_or join_table m []) n 0)) c.code.ensures c.code-2.ensures
