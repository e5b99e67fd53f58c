-- What the code of the freeze walk looks for in the lists, and what it leaves of them. Assumes nothing: these are definitions.
use Rattle.std.specs.Prelude.{ℕ, ◌≤◌, ◌≡◌, List, Option, None}
use Rattle.base_tests.specs.Tests.{ite, is_some}
use Rattle.lent_sets.specs.Rows.{set_at}
use Rattle.lent_members.specs.Members.{member_from}
use Rattle.lent_world.specs.declared.World.{World as Lent}

-- the lowest value of a place from a number on, if there is one
-- a place that is not defined has none
unfoldable pub value_from : List ℕ → ℕ → ℕ → Option ℕ
value_from ss i from = ite (is_some (set_at ss i)) (member_from ss i from) None

-- a walk leaves sets and context; the count of a Freeze never falls
-- "the freeze walk calls itself; the entries still allowed fall"
pub record Walked (v w : Lent) : Type 0 where
  pub sets : w.sets.now ≡ v.sets.now
  pub context : w.context.now ≡ v.context.now
  pub grows : v.run.freeze ≤ w.run.freeze
