-- The next member of a row, and the members that an iterator over them has still to give. Assumes nothing: these are definitions.
use Rattle.std.specs.Prelude.{List, ℕ, ltb, Option, None, Some}
use Rattle.base_tests.specs.Tests.{ite}
use Rattle.lent_sets.specs.Rows.{next_member, row_number, left}
use Rattle.lent_members.specs.declared.MemberIter.{MemberIter}

-- the lowest member of row i from a place on, if there is one
-- no member is 1,024 or more
unfoldable pub member_from : List ℕ → ℕ → ℕ → Option ℕ
member_from rows i from = ite (ltb (next_member rows i from) 1024) (Some (next_member rows i from)) None

-- what an iterator has still to give: the members of its row from the place on where it looks for the next
abbrev pub rest : MemberIter → List ℕ
rest m = left (row_number m.rows.now m.i) m.from
