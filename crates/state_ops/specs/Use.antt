-- The session after a place was used: the first use of an undefined place is recorded. Assumes nothing: these are definitions.
use Rattle.std.specs.Prelude.{ℕ, List, eqb}
use Rattle.base_tests.specs.Tests.{ite, is_some}
use Rattle.def_effects.specs.declared.Span.{Span}
use Rattle.def_effects.specs.declared.Session.{Session}
use Rattle.lent_sets.specs.Rows.{set_at}
use Rattle.lent_work.specs.Access.{access_of}

unfoldable pub after_use : List ℕ → Session → ℕ → Span → Session
after_use ss s i span =
    ite (is_some (set_at ss i)) s
    (ite (eqb s.access 0) (record { next = s.next; access = access_of i; span = span; entries = s.entries }) s)
