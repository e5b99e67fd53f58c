-- Whether a diagnostic of a context repeats one before it (document 01, 'Refused calls': "two entries of one key"). Assumes nothing: these are definitions.
use Rattle.std.specs.Prelude.{ℕ, Bool, not, ◌||◌, List, eqb, Option, None, Some}
use Rattle.def_effects.specs.declared.Diagnostic.{Diagnostic}
use Rattle.base_tests.specs.Tests.{is_some}
use Rattle.def_transfer.specs.Pure.{identities, find_identity, find_instance}
use Rattle.lent_layout.specs.declared.Numbered.{Numbered}
use Rattle.lent_context.specs.Lent.{diagnostic_in, diagnostics_in}

-- a number that may be absent, or another
-- the identity of an equal message, or the next
abbrev pub number_or : ℕ → Option ℕ → ℕ
number_or d None = d
number_or d (Some n) = n

-- the identity that a diagnostic has to have after the first n: that of the first equal message, else the next
-- "Sharing of numbers follows `intern_aliasing_diagnostic`"
unfoldable pub right_identity : List Numbered → ℕ → Diagnostic → ℕ
right_identity c n d = number_or (identities (diagnostics_in c 0 n)) (find_identity (diagnostics_in c 0 n) d)

-- another identity, or an equal record before it
-- wrong order, or two entries of one key
unfoldable pub diagnostic_twice : List Numbered → ℕ → Bool
diagnostic_twice c k =
    not (eqb (diagnostic_in c k).identity (right_identity c k (diagnostic_in c k).diagnostic))
    || is_some (find_instance 0 (diagnostics_in c 0 k) (diagnostic_in c k).identity (diagnostic_in c k).diagnostic)
