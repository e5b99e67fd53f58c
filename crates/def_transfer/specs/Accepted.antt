-- "A state is accepted if nothing in it earns 1 to 4." Its entries against the identifiers in the list and the session's next number.
-- (A length, refusal 1, is a matter of how a state is lent.) Assumes nothing: these are definitions.
use Rattle.std.specs.Prelude.{ℕ, ◌+◌, Bool, false, not, ◌&&◌, ◌||◌, leb, ltb, Option, None, Some}
use Rattle.base_sets.specs.Members.{members}
use Rattle.def_kinds.specs.declared.AbstractValue.{AbstractValue}
use Rattle.def_kinds.specs.Reasons.{are_reasons}
use Rattle.def_transfer.specs.Merge.{Entries}
use Rattle.base_tests.specs.Tests.{any_below, any_of}

-- 3: no value number (1..1023), or 512 + i where identifier i is not in the list
unfoldable pub not_anumber : ℕ → ℕ → Bool
not_anumber identifiers v = not (leb 1 v) || not (ltb v (512 + identifiers))

-- 4: "a fresh number not below next"
unfoldable pub not_yet_handed_out : ℕ → ℕ → Bool
not_yet_handed_out next v = ltb v 512 && not (ltb v next)

-- 3: a value entry at no value number, or with a reason bit out of range
unfoldable pub value_out_of_range : ℕ → ℕ → Option AbstractValue → Bool
value_out_of_range identifiers v None = false
value_out_of_range identifiers v (Some a) = not_anumber identifiers v || not (are_reasons a.reason)

-- 3: a set at an identifier that is not in the list, or with a member that is no value number
unfoldable pub set_out_of_range : ℕ → ℕ → Option ℕ → Bool
set_out_of_range identifiers i None = false
set_out_of_range identifiers i (Some s) = not (ltb i identifiers) || any_of (not_anumber identifiers) (members s)

-- 4: an entry at, or a member that is, a number not handed out yet
unfoldable pub value_too_new : ℕ → ℕ → Option AbstractValue → Bool
value_too_new next v None = false
value_too_new next v (Some a) = not_yet_handed_out next v

unfoldable pub set_too_new : ℕ → Option ℕ → Bool
set_too_new next None = false
set_too_new next (Some s) = any_of (not_yet_handed_out next) (members s)

unfoldable pub earns3 : ℕ → Entries → Bool
earns3 identifiers s = any_below 1024 (λ v. value_out_of_range identifiers v (s.value v)) || any_below 512 (λ i. set_out_of_range identifiers i (s.set i))

unfoldable pub earns4 : ℕ → Entries → Bool
earns4 next s = any_below 1024 (λ v. value_too_new next v (s.value v)) || any_below 512 (λ i. set_too_new next (s.set i))

unfoldable pub accepted : ℕ → ℕ → Entries → Bool
accepted identifiers next s = not (earns3 identifiers s) && not (earns4 next s)
