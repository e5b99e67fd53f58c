-- Reasons and their sets (document 01, module 1). Assumes nothing: these are definitions.
use Rattle.std.specs.Prelude.{ℕ, suc, ◌^◌, ◌/◌, ◌%◌, Bool, true, false, List, [], ◌∷◌, eqb, ltb, get_or}
use Rattle.std.specs.Int.Bits.{bit_or}

-- "Reasons 0..11": how many there are, in this one place
abbrev pub reason_count : ℕ
reason_count = 12

abbrev pub KnownReturnSignature : ℕ
KnownReturnSignature = 0

abbrev pub State : ℕ
State = 1

abbrev pub ReducerState : ℕ
ReducerState = 2

abbrev pub Context : ℕ
Context = 3

abbrev pub Effect : ℕ
Effect = 4

abbrev pub HookCaptured : ℕ
HookCaptured = 5

abbrev pub HookReturn : ℕ
HookReturn = 6

abbrev pub Global : ℕ
Global = 7

abbrev pub JsxCaptured : ℕ
JsxCaptured = 8

abbrev pub StoreLocal : ℕ
StoreLocal = 9

abbrev pub ReactiveFunctionArgument : ℕ
ReactiveFunctionArgument = 10

abbrev pub Other : ℕ
Other = 11

-- "bit n is reason n": a reason is a number below their count, a set a word of that many bits
unfoldable pub is_reason : ℕ → Bool
is_reason r = ltb r reason_count

unfoldable pub are_reasons : ℕ → Bool
are_reasons s = ltb s (2 ^ reason_count)

-- the set of one reason, and whether a set has it; a set is a word of 32 bits, so there is no reason past bit 31
abbrev pub single : ℕ → ℕ
single r = 2 ^ r % 4294967296

unfoldable pub has_reason : ℕ → ℕ → Bool
has_reason s r = eqb (s / 2 ^ r % 2) 1

-- "reasons by union"
abbrev pub join_reasons : ℕ → ℕ → ℕ
join_reasons s t = bit_or s t

-- the first reason of a list that a set has: its place in the list, or the list's length
unfoldable pub first_in : List ℕ → ℕ → ℕ
first_in [] s = 0
first_in (r ∷ rs) s = elim (has_reason s r) [ true ↦ 0 | false ↦ suc (first_in rs s) ]

-- the reasons in the order of their numbers but Other, which comes last (`primary_reason`)
abbrev pub in_order : List ℕ
in_order = KnownReturnSignature ∷ State ∷ ReducerState ∷ Context ∷ Effect ∷ HookCaptured ∷ HookReturn ∷ Global ∷ JsxCaptured ∷ StoreLocal ∷ ReactiveFunctionArgument ∷ []

unfoldable pub primary_reason : ℕ → ℕ
primary_reason s = get_or in_order (first_in in_order s) Other

-- "one per distinct sentence of `get_write_error_reason`, from 0 in the order of its text": the reasons that it asks for, in turn; 10 where a set has none
abbrev pub in_sentence_order : List ℕ
in_sentence_order = Global ∷ JsxCaptured ∷ Context ∷ KnownReturnSignature ∷ ReactiveFunctionArgument ∷ State ∷ ReducerState ∷ Effect ∷ HookCaptured ∷ HookReturn ∷ []

unfoldable pub get_write_error_reason : ℕ → ℕ
get_write_error_reason s = first_in in_sentence_order s
