-- What a public call on two lent states comes to: a refusal that leaves all as it was, or the merge and the order of states on the lent lists.
-- Assumes nothing: these are definitions.
use Rattle.std.specs.Prelude.{ℕ, zero, suc, Bool, true, false, List, eqb, length, Option, None, Some, Result, Ok, Err}
use Rattle.base_tests.specs.Tests.{ite}
use Rattle.def_effects.specs.declared.Session.{Session}
use Rattle.def_transfer.specs.Monad.{Done}
use Rattle.def_transfer.specs.Merge.{above, adds, clear_access}
use Rattle.refuse_class.specs.Class.{lower}
use Rattle.def_refusals.specs.declared.Refusal.{Refusal}
use Rattle.def_refusals.specs.Verdicts.{number_of}
use Rattle.refuse_entries.specs.Words.{state_refusal, entries}
use Rattle.state_adds.specs.Lists.{merge_values, merge_sets, rows_of, merged_values, merged_sets}
use Rattle.state_calls.specs.Calls.{Outcome}
use Rattle.state_pairs.specs.declared.SessionAnswer.{SessionAnswer}

-- ---- refusals of a call on two states

-- 1 where a length is another than it must be, else 0
-- "1: a lent slice or image has the wrong length"
unfoldable pub wrong_length : ℕ → ℕ → ℕ
wrong_length m n = ite (eqb m n) 0 1

-- two states, each a list of values and one of sets, with their session: what either earns, and 1 where their sets differ in length
-- "a state is accepted if nothing in it earns 1 to 4"; two states that are compared or merged have the same identifiers
unfoldable pub pair_refusal : List ℕ → List ℕ → List ℕ → List ℕ → Session → ℕ
pair_refusal vs ss ws ts s =
    lower (wrong_length (length ts) (length ss))
    (lower (state_refusal vs ss s.next s.access) (state_refusal ws ts s.next s.access))

-- the third state of a merge into it, beside the sets of the first: 1 where it has another length
-- "`merge` writes a third lent state": it is only written, so what it holds earns nothing
unfoldable pub third_refusal : List ℕ → List ℕ → List ℕ → ℕ
third_refusal ss vc sc = lower (wrong_length (length vc) 1024) (wrong_length (length sc) (length ss))

-- ---- refused, or done

-- what is kept at a refusal, by its number; at 0 what is done
-- "untouched by a refusal": refused before anything is done
unfoldable pub refusing : {A : Type 0} → ℕ → (ℕ → A) → A → A
refusing zero kept does = does
refusing (suc n) kept does = kept (suc n)

-- ---- what each call says: 0 or a refusal, and its answer

-- whether the first state is above or equal to the second
pub record Compared : Type 0 where
  pub refusal : ℕ
  pub answer : Bool

-- whether the second state adds to the first, and the function-expression flag of the third
pub record Merged : Type 0 where
  pub refusal : ℕ
  pub answer : Bool
  pub flag : Bool

-- the session after the call, and the function-expression flag of the first state
pub record Joined : Type 0 where
  pub refusal : ℕ
  pub session : Session
  pub flag : Bool

-- what the Result of each call says: with a refusal its number, the answer no, and the session and the flag as they were lent
abbrev pub above_said : Result Bool Refusal → Compared
above_said (Ok b) = record { refusal = 0; answer = b }
above_said (Err r) = record { refusal = number_of r; answer = false }

-- a third state that is merged comes with its flag; one that is empty has none, so its flag is no
abbrev pub merge_said : Result (Option Bool) Refusal → Merged
merge_said (Ok (Some flag)) = record { refusal = 0; answer = true; flag = flag }
merge_said (Ok None) = record { refusal = 0; answer = false; flag = false }
merge_said (Err r) = record { refusal = number_of r; answer = false; flag = false }

abbrev pub from_said : Session → Bool → Result SessionAnswer Refusal → Joined
from_said s left (Ok a) = record { refusal = 0; session = a.session; flag = a.flag }
from_said s left (Err r) = record { refusal = number_of r; session = s; flag = left }

-- ---- the calls

-- whether the first state is above or equal to the second; nothing is written
-- "one state is above or equal to another if it has each value entry and each defined identifier of the other, .."; flag and first access don't count
unfoldable pub is_above : List ℕ → List ℕ → List ℕ → List ℕ → Session → Compared
is_above vs ss ws ts s =
    refusing (pair_refusal vs ss ws ts s) (λ n. record { refusal = n; answer = false })
    (record { refusal = 0; answer = above (entries vs ss) (entries ws ts) })

-- the third state after a merge of the first two into it, with the answer whether the second adds to the first
-- "`merge` writes a third lent state, which is empty at None and untouched by a refusal; its two inputs and the session stay"
unfoldable pub merge : List ℕ → List ℕ → List ℕ → List ℕ → Session → List ℕ → List ℕ → Outcome Bool
merge vs ss ws ts s vc sc =
    refusing (lower (third_refusal ss vc sc) (pair_refusal vs ss ws ts s)) (λ n. record { refusal = n; answer = false; values = vc; sets = sc; session = s })
    (record {
      refusal = 0;
      answer = adds (entries vs ss) (entries ws ts);
      values = merged_values (adds (entries vs ss) (entries ws ts)) vc vs ws;
      sets = merged_sets (adds (entries vs ss) (entries ws ts)) sc ss ts;
      session = s;
    })

-- the first state after the second was joined onto it, in place, and the session without its access
-- "`merge_from` as in the Rust", and "as in release, the access is cleared"
unfoldable pub merge_from : List ℕ → List ℕ → List ℕ → List ℕ → Session → Outcome Done
merge_from vs ss ws ts s =
    refusing (pair_refusal vs ss ws ts s) (λ n. record { refusal = n; answer = tt; values = vs; sets = ss; session = s })
    (record { refusal = 0; answer = tt; values = merge_values vs ws; sets = merge_sets (rows_of ss) ss ts; session = clear_access s })

-- ---- the function-expression flag, which comes and goes with a call, beside the lent lists

-- the flag of the left state with the right one merged into it, by their flags
-- "a merge keeps the left function-expression flag"
unfoldable pub kept_flag : Bool → Bool → Bool
kept_flag left right = left

-- the flag of the third state, by whether the second adds to the first: the one that a merge keeps, else no
-- "which is empty at None": an empty state's flag is no
unfoldable pub merged_flag : Bool → Bool → Bool → Bool
merged_flag adds left right = ite adds (kept_flag left right) false

-- what merge says, by the flags of the two states: a refusal answers no, so its flag is no
-- its lists are the lent ones, and the session stays
abbrev pub merge_answer : Bool → Bool → Outcome Bool → Merged
merge_answer left right o = record { refusal = o.refusal; answer = o.answer; flag = merged_flag o.answer left right }

-- what merge_from says, by the flags of the two states: refused or not, the left flag is kept
abbrev pub session_answer : Bool → Bool → Outcome Done → Joined
session_answer left right o = record { refusal = o.refusal; session = o.session; flag = kept_flag left right }
