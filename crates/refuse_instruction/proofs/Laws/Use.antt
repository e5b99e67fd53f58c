-- What an effect of each code uses: the ways through the code's tests, by one computed test of the table each. Assumes nothing.
use Rattle.std.specs.Prelude.{ℕ, ◌≤◌, ◌<◌, ◌≡◌, refl, false, not, List, [], eqb, ltb, get_or}
use Rattle.std.proofs.Common.{sym, ap, ◌∙◌, ⊎_elim, arith, eqb-true}
use Rattle.std.proofs.Math.ListN.{get_or-eq_default}
use Rattle.base_tests.proofs.Laws.Bool.{not-false}
use Rattle.base_tests.proofs.Laws.Order.{lt_or_ge}
use Rattle.base_tests.specs.Tests.{ite, any_below}
use Rattle.base_tests.proofs.Laws.Choice.{ite_lt, ite_ge, ite_eq, ite_ne}
use Rattle.base_tests.proofs.Laws.Below.{any_at}
use Rattle.refuse_instruction.specs.EffectClasses.{used_parts, uses}

-- nothing is used past the last code
pub uses_past : (code j : ℕ) → 18 ≤ code → 0 ≡ uses code j
unfolding uses used_parts
uses_past code j h = sym (ap (λ (r : List ℕ). get_or r j 0) (get_or-eq_default used_parts [] h) ∙ get_or-eq_default [] 0 {n = j} (omega arith))

-- a rule that the table was computed to follow tells what a code uses
rule : (j : ℕ) (b : ℕ → ℕ) → any_below 18 (λ k. not (eqb (uses k j) (b k))) ≡ false → (code : ℕ) → code < 18 → b code ≡ uses code j
rule j b t code l = sym (eqb-true (uses code j) (b code) (not-false (eqb (uses code j) (b code)) (any_at 18 (λ k. not (eqb (uses k j) (b k))) t code l)))

-- ---- a place that is no destination

-- the rule of places
abbrev by_place : ℕ → ℕ
by_place k = ite (eqb k 9) 0 (ite (eqb k 12) 0 (ite (eqb k 13) 0 1))

-- the table follows it
table_place : any_below 18 (λ k. not (eqb (uses k 0) (by_place k))) ≡ false
unfolding any_below uses used_parts
table_place = refl

-- Create has no place that is no destination
pub place_create : (code : ℕ) → code ≡ 9 → 0 ≡ uses code 0
unfolding uses used_parts
place_create code e = sym (ap (λ (k : ℕ). uses k 0) e)

-- an Apply uses none
pub place_apply : (code : ℕ) → code ≡ 12 → 0 ≡ uses code 0
unfolding uses used_parts
place_apply code e = sym (ap (λ (k : ℕ). uses k 0) e)

-- CreateFunction has none
pub place_function : (code : ℕ) → code ≡ 13 → 0 ≡ uses code 0
unfolding uses used_parts
place_function code e = sym (ap (λ (k : ℕ). uses k 0) e)

-- any other code has one
pub place_other : (code : ℕ) → code < 18 → (code ≡ 9 → ⊥) → (code ≡ 12 → ⊥) → (code ≡ 13 → ⊥) → 1 ≡ uses code 0
place_other code l a b c =
    sym (ite_ne code 9 0 (ite (eqb code 12) 0 (ite (eqb code 13) 0 1)) a ∙ ite_ne code 12 0 (ite (eqb code 13) 0 1) b ∙ ite_ne code 13 0 1 c)
    ∙ rule 0 by_place table_place code l

-- ---- a destination

-- the rule of destinations
abbrev by_destination : ℕ → ℕ
by_destination k = ite (ltb k 5) 0 (ite (eqb k 12) 0 (ite (ltb 13 k) 0 1))

-- the table follows it
table_destination : any_below 18 (λ k. not (eqb (uses k 1) (by_destination k))) ≡ false
unfolding any_below uses used_parts
table_destination = refl

-- the codes before Capture have none
pub destination_before : (code : ℕ) → code < 5 → 0 ≡ uses code 1
destination_before code l = sym (ite_lt code 5 0 (ite (eqb code 12) 0 (ite (ltb 13 code) 0 1)) l) ∙ rule 1 by_destination table_destination code (omega arith)

-- an Apply uses none
pub destination_apply : (code : ℕ) → code ≡ 12 → 0 ≡ uses code 1
unfolding uses used_parts
destination_apply code e = sym (ap (λ (k : ℕ). uses k 1) e)

-- the codes after CreateFunction have none
pub destination_after : (code : ℕ) → 13 < code → 0 ≡ uses code 1
destination_after code h =
    ⊎_elim
    (λ l.
    sym (ite_ge code 5 0 (ite (eqb code 12) 0 (ite (ltb 13 code) 0 1)) (omega arith) ∙ ite_ne code 12 0 (ite (ltb 13 code) 0 1) (λ e. omega arith) ∙ ite_lt 13 code 0 1 h)
    ∙ rule 1 by_destination table_destination code l)
    (λ l. uses_past code 1 l)
    (lt_or_ge code 18)

-- the others have one
pub destination_other : (code : ℕ) → 5 ≤ code → (code ≡ 12 → ⊥) → code ≤ 13 → 1 ≡ uses code 1
destination_other code a b c =
    sym (ite_ge code 5 0 (ite (eqb code 12) 0 (ite (ltb 13 code) 0 1)) a ∙ ite_ne code 12 0 (ite (ltb 13 code) 0 1) b ∙ ite_ge 13 code 0 1 c)
    ∙ rule 1 by_destination table_destination code (omega arith)

-- ---- a reason

-- the rule of reasons
abbrev by_reason : ℕ → ℕ
by_reason k = ite (eqb k 0) 1 (ite (eqb k 9) 1 0)

-- the table follows it
table_reason : any_below 18 (λ k. not (eqb (uses k 3) (by_reason k))) ≡ false
unfolding any_below uses used_parts
table_reason = refl

-- Freeze has one
pub reason_freeze : (code : ℕ) → code ≡ 0 → 1 ≡ uses code 3
unfolding uses used_parts
reason_freeze code e = sym (ap (λ (k : ℕ). uses k 3) e)

-- Create has one
pub reason_create : (code : ℕ) → code ≡ 9 → 1 ≡ uses code 3
unfolding uses used_parts
reason_create code e = sym (ap (λ (k : ℕ). uses k 3) e)

-- no other has one
pub reason_other : (code : ℕ) → (code ≡ 0 → ⊥) → (code ≡ 9 → ⊥) → 0 ≡ uses code 3
reason_other code a b =
    ⊎_elim
    (λ l. sym (ite_ne code 0 1 (ite (eqb code 9) 1 0) a ∙ ite_ne code 9 1 0 b) ∙ rule 3 by_reason table_reason code l)
    (λ l. uses_past code 3 l)
    (lt_or_ge code 18)

-- ---- a diagnostic

-- the rule of diagnostics
abbrev by_diagnostic : ℕ → ℕ
by_diagnostic k = ite (ltb k 14) 0 (ite (ltb 16 k) 0 1)

-- the table follows it
table_diagnostic : any_below 18 (λ k. not (eqb (uses k 6) (by_diagnostic k))) ≡ false
unfolding any_below uses used_parts
table_diagnostic = refl

-- the codes before MutateFrozen have none
pub diagnostic_before : (code : ℕ) → code < 14 → 0 ≡ uses code 6
diagnostic_before code l = sym (ite_lt code 14 0 (ite (ltb 16 code) 0 1) l) ∙ rule 6 by_diagnostic table_diagnostic code (omega arith)

-- the codes after Impure have none
pub diagnostic_after : (code : ℕ) → 16 < code → 0 ≡ uses code 6
diagnostic_after code h =
    ⊎_elim
    (λ l. sym (ite_ge code 14 0 (ite (ltb 16 code) 0 1) (omega arith) ∙ ite_lt 16 code 0 1 h) ∙ rule 6 by_diagnostic table_diagnostic code l)
    (λ l. uses_past code 6 l)
    (lt_or_ge code 18)

-- the three between have one
pub diagnostic_other : (code : ℕ) → 14 ≤ code → code ≤ 16 → 1 ≡ uses code 6
diagnostic_other code a b =
    sym (ite_ge code 14 0 (ite (ltb 16 code) 0 1) a ∙ ite_ge 16 code 0 1 b) ∙ rule 6 by_diagnostic table_diagnostic code (omega arith)

-- ---- parts of one effect alone

-- the rule of one code
abbrev pub only : ℕ → ℕ → ℕ
only one k = ite (eqb k one) 1 0

-- the rule holds of every code where it does of eighteen
only_rule : (j one : ℕ) → one < 18 → any_below 18 (λ k. not (eqb (uses k j) (only one k))) ≡ false → (code : ℕ) → only one code ≡ uses code j
only_rule j one o t code =
    ⊎_elim
    (λ l. rule j (only one) t code l)
    (λ l. ite_ne code one 1 0 (λ e. omega arith) ∙ uses_past code j l)
    (lt_or_ge code 18)

-- the table gives kinds to Create
table_kind : any_below 18 (λ k. not (eqb (uses k 2) (only 9 k))) ≡ false
unfolding any_below uses used_parts
table_kind = refl

-- kinds: Create
pub only_kind : (code : ℕ) → only 9 code ≡ uses code 2
only_kind code = only_rule 2 9 (omega arith) table_kind code

-- the table gives mutation reasons to Mutate
table_mutation : any_below 18 (λ k. not (eqb (uses k 4) (only 1 k))) ≡ false
unfolding any_below uses used_parts
table_mutation = refl

-- mutation reasons: Mutate
pub only_mutation : (code : ℕ) → only 1 code ≡ uses code 4
only_mutation code = only_rule 4 1 (omega arith) table_mutation code

-- the table gives functions to CreateFunction
table_function : any_below 18 (λ k. not (eqb (uses k 5) (only 13 k))) ≡ false
unfolding any_below uses used_parts
table_function = refl

-- functions: CreateFunction
pub only_function : (code : ℕ) → only 13 code ≡ uses code 5
only_function code = only_rule 5 13 (omega arith) table_function code

-- the table gives captures to CreateFunction
table_captures : any_below 18 (λ k. not (eqb (uses k 7) (only 13 k))) ≡ false
unfolding any_below uses used_parts
table_captures = refl

-- captures: CreateFunction
pub only_captures : (code : ℕ) → only 13 code ≡ uses code 7
only_captures code = only_rule 7 13 (omega arith) table_captures code

-- a CreateFunction has captures
pub captures_function : (code : ℕ) → code ≡ 13 → uses code 7 ≡ 1
captures_function code e = sym (only_captures code) ∙ ite_eq code 13 1 0 e

-- no other effect has any
pub no_captures : (code : ℕ) → (code ≡ 13 → ⊥) → uses code 7 ≡ 0
no_captures code n = sym (only_captures code) ∙ ite_ne code 13 1 0 n
