-- What a cached key of each code uses: the ways through the code's tests. Assumes nothing.
use Rattle.std.specs.Prelude.{ℕ, ◌≡◌, ◌||◌}
use Rattle.std.proofs.Math.Path.{sym}
use Rattle.std.proofs.Common.{ap, ◌∙◌, ⊎_elim, arith, ne_eqb}
use mathlib.Core.List.{List, [], ◌∷◌}
use Rattle.std.proofs.Math.Dec.{eqb}
use Rattle.std.proofs.Math.ListN.{get_or, get_or-eq_default}
use Rattle.base_tests.proofs.Laws.Order.{same_or_not}
use Rattle.base_tests.specs.Tests.{ite}
use Rattle.base_tests.proofs.Laws.Choice.{ite_eq, ite_ne, ite_no}
use Rattle.base_tests.proofs.Laws.Bool.{or_neither}
use Rattle.refuse_instruction.proofs.Laws.Use.{only}
use Rattle.refuse_tables.specs.TableClasses.{key_parts, key_uses}

-- ---- what a key uses

-- the parts of the key of Create, of CreateFunction, and of the three with a source
module _ (code j : ℕ) where
  -- what the key of Create uses
  pub key_create : code ≡ 9 → get_or (0 ∷ 1 ∷ 1 ∷ 0 ∷ []) j 0 ≡ key_uses code j
  unfolding key_uses key_parts
  key_create e = sym (ap (λ (k : ℕ). key_uses k j) e)

  -- what the key of CreateFunction uses
  pub key_function : code ≡ 13 → get_or (0 ∷ 1 ∷ 0 ∷ 1 ∷ []) j 0 ≡ key_uses code j
  unfolding key_uses key_parts
  key_function e = sym (ap (λ (k : ℕ). key_uses k j) e)

  -- what the key of CreateFrom uses
  pub key_from : code ≡ 10 → get_or (1 ∷ 1 ∷ 0 ∷ 0 ∷ []) j 0 ≡ key_uses code j
  unfolding key_uses key_parts
  key_from e = sym (ap (λ (k : ℕ). key_uses k j) e)

  -- what the first key of Assign uses
  pub key_assign : code ≡ 18 → get_or (1 ∷ 1 ∷ 0 ∷ 0 ∷ []) j 0 ≡ key_uses code j
  unfolding key_uses key_parts
  key_assign e = sym (ap (λ (k : ℕ). key_uses k j) e)

  -- what the second key of Assign uses
  pub key_assign_primitive : code ≡ 19 → get_or (1 ∷ 1 ∷ 0 ∷ 0 ∷ []) j 0 ≡ key_uses code j
  unfolding key_uses key_parts
  key_assign_primitive e = sym (ap (λ (k : ℕ). key_uses k j) e)

  -- any other code is not cached
  key_other : (code ≡ 9 → ⊥) → (code ≡ 13 → ⊥) → (code ≡ 10 → ⊥) → (code ≡ 18 → ⊥) → (code ≡ 19 → ⊥) → 0 ≡ key_uses code j
  unfolding key_uses key_parts
  key_other a b c d e =
      sym (ap (λ (r : List ℕ). get_or r j 0)
      (ite_ne code 9 (0 ∷ 1 ∷ 1 ∷ 0 ∷ []) (ite (eqb code 13) (0 ∷ 1 ∷ 0 ∷ 1 ∷ []) (ite (eqb code 10 || (eqb code 18 || eqb code 19)) (1 ∷ 1 ∷ 0 ∷ 0 ∷ []) [])) a
      ∙ ite_ne code 13 (0 ∷ 1 ∷ 0 ∷ 1 ∷ []) (ite (eqb code 10 || (eqb code 18 || eqb code 19)) (1 ∷ 1 ∷ 0 ∷ 0 ∷ []) []) b
      ∙ ite_no (eqb code 10 || (eqb code 18 || eqb code 19)) (1 ∷ 1 ∷ 0 ∷ 0 ∷ []) []
      (or_neither (eqb code 10) (eqb code 18 || eqb code 19) (ne_eqb code 10 c) (or_neither (eqb code 18) (eqb code 19) (ne_eqb code 18 d) (ne_eqb code 19 e))))
      ∙ get_or-eq_default [] 0 {n = j} (omega arith))

-- kinds and reasons belong to Create
pub only_kind : (code : ℕ) → only 9 code ≡ key_uses code 2
only_kind code =
    ⊎_elim (λ e. ite_eq code 9 1 0 e ∙ key_create code 2 e)
    (λ a. ite_ne code 9 1 0 a
    ∙ ⊎_elim (key_from code 2) (λ c. ⊎_elim (key_assign code 2) (λ d. ⊎_elim (key_assign_primitive code 2) (λ e. ⊎_elim (key_function code 2) (λ b. key_other code 2 a b c d e) (same_or_not code 13)) (same_or_not code 19)) (same_or_not code 18)) (same_or_not code 10))
    (same_or_not code 9)

-- functions and captures belong to CreateFunction
pub only_function : (code : ℕ) → only 13 code ≡ key_uses code 3
only_function code =
    ⊎_elim (λ e. ite_eq code 13 1 0 e ∙ key_function code 3 e)
    (λ b. ite_ne code 13 1 0 b
    ∙ ⊎_elim (key_from code 3) (λ c. ⊎_elim (key_assign code 3) (λ d. ⊎_elim (key_assign_primitive code 3) (λ e. ⊎_elim (key_create code 3) (λ a. key_other code 3 a b c d e) (same_or_not code 9)) (same_or_not code 19)) (same_or_not code 18)) (same_or_not code 10))
    (same_or_not code 13)

-- a CreateFunction has a function
pub key_has_function : (code : ℕ) → code ≡ 13 → key_uses code 3 ≡ 1
key_has_function code e = sym (only_function code) ∙ ite_eq code 13 1 0 e

-- no other key has one
pub key_no_function : (code : ℕ) → (code ≡ 13 → ⊥) → key_uses code 3 ≡ 0
key_no_function code n = sym (only_function code) ∙ ite_ne code 13 1 0 n
