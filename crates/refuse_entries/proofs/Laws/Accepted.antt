-- A state that the test of words does not refuse is one that the definition accepts, and each refusal has its cause. Assumes nothing.
use Rattle.std.specs.Prelude.{◌≡◌, refl, Bool, true, false, not, ◌||◌, ◌⊎◌, List, ℕ, ◌+◌, ◌*◌, ◌/◌, ◌%◌, ◌≤◌, ◌<◌, T, eqb, leb, ltb, length, get_or, Option, None, Some}
use Rattle.std.proofs.Common.{sym, ◌∙◌, inl, inr, mod-eq_of_lt, arith}
use Rattle.std.proofs.Math.Path.{ap}
use Rattle.std.proofs.Math.Logic.{⊎_elim}
use Rattle.std.proofs.Math.ListN.{get_or-eq_default}
use borrow.Author.Tests.{leb-true, lt-ltb, not-false}
use Rattle.base_tests.proofs.Laws.Bool.{both, or_no_first, or_no_second, or_neither, and_first, passes}
use Rattle.def_kinds.specs.Reasons.{are_reasons}
use Rattle.base_tests.specs.Tests.{any_below, any_of, ite, is_some}
use Rattle.def_transfer.specs.Accepted.{not_anumber, not_yet_handed_out, value_out_of_range, set_out_of_range, value_too_new, set_too_new, earns3, earns4, accepted}
use Rattle.lent_values.specs.Cells.{cell_of, value_at}
use Rattle.lent_values.proofs.Laws.Cell.{cell_absent, cell_present}
use Rattle.lent_sets.specs.Rows.{row_number, marked, set_at}
use Rattle.base_sets.specs.Members.{values_of}
use Rattle.base_tests.proofs.Laws.Order.{lt_or_ge, same_or_not}
use Rattle.lent_sets.proofs.Laws.Number.{number_none}
use Rattle.refuse_entries.specs.Words.{has_entry, word_out_of_range, word_unfit, row_out_of_range, row_too_new, row_unfit, next_out_of_range, access_out_of_range, identifiers, wrong_lengths, values_out_of_range, rows_out_of_range, values_unfit, rows_unfit, state_out_of_range, state_unfit, state_refusal, entries}
use Rattle.base_tests.proofs.Laws.Below.{any_no, any_at}
use Rattle.refuse_entries.proofs.Laws.Word.{reasons_lt, entry_yes, unfit_entry}
use Rattle.refuse_entries.proofs.Laws.State.{lengths_fit}

-- ---- a word and its entry

-- a word that is not out of range has an entry that is not
value_in_range : (n v x : ℕ) → word_out_of_range n v x ≡ false → value_out_of_range n v (cell_of x) ≡ false
unfolding word_out_of_range value_out_of_range
value_in_range n v x h = ⊎_elim
    (λ e. ap (value_out_of_range n v) (cell_absent x e))
    (λ e. ap (value_out_of_range n v) (cell_present x e) ∙ fits (sym (and_first (has_entry x) _ (entry_yes x e)) ∙ h))
    (same_or_not (x % 8) 0)
  where
    fits : (not_anumber n v || (eqb (x % 8) 7 || not (are_reasons (x / 8)))) ≡ false → (not_anumber n v || not (are_reasons (x / 8 % 4294967296))) ≡ false
    fits q =
        let r : are_reasons (x / 8) ≡ true = not-false _ (or_no_second (eqb (x % 8) 7) _ (or_no_second (not_anumber n v) _ q)) in
        or_neither (not_anumber n v) _ (or_no_first (not_anumber n v) _ q) (ap not (ap are_reasons (mod-eq_of_lt (reasons_lt (x / 8) r)) ∙ r))

-- a word that is not unfit has an entry at a number that was handed out
value_handed_out : (next v x : ℕ) → word_unfit next v x ≡ false → value_too_new next v (cell_of x) ≡ false
unfolding value_too_new
value_handed_out next v x h = ⊎_elim
    (λ e. ap (value_too_new next v) (cell_absent x e))
    (λ e. ap (value_too_new next v) (cell_present x e) ∙ sym (unfit_entry next v x e) ∙ h)
    (same_or_not (x % 8) 0)

-- ---- a row and its set

set_in_range : (n : ℕ) (ss : List ℕ) (i : ℕ) → i < n → row_out_of_range n ss i ≡ false → set_out_of_range n i (set_at ss i) ≡ false
unfolding row_out_of_range set_out_of_range
set_in_range n ss i l h = go (set_at ss i) h
  where
    go : (o : Option ℕ) → any_of (not_anumber n) (values_of o) ≡ false → set_out_of_range n i o ≡ false
    go None e = refl
    go (Some s) e = or_neither (not (ltb i n)) _ (ap not (lt-ltb i n l)) e

set_handed_out : (next : ℕ) (ss : List ℕ) (i : ℕ) → row_unfit next ss i ≡ false → set_too_new next (set_at ss i) ≡ false
unfolding row_unfit row_too_new set_too_new
set_handed_out next ss i h = go (set_at ss i) _ h
  where
    go : (o : Option ℕ) (b : Bool) → ite (is_some o) (any_of (not_yet_handed_out next) (values_of o)) b ≡ false → set_too_new next o ≡ false
    go None b e = refl
    go (Some s) b e = e

-- past the end no identifier is defined
set_past_end : (n : ℕ) (ss : List ℕ) (i : ℕ) → length ss ≡ 16 * n → n ≤ i → set_at ss i ≡ None
unfolding set_at row_number
set_past_end n ss i e l =
    ap (λ (x : ℕ). marked (x % 2) x) (number_none 16 ss (i * 16) (λ j p. get_or-eq_default ss 0 {n = i * 16 + j} (omega arith)))

-- ---- all of them

module _ (n next : ℕ) (vs ss : List ℕ) (fits : length ss ≡ 16 * n) where
  all_in_range : values_out_of_range n vs ≡ false → rows_out_of_range n ss ≡ false → earns3 n (entries vs ss) ≡ false
  unfolding values_out_of_range rows_out_of_range earns3 value_at set_out_of_range
  all_in_range h k = or_neither (any_below 1024 (λ v. value_out_of_range n v (cell_of (get_or vs v 0)))) _
      (any_no 1024 _ (λ v l. value_in_range n v (get_or vs v 0) (any_at 1024 _ h v l)))
      (any_no 512 _ (λ i l. ⊎_elim
      (λ p. set_in_range n ss i p (any_at n _ k i p))
      (λ p. ap (set_out_of_range n i) (set_past_end n ss i fits p))
      (lt_or_ge i n)))

  all_handed_out : values_unfit next vs ≡ false → rows_unfit n next ss ≡ false → earns4 next (entries vs ss) ≡ false
  unfolding values_unfit rows_unfit earns4 value_at set_too_new
  all_handed_out h k = or_neither (any_below 1024 (λ v. value_too_new next v (cell_of (get_or vs v 0)))) _
      (any_no 1024 _ (λ v l. value_handed_out next v (get_or vs v 0) (any_at 1024 _ h v l)))
      (any_no 512 _ (λ i l. ⊎_elim
      (λ p. set_handed_out next ss i (any_at n _ k i p))
      (λ p. ap (set_too_new next) (set_past_end n ss i fits p))
      (lt_or_ge i n)))

-- ---- what each answer says

-- the class of three tests, lowest first
-- `state_refusal` is one
abbrev lowest : Bool → Bool → Bool → ℕ
lowest a b c = ite a 1 (ite b 3 (ite c 4 0))

lowest_0 : (a b c : Bool) → lowest a b c ≡ 0 → (a ≡ false) × (b ≡ false) × (c ≡ false)
lowest_0 true b c e = absurd (omega arith)
lowest_0 false true c e = absurd (omega arith)
lowest_0 false false true e = absurd (omega arith)
lowest_0 false false false e = (refl, refl, refl)

lowest_1 : (a b c : Bool) → lowest a b c ≡ 1 → a ≡ true
lowest_1 true b c e = refl
lowest_1 false true c e = absurd (omega arith)
lowest_1 false false true e = absurd (omega arith)
lowest_1 false false false e = absurd (omega arith)

lowest_3 : (a b c : Bool) → lowest a b c ≡ 3 → (a ≡ false) × (b ≡ true)
lowest_3 true b c e = absurd (omega arith)
lowest_3 false true c e = (refl, refl)
lowest_3 false false true e = absurd (omega arith)
lowest_3 false false false e = absurd (omega arith)

lowest_4 : (a b c : Bool) → lowest a b c ≡ 4 → (a ≡ false) × (b ≡ false) × (c ≡ true)
lowest_4 true b c e = absurd (omega arith)
lowest_4 false true c e = absurd (omega arith)
lowest_4 false false true e = (refl, refl, refl)
lowest_4 false false false e = absurd (omega arith)

lowest_one : (a b c : Bool) → (lowest a b c ≡ 0) ⊎ ((lowest a b c ≡ 1) ⊎ ((lowest a b c ≡ 3) ⊎ (lowest a b c ≡ 4)))
lowest_one true b c = inr (inl refl)
lowest_one false true c = inr (inr (inl refl))
lowest_one false false true = inr (inr (inr refl))
lowest_one false false false = inl refl

module _ (vs ss : List ℕ) (next access : ℕ) where
  -- no other number is answered
  pub refusal_one : (state_refusal vs ss next access ≡ 0) ⊎ ((state_refusal vs ss next access ≡ 1) ⊎ ((state_refusal vs ss next access ≡ 3) ⊎ (state_refusal vs ss next access ≡ 4)))
  unfolding state_refusal
  refusal_one = lowest_one (wrong_lengths vs ss) (state_out_of_range (identifiers ss) next access vs ss) (state_unfit (identifiers ss) next vs ss)

  -- 0: nothing earns a class
  pub refusal_0 : state_refusal vs ss next access ≡ 0 → (wrong_lengths vs ss ≡ false) × (state_out_of_range (identifiers ss) next access vs ss ≡ false) × (state_unfit (identifiers ss) next vs ss ≡ false)
  unfolding state_refusal
  refusal_0 e = lowest_0 (wrong_lengths vs ss) (state_out_of_range (identifiers ss) next access vs ss) (state_unfit (identifiers ss) next vs ss) e

  -- 1: a length is wrong
  pub refusal_1 : state_refusal vs ss next access ≡ 1 → wrong_lengths vs ss ≡ true
  unfolding state_refusal
  refusal_1 e = lowest_1 (wrong_lengths vs ss) (state_out_of_range (identifiers ss) next access vs ss) (state_unfit (identifiers ss) next vs ss) e

  -- 3: the lengths are right, and something is out of range
  pub refusal_3 : state_refusal vs ss next access ≡ 3 → (wrong_lengths vs ss ≡ false) × (state_out_of_range (identifiers ss) next access vs ss ≡ true)
  unfolding state_refusal
  refusal_3 e = lowest_3 (wrong_lengths vs ss) (state_out_of_range (identifiers ss) next access vs ss) (state_unfit (identifiers ss) next vs ss) e

  -- 4: the lengths are right, nothing is out of range, and something is unfit
  pub refusal_4 : state_refusal vs ss next access ≡ 4 → (wrong_lengths vs ss ≡ false) × (state_out_of_range (identifiers ss) next access vs ss ≡ false) × (state_unfit (identifiers ss) next vs ss ≡ true)
  unfolding state_refusal
  refusal_4 e = lowest_4 (wrong_lengths vs ss) (state_out_of_range (identifiers ss) next access vs ss) (state_unfit (identifiers ss) next vs ss) e

-- ---- a state that is not refused

-- what is known of the lists and the session then, beside that the entries are accepted
-- 16 words for each of at most 512 identifiers; a next number; an access that is none or an identifier
pub record Lent (vs ss : List ℕ) (next access : ℕ) : Type 0 where
  pub values_length : length vs ≡ 1024
  pub sets_length : length ss ≡ 16 * identifiers ss
  pub most : identifiers ss ≤ 512
  pub next_low : 1 ≤ next
  pub next_high : next ≤ 512
  pub access_most : access ≤ identifiers ss

module _ (vs ss : List ℕ) (next access : ℕ) (h : state_refusal vs ss next access ≡ 0) where
  out : state_out_of_range (identifiers ss) next access vs ss ≡ false
  out = (refusal_0 vs ss next access h).1

  unfit : state_unfit (identifiers ss) next vs ss ≡ false
  unfit = (refusal_0 vs ss next access h).2

  -- lengths and session are as they must be
  pub accepted_lent : Lent vs ss next access
  unfolding identifiers state_out_of_range next_out_of_range access_out_of_range
  accepted_lent =
      let l = lengths_fit vs ss (refusal_0 vs ss next access h).0 in
      let a = or_no_first (next_out_of_range next) _ out in
      let b = or_no_first (access_out_of_range (identifiers ss) access) _ (or_no_second (next_out_of_range next) _ out) in
      record {
        values_length = l.0;
        sets_length = l.1;
        most = omega arith;
        next_low = leb-true 1 next (not-false _ (or_no_first (not (leb 1 next)) _ a));
        next_high = leb-true next 512 (not-false _ (or_no_second (not (leb 1 next)) _ a));
        access_most = leb-true access (length ss / 16) (not-false _ b);
      }

  -- nothing in it earns 3, nothing earns 4
  pub accepted_3 : earns3 (identifiers ss) (entries vs ss) ≡ false
  unfolding state_out_of_range
  accepted_3 =
      let r = or_no_second (access_out_of_range (identifiers ss) access) _ (or_no_second (next_out_of_range next) _ out) in
      all_in_range (identifiers ss) next vs ss accepted_lent.sets_length (or_no_first (values_out_of_range (identifiers ss) vs) _ r) (or_no_second (values_out_of_range (identifiers ss) vs) _ r)

  pub accepted_4 : earns4 next (entries vs ss) ≡ false
  unfolding state_unfit
  accepted_4 = all_handed_out (identifiers ss) next vs ss accepted_lent.sets_length (or_no_first (values_unfit next vs) _ unfit) (or_no_second (values_unfit next vs) _ unfit)

  -- a state that the test accepts is one that the definition accepts
  pub accepted_state : T (accepted (identifiers ss) next (entries vs ss))
  unfolding accepted
  accepted_state = both (not (earns3 (identifiers ss) (entries vs ss))) (not (earns4 next (entries vs ss))) (passes _ accepted_3) (passes _ accepted_4)
