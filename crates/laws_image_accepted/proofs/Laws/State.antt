-- The state of an accepted image earns no class: each word of its values and each row of its sets is right. Assumes nothing.
use Prim.Native.Nat.{ℕ, zero, suc, ◌+◌, ◌*◌, ◌/◌, ◌%◌, ◌≤◌, ◌<◌, zero-le}
use native.Mathlib.Omega.{arith}
use Rattle.std.specs.Prelude.{◌≡◌, Bool, ◌&&◌, ◌||◌, ◌⊎◌, List, ltb, leb, length, get_or, set, Option, None, Some}
use Rattle.std.proofs.Math.Path.{refl, ap, subst}
use Rattle.std.proofs.Common.{sym, ◌∙◌, inl, inr, get_or-set_same, get_or-set_other}
use Rattle.std.proofs.Math.Bool.{true, false, not}
use Rattle.std.proofs.Math.Logic.{⊎_elim}
use Rattle.std.proofs.Math.Dec.{eqb}
use Rattle.std.specs.Int.Bits.{bit_or}
use Rattle.std.proofs.Math.Seq.{get_or-take, set_out}
use borrow.Author.Tests.{eq-eqb, ne_eqb, lt-ltb, le-leb, ltb-true, eqb-false}
use Rattle.base_sets.specs.Members.{digits_from, members, singleton, bits_of, values_of}
use Rattle.base_tests.specs.Tests.{All, ite, is_some}
use Rattle.base_sets.proofs.Laws.Member.{all_map, all_singleton, all_union}
use Rattle.def_kinds.specs.declared.AbstractValue.{AbstractValue}
use Rattle.def_kinds.specs.Kinds.{code_of, kind_at}
use Rattle.def_kinds.proofs.Laws.Kinds.{code_lt}
use Rattle.def_kinds.specs.Values.{mk}
use Rattle.def_kinds.specs.Reasons.{are_reasons}
use Rattle.lent_copies.specs.Copies.{zeros}
use Rattle.lent_values.specs.Cells.{put_value}
use Rattle.lent_values.specs.Cells as Cells
use Rattle.lent_sets.specs.Rows.{row_word, row_number, set_word, word_of, marked, set_at, put_word, put_row, put_set}
use Rattle.base_tests.proofs.Laws.Order.{lt_or_ge, same_or_not}
use Rattle.lent_sets.proofs.Laws.Loop.{words_other}
use Rattle.lent_sets.proofs.Laws.Number.{number_same}
use Rattle.lent_sets.proofs.Laws.Row.{set_cut, set_other, set_has}
use Rattle.def_transfer.specs.Accepted.{not_anumber, not_yet_handed_out}
use Rattle.base_tests.proofs.Laws.Bool.{never, or_neither}
use Rattle.base_tests.proofs.Laws.Below.{any_no, list_no}
use Rattle.base_tests.proofs.Laws.Choice.{ite_no}
use Rattle.refuse_entries.specs.Words.{has_entry, word_out_of_range, word_unfit, row_out_of_range, row_in_use, row_too_new, row_unfit, next_out_of_range, access_out_of_range, wrong_lengths, values_out_of_range, rows_out_of_range, values_unfit, rows_unfit, state_out_of_range, state_unfit, state_refusal}
use Rattle.refuse_entries.specs.Words as Words
use Rattle.def_image.specs.Layout.{Image, identifiers, values, pairs, count_of, next, value_number, value_kind, value_reasons, pair_identifier, pair_value}
use Rattle.def_image.specs.Refusals.{refusal_of_words}
use Rattle.def_image.specs.Decode.{member_of}
use Rattle.image_decode.specs.Decoded.{after, decoded_value, decoded_values, decoded_pair, decoded_sets}
use Rattle.image_decode.proofs.Laws.StateBack.{no_set}
use Rattle.lent_copies.proofs.Laws.Copy.{zero_word}
use Rattle.laws_image_accepted.proofs.Laws.Facts.{few_identifiers, next_range, value_range, pair_range, value_fresh, pair_fresh}
use Rattle.laws_image_accepted.proofs.Laws.Lengths.{values_length, rows_length, sets_length, sets_identifiers, lent_values, lent_sets}

-- ---- numbers

-- a number that is one of the list, and handed out if it is fresh
abbrev Ok : ℕ → ℕ → ℕ → Type 0
Ok n m v = (not_anumber n v ≡ false) × (not_yet_handed_out m v ≡ false)

-- such a number by its ranges
-- "Value numbers are 1..1023", "a fresh number not below next"
ok_number : (n m v : ℕ) → 1 ≤ v → v < 512 + n → (v < 512 → v < m) → Ok n m v
unfolding not_anumber not_yet_handed_out
ok_number n m v a b h = (or_neither (not (leb 1 v)) _ (ap not (le-leb 1 v a)) (ap not (lt-ltb v (512 + n) b)), go (ltb v 512) refl)
  where
    go : (x : Bool) → ltb v 512 ≡ x → (x && not (ltb v m)) ≡ false
    go true e = ap not (lt-ltb v m (h (ltb-true v 512 e)))
    go false e = refl

-- ---- values

-- what holds of each word of a list holds of it after a write of such a word
set_all : (Q : ℕ → ℕ → Type 0) (c : List ℕ) (w x : ℕ) → Q w x → ((v : ℕ) → Q v (get_or c v 0)) → (v : ℕ) → Q v (get_or (set c w x) v 0)
set_all Q c w x h g v =
    ⊎_elim
    (λ e. subst (λ (u : ℕ). Q u (get_or (set c w x) u 0)) e
    (⊎_elim (λ l. subst (Q w) (sym (get_or-set_same c w x 0 l)) h) (λ l. subst (λ (d : List ℕ). Q w (get_or d w 0)) (sym (set_out c w x l)) (g w)) (lt_or_ge w (length c))))
    (λ n. subst (Q v) (sym (get_or-set_other c w v x 0 (λ e. n (sym e)))) (g v))
    (same_or_not w v)

-- a word of the values that earns nothing
-- neither 3 nor 4
abbrev Right : ℕ → ℕ → ℕ → ℕ → Type 0
Right n m v x = (word_out_of_range n v x ≡ false) × (word_unfit m v x ≡ false)

-- no entry
right_zero : (n m v : ℕ) → Right n m v 0
unfolding word_out_of_range word_unfit has_entry
right_zero n m v = (refl, refl)

-- an entry at a right number, of right reasons
-- kinds are six, so none is 7
right_entry : (n m v : ℕ) (a : AbstractValue) → Ok n m v → are_reasons a.reason ≡ true → Right n m v (Cells.word_of a)
unfolding word_out_of_range word_unfit has_entry Cells.word_of
right_entry n m v a o r =
    let l = code_lt a.kind in
    let p : (a.reason * 8 + code_of a.kind + 1) % 8 ≡ code_of a.kind + 1 = omega arith in
    let q : (a.reason * 8 + code_of a.kind + 1) / 8 ≡ a.reason = omega arith in
    let h : eqb ((a.reason * 8 + code_of a.kind + 1) % 8) 0 ≡ false = ne_eqb ((a.reason * 8 + code_of a.kind + 1) % 8) 0 (λ e. omega arith) in
    let s : eqb ((a.reason * 8 + code_of a.kind + 1) % 8) 7 ≡ false = ne_eqb ((a.reason * 8 + code_of a.kind + 1) % 8) 7 (λ e. omega arith) in (
      ap (λ (b : Bool). not b && (not_anumber n v || (eqb ((a.reason * 8 + code_of a.kind + 1) % 8) 7 || not (are_reasons ((a.reason * 8 + code_of a.kind + 1) / 8))))) h
          ∙ or_neither (not_anumber n v) _ o.0 (or_neither (eqb ((a.reason * 8 + code_of a.kind + 1) % 8) 7) _ s (ap (λ (x : ℕ). not (are_reasons x)) q ∙ ap not r)),
      ap (λ (b : Bool). ite (not b) (not_yet_handed_out m v) (not (eqb (a.reason * 8 + code_of a.kind + 1) 0))) h ∙ o.1,
    )

module _ (im : Image) (ok : refusal_of_words im ≡ 0) where
  -- how many identifiers are in the list
  abbrev n : ℕ
  n = count_of im identifiers

  -- the next number
  abbrev m : ℕ
  m = next im

  -- every word of the values, after the first k of the image's
  values_done : (k : ℕ) → k ≤ count_of im values → (v : ℕ) → Right n m v (get_or (after (decoded_value im) k (zeros 1024)) v 0)
  unfolding after decoded_value put_value
  values_done zero l v = subst (Right n m v) (sym (zero_word 1024 v)) (right_zero n m v)
  values_done (suc k) l v =
      let r = value_range im ok k l in
      set_all (Right n m) (after (decoded_value im) k (zeros 1024)) (value_number im k) (Cells.word_of (mk (kind_at (value_kind im k)) (value_reasons im k)))
      (right_entry n m (value_number im k) (mk (kind_at (value_kind im k)) (value_reasons im k)) (ok_number n m (value_number im k) r.0 r.1 (value_fresh im ok k l)) r.2)
      (values_done k (omega arith))
      v

  -- so of all
  -- neither 3 nor 4 comes from the values
  values_right : (v : ℕ) → Right n m v (get_or (lent_values im) v 0)
  unfolding decoded_values
  values_right = values_done (count_of im values) (let z : count_of im values ≤ count_of im values = omega arith in z)

  -- ---- sets

  -- the members of a set that may be absent
  bits_all : (o : Option ℕ) → All (Ok n m) (values_of o) → All (Ok n m) (members (bits_of o))
  unfolding members digits_from
  bits_all None a = tt
  bits_all (Some s) a = a

  -- the value of a pair, as a set
  -- "value 0 .. means defined with an empty set"
  member_all : (v : ℕ) → (1 ≤ v → Ok n m v) → All (Ok n m) (members (member_of v))
  unfolding member_of members digits_from
  member_all v h = go (eqb v 0) refl
    where
      go : (b : Bool) → eqb v 0 ≡ b → All (Ok n m) (members (elim b [ true ↦ 0 | false ↦ singleton v ]))
      go true e = tt
      go false e = all_singleton (Ok n m) v (h (let z = eqb-false v 0 e in omega arith))

  -- the rows after the first k pairs
  -- before those past the image's identifiers are cut off
  abbrev rows : ℕ → List ℕ
  rows k = after (decoded_pair im) k (zeros 8192)

  -- every member of every row is right, after the first k pairs
  members_done : (k : ℕ) → k ≤ count_of im pairs → (i : ℕ) → All (Ok n m) (values_of (set_at (rows k) i))
  unfolding after decoded_pair
  members_done zero l i = subst (λ (o : Option ℕ). All (Ok n m) (values_of o)) (sym (no_set 8192 i)) tt
  members_done (suc k) l i =
      set_has (Ok n m) (rows k) (pair_identifier im k) _ i
      (all_union (Ok n m) (bits_of (set_at (rows k) (pair_identifier im k))) (member_of (pair_value im k)) (bits_all (set_at (rows k) (pair_identifier im k)) (members_done k (omega arith) (pair_identifier im k)))
      (member_all (pair_value im k) (λ h. right h (pair_range im ok k l).1)))
      (members_done k (omega arith) i)
    where
      right : 1 ≤ pair_value im k → (pair_value im k ≡ 0) ⊎ ((1 ≤ pair_value im k) × (pair_value im k < 512 + n)) → Ok n m (pair_value im k)
      right h (inl e) = absurd (omega arith)
      right h (inr r) = ok_number n m (pair_value im k) h r.1 (pair_fresh im ok k l h)

  -- a write of a row leaves the words of the others
  word_other : (rs : List ℕ) (i s j w : ℕ) → (i ≡ j → ⊥) → w < 16 → row_word (put_set rs i s) j w ≡ row_word rs j w
  unfolding put_set put_row put_word set_word row_word
  word_other rs i s j w d l = words_other (put_word i (bit_or s 1)) (i * 16) (λ u x. word_of (bit_or s 1) u) (λ u c. refl) 16 0 rs (j * 16 + w) (λ u a b e. d (omega arith))

  -- a row that is not defined is zero, after the first k pairs
  -- "an unused word not zero"
  blank_done : (k : ℕ) → k ≤ count_of im pairs → (i : ℕ) → is_some (set_at (rows k) i) ≡ false → (w : ℕ) → w < 16 → row_word (rows k) i w ≡ 0
  unfolding after decoded_pair row_word
  blank_done zero l i e w h = zero_word 8192 (i * 16 + w)
  blank_done (suc k) l i e w h =
      ⊎_elim
      (λ z. never (is_some (set_at (decoded_pair im k (rows k)) i)) (ap (λ (x : ℕ). is_some (set_at (decoded_pair im k (rows k)) x)) (sym z) ∙ ap is_some (set_cut 512 (rows k) (pair_identifier im k) _ (rows_length im k) inside)) e)
      (λ d. word_other (rows k) (pair_identifier im k) _ i w d h ∙ blank_done k (omega arith) i (ap is_some (sym (set_other (rows k) (pair_identifier im k) _ i d)) ∙ e) w h)
      (same_or_not (pair_identifier im k) i)
    where
      inside : pair_identifier im k < 512
      inside = let a = (pair_range im ok k l).0 in let b = few_identifiers im ok in omega arith

  -- ---- the rows that the call is lent

  -- a word of an identifier's row is not cut off
  row_kept : (i w : ℕ) → i < n → w < 16 → row_word (lent_sets im) i w ≡ row_word (decoded_sets im (count_of im pairs) (zeros 8192)) i w
  unfolding row_word
  row_kept i w h l = get_or-take (16 * n) (decoded_sets im (count_of im pairs) (zeros 8192)) (i * 16 + w) 0 (omega arith)

  -- so its set is as it was written
  pub set_kept : (i : ℕ) → i < n → set_at (lent_sets im) i ≡ set_at (decoded_sets im (count_of im pairs) (zeros 8192)) i
  unfolding set_at row_number row_word
  set_kept i h = ap (λ (x : ℕ). marked (x % 2) x) (number_same 16 (lent_sets im) (decoded_sets im (count_of im pairs) (zeros 8192)) (i * 16) (i * 16) (λ w l. row_kept i w h l))

  -- every member of such a row is right
  -- "pairs: identifier, value"
  members_right : (i : ℕ) → i < n → All (Ok n m) (values_of (set_at (lent_sets im) i))
  unfolding decoded_sets
  members_right i h = subst (λ (o : Option ℕ). All (Ok n m) (values_of o)) (sym (set_kept i h)) (members_done (count_of im pairs) (let z : count_of im pairs ≤ count_of im pairs = omega arith in z) i)

  -- such a row that is not defined is zero
  blank_right : (i : ℕ) → i < n → is_some (set_at (lent_sets im) i) ≡ false → row_in_use (lent_sets im) i ≡ false
  unfolding decoded_sets row_in_use
  blank_right i h e =
      any_no 16 (λ w. not (eqb (row_word (lent_sets im) i w) 0))
      (λ w l. ap not (eq-eqb (row_word (lent_sets im) i w) 0
      (row_kept i w h l ∙ blank_done (count_of im pairs) (let z : count_of im pairs ≤ count_of im pairs = omega arith in z) i (ap is_some (sym (set_kept i h)) ∙ e) w l)))

  -- a row earns no 3
  row_in_range : (i : ℕ) → i < n → row_out_of_range n (lent_sets im) i ≡ false
  unfolding row_out_of_range
  row_in_range i h = list_no (not_anumber n) (values_of (set_at (lent_sets im) i)) (all_map (values_of (set_at (lent_sets im) i)) (λ v o. o.0) (members_right i h))

  -- and no 4
  -- each member is handed out, and what is not defined is zero
  row_fit : (i : ℕ) → i < n → row_unfit m (lent_sets im) i ≡ false
  unfolding row_unfit row_too_new
  row_fit i h = go (is_some (set_at (lent_sets im) i)) refl
    where
      go : (b : Bool) → is_some (set_at (lent_sets im) i) ≡ b → ite b (row_too_new m (lent_sets im) i) (row_in_use (lent_sets im) i) ≡ false
      go true e = list_no (not_yet_handed_out m) (values_of (set_at (lent_sets im) i)) (all_map (values_of (set_at (lent_sets im) i)) (λ v o. o.1) (members_right i h))
      go false e = blank_right i h e

  -- ---- the state

  -- no length is wrong
  -- 1,024 values, whole rows, at most 512 of them
  lengths_fit : wrong_lengths (lent_values im) (lent_sets im) ≡ false
  unfolding wrong_lengths
  lengths_fit =
      or_neither (not (eqb (length (lent_values im)) 1024)) _ (ap not (eq-eqb (length (lent_values im)) 1024 (values_length im)))
      (or_neither (not (eqb (length (lent_sets im) % 16) 0)) _
      (ap not (eq-eqb (length (lent_sets im) % 16) 0 (ap (λ (x : ℕ). x % 16) (sets_length im ok) ∙ (let z : 16 * n % 16 ≡ 0 = omega arith in z))))
      (ap not (le-leb (length (lent_sets im)) 8192 (let a = sets_length im ok in let b = few_identifiers im ok in omega arith))))

  -- nothing is out of its range
  -- "next number 1..512"; no access is recorded yet
  in_range : state_out_of_range n m 0 (lent_values im) (lent_sets im) ≡ false
  unfolding state_out_of_range next_out_of_range access_out_of_range values_out_of_range rows_out_of_range
  in_range =
      or_neither (next_out_of_range m) _
      (or_neither (not (leb 1 m)) _ (ap not (le-leb 1 m (next_range im ok).0)) (ap not (le-leb m 512 (next_range im ok).1)))
      (or_neither (not (leb 0 n)) _ (ap not (le-leb 0 n zero-le))
      (or_neither (values_out_of_range n (lent_values im)) _ (any_no 1024 (λ v. word_out_of_range n v (get_or (lent_values im) v 0)) (λ v l. (values_right v).0))
      (any_no n (λ i. row_out_of_range n (lent_sets im) i) row_in_range)))

  -- nothing is unused and not zero, and no number is too new
  -- "an unused word not zero, or a fresh number not below next"
  fit : state_unfit n m (lent_values im) (lent_sets im) ≡ false
  unfolding state_unfit values_unfit rows_unfit
  fit =
      or_neither (values_unfit m (lent_values im)) _ (any_no 1024 (λ v. word_unfit m v (get_or (lent_values im) v 0)) (λ v l. (values_right v).1))
      (any_no n (λ i. row_unfit m (lent_sets im) i) row_fit)

  -- the state of an accepted image earns no class
  -- "A state is accepted if nothing in it earns 1 to 4."
  pub state_right : state_refusal (lent_values im) (lent_sets im) (next im) 0 ≡ 0
  unfolding state_refusal
  state_right =
      ite_no (wrong_lengths (lent_values im) (lent_sets im)) 1 _ lengths_fit
      ∙ ite_no (state_out_of_range (Words.identifiers (lent_sets im)) m 0 (lent_values im) (lent_sets im)) 3 _ (ap (λ (x : ℕ). state_out_of_range x m 0 (lent_values im) (lent_sets im)) (sets_identifiers im ok) ∙ in_range)
      ∙ ite_no (state_unfit (Words.identifiers (lent_sets im)) m (lent_values im) (lent_sets im)) 4 0 (ap (λ (x : ℕ). state_unfit x m (lent_values im) (lent_sets im)) (sets_identifiers im ok) ∙ fit)
