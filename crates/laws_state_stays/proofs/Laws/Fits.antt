-- What an accepted state says of each of its words and rows, and the writes that keep it. Assumes nothing.
use Rattle.std.specs.Prelude.{◌≡◌, Bool, true, List, [], ◌∷◌, eqb, leb, get_or, set}
use Rattle.std.proofs.Math.Path.{refl, sym, ap, subst}
use Rattle.std.proofs.Common.{◌∙◌, get_or-set_same, get_or-set_other}
use Rattle.std.proofs.Math.Bool.{false, not}
use Rattle.std.proofs.Math.Logic.{⊎_elim}
use Prim.Native.Nat.{ℕ, ◌+◌, ◌*◌, ◌/◌, ◌%◌, ◌≤◌, ◌<◌}
use native.Mathlib.Omega.{arith}
use Rattle.std.proofs.Math.ListN.{length}
use borrow.Author.Tests.{le-leb, eq-eqb, eqb-true, not-false}
use Rattle.base_sets.specs.Members.{members, values_of}
use Rattle.base_tests.specs.Tests.{All, is_some}
use Rattle.base_sets.proofs.Laws.Member.{all_map}
use Rattle.def_kinds.specs.declared.AbstractValue.{AbstractValue}
use Rattle.def_kinds.specs.Kinds.{code_of}
use Rattle.def_kinds.proofs.Laws.Kinds.{code_lt}
use Rattle.def_kinds.specs.Reasons.{are_reasons}
use Rattle.def_transfer.specs.Accepted.{not_anumber, not_yet_handed_out}
use Rattle.lent_values.specs.Cells.{word_of, put_value}
use Rattle.lent_values.proofs.Laws.Cell as CellLaws
use Rattle.lent_sets.specs.Rows.{row_word, set_word, set_at, put_word, put_row, put_set}
use Rattle.lent_sets.specs.Rows as Rows
use Rattle.base_tests.proofs.Laws.Order.{same_or_not}
use Rattle.lent_sets.proofs.Laws.Loop.{words_other}
use Rattle.lent_sets.proofs.Laws.Row.{Fit, fit_set, set_cut, set_other, set_has}
use Rattle.std.specs.Int.Bits.{bit_or}
use Rattle.refuse_entries.specs.Words.{word_out_of_range, word_unfit, row_out_of_range, row_in_use, row_too_new, row_unfit, next_out_of_range, access_out_of_range, identifiers, wrong_lengths, values_out_of_range, rows_out_of_range, values_unfit, rows_unfit, state_out_of_range, state_unfit, state_refusal}
use Rattle.base_tests.proofs.Laws.Bool.{never, or_no_first, or_no_second, or_neither}
use Rattle.base_tests.proofs.Laws.Below.{any_no, any_at, list_no, list_all_is}
use Rattle.refuse_entries.proofs.Laws.Word.{number_in, new_past, word_reasons, unfit_entry}
use Rattle.refuse_entries.proofs.Laws.Row.{new_undefined, unfit_defined, unfit_undefined}
use Rattle.refuse_entries.proofs.Laws.State.{refused_0}
use Rattle.refuse_entries.proofs.Laws.Accepted.{refusal_0, accepted_lent}

-- ---- the parts of an accepted state

-- a value number of a list of n identifiers that is handed out
-- what each entry's number and each member must be
abbrev pub Good : ℕ → ℕ → ℕ → Type 0
Good n next v = (not_anumber n v ≡ false) × (not_yet_handed_out next v ≡ false)

-- a word of the values that earns neither 3 nor 4
abbrev pub WordFit : ℕ → ℕ → ℕ → ℕ → Type 0
WordFit n next v x = (word_out_of_range n v x ≡ false) × (word_unfit next v x ≡ false)

-- 1,024 words, none of which earns anything
pub record ValuesFit (n next : ℕ) (vs : List ℕ) : Type 0 where
  pub long : length vs ≡ 1024
  pub word : (v : ℕ) → v < 1024 → WordFit n next v (get_or vs v 0)

-- a row whose members are good, and which is all zero where it is not defined
-- it earns neither 3 nor 4
pub record RowFit (n next : ℕ) (ss : List ℕ) (i : ℕ) : Type 0 where
  pub good : All (Good n next) (values_of (set_at ss i))
  pub unused : is_some (set_at ss i) ≡ false → (w : ℕ) → w < 16 → row_word ss i w ≡ 0

-- n rows, none of which earns anything
pub record SetsFit (n next : ℕ) (ss : List ℕ) : Type 0 where
  pub long : Fit n ss
  pub row : (i : ℕ) → i < n → RowFit n next ss i

-- the count of identifiers and the session's two words in range
pub record SessionFit (n next access : ℕ) : Type 0 where
  pub most : n ≤ 512
  pub low : 1 ≤ next
  pub high : next ≤ 512
  pub access_most : access ≤ n

-- ---- a row

all_both : (P Q : ℕ → Type 0) (l : List ℕ) → All P l → All Q l → All (λ (v : ℕ). P v × Q v) l
all_both P Q [] a b = tt
all_both P Q (x ∷ l) a b = ((a.0, b.0), all_both P Q l a.1 b.1)

module _ (n next : ℕ) (ss : List ℕ) (i : ℕ) where
  not_new : row_unfit next ss i ≡ false → row_too_new next ss i ≡ false
  not_new e = go (is_some (set_at ss i)) refl
    where
      go : (b : Bool) → is_some (set_at ss i) ≡ b → row_too_new next ss i ≡ false
      go true q = sym (unfit_defined next ss i q) ∙ e
      go false q = new_undefined next ss i q

  in_use : row_in_use ss i ≡ false → (w : ℕ) → w < 16 → row_word ss i w ≡ 0
  unfolding row_in_use
  in_use e w l = eqb-true (row_word ss i w) 0 (not-false _ (any_at 16 (λ w. not (eqb (row_word ss i w) 0)) e w l))

  -- a row that earns nothing is fit
  pub row_says : row_out_of_range n ss i ≡ false → row_unfit next ss i ≡ false → RowFit n next ss i
  unfolding row_out_of_range row_too_new
  row_says e f = record {
    good = all_both (λ v. not_anumber n v ≡ false) (λ v. not_yet_handed_out next v ≡ false) (values_of (set_at ss i)) (list_all_is (not_anumber n) (values_of (set_at ss i)) e) (list_all_is (not_yet_handed_out next) (values_of (set_at ss i)) (not_new f));
    unused = λ q. in_use (sym (unfit_undefined next ss i q) ∙ f);
  }

  -- a fit row earns no 3
  pub row_range : RowFit n next ss i → row_out_of_range n ss i ≡ false
  unfolding row_out_of_range
  row_range r = list_no (not_anumber n) (values_of (set_at ss i)) (all_map (values_of (set_at ss i)) (λ v g. g.0) r.good)

  too_new : RowFit n next ss i → row_too_new next ss i ≡ false
  unfolding row_too_new
  too_new r = list_no (not_yet_handed_out next) (values_of (set_at ss i)) (all_map (values_of (set_at ss i)) (λ v g. g.1) r.good)

  all_zero : ((w : ℕ) → w < 16 → row_word ss i w ≡ 0) → row_in_use ss i ≡ false
  unfolding row_in_use
  all_zero h = any_no 16 (λ w. not (eqb (row_word ss i w) 0)) (λ w l. ap not (eq-eqb (row_word ss i w) 0 (h w l)))

  -- nor does it earn 4
  pub row_fits : RowFit n next ss i → row_unfit next ss i ≡ false
  row_fits r = go (is_some (set_at ss i)) refl
    where
      go : (b : Bool) → is_some (set_at ss i) ≡ b → row_unfit next ss i ≡ false
      go true q = unfit_defined next ss i q ∙ too_new r
      go false q = unfit_undefined next ss i q ∙ all_zero (r.unused q)

-- ---- the whole state, by its parts

module _ (vs ss : List ℕ) (next access : ℕ) (h : state_refusal vs ss next access ≡ 0) where
  out : state_out_of_range (identifiers ss) next access vs ss ≡ false
  out = (refusal_0 vs ss next access h).1

  unfit : state_unfit (identifiers ss) next vs ss ≡ false
  unfit = (refusal_0 vs ss next access h).2

  out_both : (values_out_of_range (identifiers ss) vs ≡ false) × (rows_out_of_range (identifiers ss) ss ≡ false)
  unfolding state_out_of_range
  out_both =
      let r = or_no_second (access_out_of_range (identifiers ss) access) _ (or_no_second (next_out_of_range next) _ out) in
      (or_no_first (values_out_of_range (identifiers ss) vs) _ r, or_no_second (values_out_of_range (identifiers ss) vs) _ r)

  unfit_both : (values_unfit next vs ≡ false) × (rows_unfit (identifiers ss) next ss ≡ false)
  unfolding state_unfit
  unfit_both = (or_no_first (values_unfit next vs) _ unfit, or_no_second (values_unfit next vs) _ unfit)

  -- an accepted state has fit values
  pub values_of_is : ValuesFit (identifiers ss) next vs
  unfolding values_out_of_range values_unfit
  values_of_is = record {
    long = (accepted_lent vs ss next access h).values_length;
    word = λ v l. (any_at 1024 (λ v. word_out_of_range (identifiers ss) v (get_or vs v 0)) out_both.0 v l, any_at 1024 (λ v. word_unfit next v (get_or vs v 0)) unfit_both.0 v l);
  }

  -- an accepted state has fit sets
  pub sets_of : SetsFit (identifiers ss) next ss
  unfolding rows_out_of_range rows_unfit
  sets_of = record {
    long = (accepted_lent vs ss next access h).sets_length;
    row = λ i l. row_says (identifiers ss) next ss i (any_at (identifiers ss) (λ i. row_out_of_range (identifiers ss) ss i) out_both.1 i l) (any_at (identifiers ss) (λ i. row_unfit next ss i) unfit_both.1 i l);
  }

  -- an accepted state comes with a fit session
  pub session_of_is : SessionFit (identifiers ss) next access
  session_of_is =
      let l = accepted_lent vs ss next access h in
      record { most = l.most; low = l.next_low; high = l.next_high; access_most = l.access_most }

module _ (n : ℕ) (vs ss : List ℕ) (next access : ℕ) (x : ValuesFit n next vs) (y : SetsFit n next ss) (z : SessionFit n next access) where
  count : length ss / 16 ≡ n
  count = let e = y.long in omega arith

  lengths : wrong_lengths vs ss ≡ false
  unfolding wrong_lengths
  lengths =
      let e = y.long in
      let m = z.most in
      let p : length ss % 16 ≡ 0 = omega arith in
      let q : length ss ≤ 8192 = omega arith in
      or_neither (not (eqb (length vs) 1024)) _ (ap not (eq-eqb (length vs) 1024 x.long))
      (or_neither (not (eqb (length ss % 16) 0)) _ (ap not (eq-eqb (length ss % 16) 0 p)) (ap not (le-leb (length ss) 8192 q)))

  ranges : state_out_of_range n next access vs ss ≡ false
  unfolding state_out_of_range next_out_of_range access_out_of_range values_out_of_range rows_out_of_range
  ranges =
      or_neither (next_out_of_range next) _ (or_neither (not (leb 1 next)) _ (ap not (le-leb 1 next z.low)) (ap not (le-leb next 512 z.high)))
      (or_neither (access_out_of_range n access) _ (ap not (le-leb access n z.access_most))
      (or_neither (values_out_of_range n vs) _
      (any_no 1024 (λ v. word_out_of_range n v (get_or vs v 0)) (λ v l. (x.word v l).0))
      (any_no n (λ i. row_out_of_range n ss i) (λ i l. row_range n next ss i (y.row i l)))))

  fits : state_unfit n next vs ss ≡ false
  unfolding state_unfit values_unfit rows_unfit
  fits =
      or_neither (values_unfit next vs) _
      (any_no 1024 (λ v. word_unfit next v (get_or vs v 0)) (λ v l. (x.word v l).1))
      (any_no n (λ i. row_unfit next ss i) (λ i l. row_fits n next ss i (y.row i l)))

  -- a state whose parts are fit is accepted
  pub accepted_of : state_refusal vs ss next access ≡ 0
  accepted_of =
      refused_0 vs ss next access lengths
      (ap (λ (k : ℕ). state_out_of_range k next access vs ss) count ∙ ranges)
      (ap (λ (k : ℕ). state_unfit k next vs ss) count ∙ fits)

-- ---- numbers

-- the own value of an identifier in the list is good
pub own_good : (n next i : ℕ) → i < n → Good n next (512 + i)
own_good n next i h = (number_in n (512 + i) (omega arith) (omega arith), new_past next (512 + i) (omega arith))

-- ---- a write of a value

module _ (n next v : ℕ) (a : AbstractValue) (g : Good n next v) (r : are_reasons a.reason ≡ true) where
  -- the word of an entry at a good number, with reasons that there are
  pub word_fits : WordFit n next v (word_of a)
  unfolding word_of
  word_fits =
      let l = code_lt a.kind in
      let x : ℕ = a.reason * 8 + code_of a.kind + 1 in
      let p : (a.reason * 8 + code_of a.kind + 1) % 8 ≡ code_of a.kind + 1 = omega arith in
      let q : (a.reason * 8 + code_of a.kind + 1) / 8 ≡ a.reason = omega arith in (
        sym (word_reasons n v _ false false (λ e. omega arith) (sym g.0) refl (λ e. omega arith) (sym (ap not (ap are_reasons q ∙ r)))),
        unfit_entry next v _ (λ e. omega arith) ∙ g.1,
      )

  -- such an entry may be written
  pub value_stays : (vs : List ℕ) → ValuesFit n next vs → ValuesFit n next (put_value vs v a)
  unfolding put_value
  value_stays vs x = record {
    long = CellLaws.put_length vs v a ∙ x.long;
    word = λ u l. ⊎_elim
        (λ e. subst (λ (k : ℕ). WordFit n next k (get_or (set vs v (word_of a)) k 0)) e
        (subst (WordFit n next v) (sym (get_or-set_same vs v (word_of a) 0 (let z = x.long in omega arith))) word_fits))
        (λ d. subst (WordFit n next u) (sym (get_or-set_other vs v u (word_of a) 0 (λ e. d (sym e)))) (x.word u l))
        (same_or_not v u);
  }

-- ---- a write of a set

-- a write leaves the words of other rows
word_other : (ss : List ℕ) (i s j w : ℕ) → (i ≡ j → ⊥) → w < 16 → row_word (put_set ss i s) j w ≡ row_word ss j w
unfolding put_set put_row row_word put_word set_word
word_other ss i s j w d l =
    words_other (put_word i (bit_or s 1)) (i * 16) (λ w x. Rows.word_of (bit_or s 1) w) (λ w l. refl) 16 0 ss (j * 16 + w) (λ u a b e. d (omega arith))

-- a set of good members may be written
pub set_stays : (n next : ℕ) (ss : List ℕ) (i s : ℕ) → All (Good n next) (members s) → SetsFit n next ss → SetsFit n next (put_set ss i s)
set_stays n next ss i s a y = record {
  long = fit_set n ss i s y.long;
  row = λ j l. record {
    good = set_has (Good n next) ss i s j a (y.row j l).good;
    unused = λ q w k. ⊎_elim
        (λ e. never (is_some (set_at (put_set ss i s) j)) (ap (λ (x : ℕ). is_some (set_at (put_set ss i s) x)) (sym e) ∙ ap is_some (set_cut n ss i s y.long (subst (λ (x : ℕ). x < n) (sym e) l))) q)
        (λ d. word_other ss i s j w d k ∙ (y.row j l).unused (ap is_some (sym (set_other ss i s j d)) ∙ q) w k)
        (same_or_not i j);
  };
}
