-- Accepted states stay accepted under merges: of two accepted states of one list and one session, merged in place or into a third. Assumes nothing.
use Rattle.std.specs.Prelude.{◌≡◌, refl, Bool, not, ◌||◌, List, eqb, length, get_or, replicate, Option, None, Some}
use Rattle.std.proofs.Common.{sym, ◌∙◌, subst, ⊎_elim, mod-eq_of_lt, arith, ltb-true, lt-ltb}
use Rattle.std.proofs.Math.Path.{ap}
use Rattle.std.proofs.Math.Bool.{true, false}
use Prim.Native.Nat.{ℕ, zero, suc, ◌+◌, ◌*◌, ◌/◌, ◌%◌, ◌^◌, ◌≤◌, ◌<◌}
use Rattle.std.proofs.lemmas.List.{length-replicate, get_or-replicate}
use Rattle.std.proofs.Math.ListN.{get_or-eq_default}
use Rattle.std.proofs.lemmas.Nat.{or_lt}
use Rattle.std.proofs.lemmas.Bool.{not-false}
use Rattle.base_tests.specs.Tests.{ite, All}
use Rattle.base_orders.specs.Options.{join_option}
use Rattle.base_sets.specs.Members.{union, values_of}
use Rattle.base_sets.proofs.Laws.Member.{all_union}
use Rattle.def_kinds.specs.declared.AbstractValue.{AbstractValue}
use Rattle.def_kinds.specs.Reasons.{are_reasons}
use Rattle.def_kinds.specs.Values as Values
use Rattle.def_transfer.specs.Accepted.{not_anumber}
use Rattle.lent_values.specs.Cells.{cell_of, value_at}
use Rattle.lent_values.proofs.Laws.Cell.{cell_absent, cell_present}
use Rattle.lent_sets.specs.Rows.{upto, row_word, set_at}
use Rattle.base_tests.proofs.Laws.Order.{lt_or_ge, same_or_not}
use Rattle.state_adds.specs.Lists.{value_adds, set_adds, put_entry, merge_value, merge_values, put_some, merge_set, merge_sets, rows_of, merged_values, merged_sets}
use Rattle.state_adds.proofs.Laws.MergeList.{rows_of_is, copy_all, cleared_set}
use Rattle.refuse_entries.specs.Words.{has_entry, word_out_of_range, state_refusal, identifiers}
use Rattle.base_tests.proofs.Laws.Bool.{or_no_first, or_no_second, and_first}
use Rattle.refuse_entries.proofs.Laws.Word.{reasons_lt, entry_yes, word_empty, unfit_empty, unfit_entry}
use Rattle.laws_state_stays.proofs.Laws.Fits.{Good, WordFit, ValuesFit, SetsFit, SessionFit, values_of_is, sets_of, session_of_is, accepted_of, value_stays, set_stays}

-- ---- entries

-- an entry that may be written at v: its number is good and its reasons there are; none may always be
abbrev EntryFit : ℕ → ℕ → ℕ → Option AbstractValue → Type 0
EntryFit n next v None = Unit {0}
EntryFit n next v (Some a) = Good n next v × (are_reasons a.reason ≡ true)

-- the entry of a fit word
entry_fit : (n next v x : ℕ) → WordFit n next v x → EntryFit n next v (cell_of x)
unfolding word_out_of_range
entry_fit n next v x h = ⊎_elim
    (λ e. subst (EntryFit n next v) (sym (cell_absent x e)) tt)
    (λ e. subst (EntryFit n next v) (sym (cell_present x e)) (fits e (sym (and_first (has_entry x) _ (entry_yes x e)) ∙ h.0)))
    (same_or_not (x % 8) 0)
  where
    fits : (x % 8 ≡ 0 → ⊥) → (not_anumber n v || (eqb (x % 8) 7 || not (are_reasons (x / 8)))) ≡ false → Good n next v × (are_reasons (x / 8 % 4294967296) ≡ true)
    fits e q =
        let r : are_reasons (x / 8) ≡ true = not-false _ (or_no_second (eqb (x % 8) 7) _ (or_no_second (not_anumber n v) _ q)) in
        ((or_no_first (not_anumber n v) _ q, sym (unfit_entry next v x e) ∙ h.1), ap are_reasons (mod-eq_of_lt (reasons_lt (x / 8) r)) ∙ r)

-- reasons of either are reasons
join_reasons_is : (a b : AbstractValue) → are_reasons a.reason ≡ true → are_reasons b.reason ≡ true → are_reasons (Values.join a b).reason ≡ true
unfolding are_reasons Values.join
join_reasons_is a b p q = lt-ltb _ (2 ^ 12) (or_lt 12 a.reason b.reason (ltb-true a.reason (2 ^ 12) p) (ltb-true b.reason (2 ^ 12) q))

join_fit : (n next v : ℕ) (x y : Option AbstractValue) → EntryFit n next v x → EntryFit n next v y → EntryFit n next v (join_option Values.join x y)
unfolding join_option
join_fit n next v None y p q = q
join_fit n next v (Some a) None p q = p
join_fit n next v (Some a) (Some b) p q = (p.0, join_reasons_is a b p.1 q.1)

put_fit : (n next v : ℕ) (vs : List ℕ) (o : Option AbstractValue) → EntryFit n next v o → ValuesFit n next vs → ValuesFit n next (put_entry vs v o)
put_fit n next v vs None p x = x
put_fit n next v vs (Some a) p x = value_stays n next v a p.0 p.1 vs x

module _ (n next : ℕ) (ws : List ℕ) (y : ValuesFit n next ws) where
  value_turn : (v : ℕ) (vs : List ℕ) → v < 1024 → ValuesFit n next vs → ValuesFit n next (merge_value ws v vs)
  unfolding merge_value value_at
  value_turn v vs l x = go (value_adds vs ws v)
    where
      go : (b : Bool) → ValuesFit n next (ite b (put_entry vs v (join_option Values.join (value_at vs v) (value_at ws v))) vs)
      go true =
          put_fit n next v vs (join_option Values.join (value_at vs v) (value_at ws v))
          (join_fit n next v (value_at vs v) (value_at ws v) (entry_fit n next v (get_or vs v 0) (x.word v l)) (entry_fit n next v (get_or ws v 0) (y.word v l))) x
      go false = x

  value_turns : (m w : ℕ) (vs : List ℕ) → w + m ≤ 1024 → ValuesFit n next vs → ValuesFit n next (upto (merge_value ws) m w vs)
  unfolding upto
  value_turns zero w vs l x = x
  value_turns (suc m) w vs l x = value_turns m (suc w) (merge_value ws w vs) (omega arith) (value_turn w vs (omega arith) x)

  -- the values of two states merged are fit
  pub values_merged : (vs : List ℕ) → ValuesFit n next vs → ValuesFit n next (merge_values vs ws)
  unfolding merge_values
  values_merged vs x = value_turns 1024 0 vs (omega arith) x

-- ---- sets

union_fit : (P : ℕ → Type 0) (x y : Option ℕ) → All P (values_of x) → All P (values_of y) → All P (values_of (join_option union x y))
unfolding join_option
union_fit P None y a b = b
union_fit P (Some s) None a b = a
union_fit P (Some s) (Some t) a b = all_union P s t a b

some_fit : (n next : ℕ) (ss : List ℕ) (i : ℕ) (o : Option ℕ) → All (Good n next) (values_of o) → SetsFit n next ss → SetsFit n next (put_some ss i o)
some_fit n next ss i None a x = x
some_fit n next ss i (Some s) a x = set_stays n next ss i s a x

module _ (n next : ℕ) (ts : List ℕ) (y : SetsFit n next ts) where
  set_turn : (i : ℕ) (ss : List ℕ) → i < n → SetsFit n next ss → SetsFit n next (merge_set ts i ss)
  unfolding merge_set
  set_turn i ss l x = go (set_adds ss ts i)
    where
      go : (b : Bool) → SetsFit n next (ite b (put_some ss i (join_option union (set_at ss i) (set_at ts i))) ss)
      go true = some_fit n next ss i (join_option union (set_at ss i) (set_at ts i)) (union_fit (Good n next) (set_at ss i) (set_at ts i) (x.row i l).good (y.row i l).good) x
      go false = x

  set_turns : (m w : ℕ) (ss : List ℕ) → w + m ≤ n → SetsFit n next ss → SetsFit n next (upto (merge_set ts) m w ss)
  unfolding upto
  set_turns zero w ss l x = x
  set_turns (suc m) w ss l x = set_turns m (suc w) (merge_set ts w ss) (omega arith) (set_turn w ss (omega arith) x)

  -- the sets of two states merged are fit
  pub sets_merged : (ss : List ℕ) → SetsFit n next ss → SetsFit n next (merge_sets n ss ts)
  unfolding merge_sets
  sets_merged ss x = set_turns n 0 ss (omega arith) x

-- ---- an empty state

zero_word : (n k : ℕ) → get_or {A = ℕ} (replicate n 0) k 0 ≡ 0
zero_word n k = ⊎_elim (get_or-replicate n k 0 0) (λ h. get_or-eq_default (replicate n 0) 0 {n = k} (let l = length-replicate {A = ℕ} n 0 in omega arith)) (lt_or_ge k n)

-- 1,024 zeros are fit values
pub values_empty : (n next m : ℕ) → m ≡ 1024 → ValuesFit n next (replicate m 0)
values_empty n next m e = record {
  long = length-replicate {A = ℕ} m 0 ∙ e;
  word = λ v l. subst (WordFit n next v) (sym (zero_word m v)) (word_empty n v 0 refl, unfit_empty next v 0 refl);
}

row_zero : (m i w : ℕ) → row_word (replicate m 0) i w ≡ 0
unfolding row_word
row_zero m i w = zero_word m (i * 16 + w)

-- zeros are fit sets
pub sets_empty : (n next m : ℕ) → m ≡ 16 * n → SetsFit n next (replicate m 0)
sets_empty n next m e = record {
  long = length-replicate {A = ℕ} m 0 ∙ e;
  row = λ i l. record {
    good = subst (λ (o : Option ℕ). All (Good n next) (values_of o)) (sym (cleared_set m i)) tt;
    unused = λ q w k. row_zero m i w;
  };
}

-- ---- two accepted states of one list of identifiers and one next number

-- a state whose first access is cleared stays accepted
pub clear_stays : (vs ss : List ℕ) (next access : ℕ) → state_refusal vs ss next access ≡ 0 → state_refusal vs ss next 0 ≡ 0
clear_stays vs ss next access h =
    let s = session_of_is vs ss next access h in
    accepted_of (identifiers ss) vs ss next 0 (values_of_is vs ss next access h) (sets_of vs ss next access h) (record { most = s.most; low = s.low; high = s.high; access_most = omega arith })

-- no state at all, 1,024 and 16 n zeros with a session in range, is accepted
pub empty_stays : (n next access : ℕ) → n ≤ 512 → 1 ≤ next → next ≤ 512 → access ≤ n → state_refusal (replicate 1024 0) (replicate (16 * n) 0) next access ≡ 0
empty_stays n next access m l h a =
    accepted_of n (replicate 1024 0) (replicate (16 * n) 0) next access (values_empty n next 1024 refl) (sets_empty n next (16 * n) refl) (record { most = m; low = l; high = h; access_most = a })

module _ (vs ss ws ts : List ℕ) (next access other : ℕ) (h : state_refusal vs ss next access ≡ 0) (k : state_refusal ws ts next other ≡ 0) (e : length ts ≡ length ss) where
  same : identifiers ts ≡ identifiers ss
  unfolding identifiers
  same = ap (λ (n : ℕ). n / 16) e

  values₁ : ValuesFit (identifiers ss) next vs
  values₁ = values_of_is vs ss next access h

  values₂ : ValuesFit (identifiers ss) next ws
  values₂ = subst (λ (n : ℕ). ValuesFit n next ws) same (values_of_is ws ts next other k)

  sets₁ : SetsFit (identifiers ss) next ss
  sets₁ = sets_of vs ss next access h

  sets₂ : SetsFit (identifiers ss) next ts
  sets₂ = subst (λ (n : ℕ). SetsFit n next ts) same (sets_of ws ts next other k)

  session : SessionFit (identifiers ss) next access
  session = session_of_is vs ss next access h

  rows : rows_of ss ≡ identifiers ss
  rows = rows_of_is (identifiers ss) ss sets₁.long session.most

  values_both : ValuesFit (identifiers ss) next (merge_values vs ws)
  values_both = values_merged (identifiers ss) next ws values₂ vs values₁

  sets_both : SetsFit (identifiers ss) next (merge_sets (rows_of ss) ss ts)
  sets_both = subst (λ (n : ℕ). SetsFit (identifiers ss) next (merge_sets n ss ts)) (sym rows) (sets_merged (identifiers ss) next ts sets₂ ss sets₁)

  -- the first with the second merged into it stays accepted
  pub merge_stays : state_refusal (merge_values vs ws) (merge_sets (rows_of ss) ss ts) next access ≡ 0
  merge_stays = accepted_of (identifiers ss) (merge_values vs ws) (merge_sets (rows_of ss) ss ts) next access values_both sets_both session

  -- and a third, of lists as long as theirs, is accepted, whether the second adds to the first or not
  pub merge_into_stays : (b : Bool) (us rs : List ℕ) → length us ≡ 1024 → length rs ≡ length ss → state_refusal (merged_values b us vs ws) (merged_sets b rs ss ts) next access ≡ 0
  merge_into_stays b us rs p q = accepted_of (identifiers ss) (merged_values b us vs ws) (merged_sets b rs ss ts) next access (third_values b) (third_sets b) session
    where
      third_values : (b : Bool) → ValuesFit (identifiers ss) next (merged_values b us vs ws)
      third_values true = subst (λ (l : List ℕ). ValuesFit (identifiers ss) next (merge_values l ws)) (sym (copy_all us vs (p ∙ sym values₁.long))) values_both
      third_values false = values_empty (identifiers ss) next (length us) p

      third_sets : (b : Bool) → SetsFit (identifiers ss) next (merged_sets b rs ss ts)
      third_sets true = subst (λ (l : List ℕ). SetsFit (identifiers ss) next (merge_sets (rows_of l) l ts)) (sym (copy_all rs ss q)) sets_both
      third_sets false = sets_empty (identifiers ss) next (length rs) (q ∙ sets₁.long)
