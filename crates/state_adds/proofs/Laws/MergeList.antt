-- A merge of the lists that hold two states is the merge of the states: for lists of 1,024 words and of 16 n words the entries are joined,
-- each of them, so the merged state is the least above both. Assumes nothing.
use Rattle.std.specs.Prelude.{◌≡◌, Bool, List, T, eqb, get_or, replicate, Option, None, Some}
use Rattle.std.proofs.Math.Path.{refl, sym, ap, subst}
use Rattle.std.proofs.Common.{◌∙◌, mod-lt, eq-or-lt_of_le, arith, lit<, ext_get_or}
use Rattle.std.proofs.Math.Bool.{true, false}
use Rattle.std.proofs.Math.Logic.{⊎_elim}
use Prim.Native.Nat.{ℕ, zero, suc, ◌+◌, ◌-◌, ◌*◌, ◌/◌, ◌%◌, ◌^◌, ◌≤◌, ◌<◌, max}
use Rattle.std.proofs.Math.ListN.{length, set, get_or-eq_default}
use Rattle.std.proofs.lemmas.List.{length-replicate, get_or-replicate}
use Rattle.std.specs.Int.Bits.{bit_or, or_lt}
use Rattle.base_tests.specs.Tests.{ite}
use Rattle.base_orders.specs.Options.{join_option, join_table}
use Rattle.base_orders.proofs.Laws.Union.{or_odd}
use Rattle.base_sets.specs.Members.{union}
use Rattle.def_kinds.specs.declared.AbstractValue.{AbstractValue}
use Rattle.def_kinds.specs.Kinds.{kind_at}
use Rattle.def_kinds.specs.Values as Values
use Rattle.def_transfer.specs.Merge.{Entries, nothing, joined, above, adds, merge, merge_from}
use Rattle.laws_merge.proofs.Laws.Merge.{merged_value_is, merged_set_is, merge_from_joined, joined_above_left, joined_above_right, joined_least}
use Rattle.lent_values.specs.Cells.{cell_of, value_at}
use Rattle.lent_values.proofs.Laws.Cell.{cell_absent, value_other, value_same, put_length}
use Rattle.lent_sets.specs.Rows.{upto, set_word, row_number, word_of, marked, set_at, put_word, put_row, put_set}
use Rattle.base_tests.proofs.Laws.Order.{lt_or_ge}
use Rattle.lent_sets.proofs.Laws.Bit.{bit_low}
use Rattle.lent_sets.proofs.Laws.Loop.{words_length, words_at}
use Rattle.lent_sets.proofs.Laws.Number.{number_none}
use Rattle.lent_sets.proofs.Laws.Row.{Fit, set_same, set_other, set_fits, set_zero}
use Rattle.state_adds.specs.Lists.{value_adds, set_adds, put_entry, merge_value, merge_values, put_some, merge_set, merge_sets, rows_of, copy_word, copy_words, merged_values, merged_sets}
use Rattle.refuse_entries.specs.Words.{entries}
use Rattle.state_adds.proofs.Laws.Code.{row_past}

-- ---- a loop whose turn w changes what is read at w alone, by f w
-- over lists of m elements, of which N are turned
module _ {A : Type 0} (read : List ℕ → ℕ → A) (g : ℕ → List ℕ → List ℕ) (f : ℕ → A → A) (m N : ℕ)
    (keeps : (w : ℕ) (l : List ℕ) → length (g w l) ≡ length l)
    (same : (w : ℕ) (l : List ℕ) → length l ≡ m → w < N → read (g w l) w ≡ f w (read l w))
    (other : (w : ℕ) (l : List ℕ) (j : ℕ) → (w ≡ j → ⊥) → read (g w l) j ≡ read l j) where
  turns_length : (n w : ℕ) (l : List ℕ) → length (upto g n w l) ≡ length l
  unfolding upto
  turns_length zero w l = refl
  turns_length (suc n) w l = turns_length n (suc w) (g w l) ∙ keeps w l

  turns_other : (n w : ℕ) (l : List ℕ) (j : ℕ) → ((u : ℕ) → w ≤ u → u < w + n → u ≡ j → ⊥) → read (upto g n w l) j ≡ read l j
  unfolding upto
  turns_other zero w l j h = refl
  turns_other (suc n) w l j h = turns_other n (suc w) (g w l) j (λ u p q. h u (omega arith) (omega arith)) ∙ other w l j (h w (omega arith) (omega arith))

  turns_at : (n w : ℕ) (l : List ℕ) (u : ℕ) → length l ≡ m → w ≤ u → u < w + n → w + n ≤ N → read (upto g n w l) u ≡ f u (read l u)
  unfolding upto
  turns_at zero w l u e p q h = absurd (omega arith)
  turns_at (suc n) w l u e p q h = ⊎_elim here (there (turns_at n (suc w) (g w l) u (keeps w l ∙ e))) (eq-or-lt_of_le p)
    where
      here : w ≡ u → read (upto g n (suc w) (g w l)) u ≡ f u (read l u)
      here d =
          turns_other n (suc w) (g w l) u (λ k a b c. omega arith)
          ∙ subst (λ (k : ℕ). read (g w l) k ≡ f k (read l k)) d (same w l e (omega arith))

      there : (suc w ≤ u → u < suc w + n → suc w + n ≤ N → read (upto g n (suc w) (g w l)) u ≡ f u (read (g w l) u)) → w < u → read (upto g n (suc w) (g w l)) u ≡ f u (read l u)
      there ih r = ih r (omega arith) (omega arith) ∙ ap (f u) (other w l u (λ d. omega arith))

-- ---- values

entry_keeps : (l : List ℕ) (v : ℕ) (o : Option AbstractValue) → length (put_entry l v o) ≡ length l
entry_keeps l v None = refl
entry_keeps l v (Some a) = put_length l v a

entry_other : (l : List ℕ) (v : ℕ) (o : Option AbstractValue) (j : ℕ) → (v ≡ j → ⊥) → value_at (put_entry l v o) j ≡ value_at l j
entry_other l v None j n = refl
entry_other l v (Some a) j n = value_other l v a j n

-- the reasons of an entry fit 32 bits
-- so that its word holds them all
abbrev Narrow : Option AbstractValue → Type 0
Narrow x = (a : AbstractValue) → x ≡ Some a → a.reason < 4294967296

value_narrow : (l : List ℕ) (v : ℕ) → Narrow (value_at l v)
unfolding value_at cell_of
value_narrow l v a e = go (eqb (get_or l v 0 % 8) 0) e
  where
    b : AbstractValue
    b = Values.mk (kind_at (get_or l v 0 % 8 - 1)) (get_or l v 0 / 8 % 4294967296)

    go : (t : Bool) → (elim t as (λ z. Option AbstractValue) [ true ↦ None | false ↦ Some b ]) ≡ Some a → a.reason < 4294967296
    go true e = let z : ◌≡◌ {A = ℕ} 0 1 = cc in absurd (omega arith)
    go false e =
        let d : b ≡ a = cc in
        subst (λ (c : AbstractValue). c.reason < 4294967296) d (mod-lt (get_or l v 0 / 8) (lit< tt))

-- a join that is stored is read back
entry_joined : (l : List ℕ) (v : ℕ) (x y : Option AbstractValue) → v < length l → value_at l v ≡ x → Narrow x → Narrow y
    → value_at (put_entry l v (join_option Values.join x y)) v ≡ join_option Values.join x y
unfolding join_option
entry_joined l v None None h e p q = e
entry_joined l v None (Some b) h e p q = value_same l v b h (q b refl)
entry_joined l v (Some a) None h e p q = value_same l v a h (p a refl)
entry_joined l v (Some a) (Some b) h e p q = value_same l v (Values.join a b) h (unfold Values.join in or_lt 32 a.reason b.reason (p a refl) (q b refl))

module _ (ws : List ℕ) where
  value_keeps : (v : ℕ) (l : List ℕ) → length (merge_value ws v l) ≡ length l
  unfolding merge_value
  value_keeps v l = go (value_adds l ws v)
    where
      go : (b : Bool) → length (ite b (put_entry l v (join_option Values.join (value_at l v) (value_at ws v))) l) ≡ length l
      go true = entry_keeps l v (join_option Values.join (value_at l v) (value_at ws v))
      go false = refl

  value_turn : (v : ℕ) (l : List ℕ) → length l ≡ 1024 → v < 1024 → value_at (merge_value ws v l) v ≡ join_option Values.join (value_at l v) (value_at ws v)
  unfolding merge_value
  value_turn v l e h = go (value_adds l ws v) ∙ merged_value_is (value_at l v) (value_at ws v)
    where
      o : Option AbstractValue
      o = join_option Values.join (value_at l v) (value_at ws v)

      go : (b : Bool) → value_at (ite b (put_entry l v o) l) v ≡ (elim b as (λ z. Option AbstractValue) [ true ↦ o | false ↦ value_at l v ])
      go true = entry_joined l v (value_at l v) (value_at ws v) (omega arith) refl (value_narrow l v) (value_narrow ws v)
      go false = refl

  value_rest : (v : ℕ) (l : List ℕ) (j : ℕ) → (v ≡ j → ⊥) → value_at (merge_value ws v l) j ≡ value_at l j
  unfolding merge_value
  value_rest v l j n = go (value_adds l ws v)
    where
      go : (b : Bool) → value_at (ite b (put_entry l v (join_option Values.join (value_at l v) (value_at ws v))) l) j ≡ value_at l j
      go true = entry_other l v (join_option Values.join (value_at l v) (value_at ws v)) j n
      go false = refl

-- a merge keeps the length
pub values_length : (vs ws : List ℕ) → length (merge_values vs ws) ≡ length vs
unfolding merge_values
values_length vs ws = turns_length value_at (merge_value ws) (λ v x. join_option Values.join x (value_at ws v)) 1024 1024 (value_keeps ws) (value_turn ws) (value_rest ws) 1024 0 vs

-- each entry is the join of the two
pub value_merged : (vs ws : List ℕ) (v : ℕ) → length vs ≡ 1024 → v < 1024 → value_at (merge_values vs ws) v ≡ join_option Values.join (value_at vs v) (value_at ws v)
unfolding merge_values
value_merged vs ws v e h =
    turns_at value_at (merge_value ws) (λ v x. join_option Values.join x (value_at ws v)) 1024 1024 (value_keeps ws) (value_turn ws) (value_rest ws) 1024 0 vs v e (omega arith) (omega arith) (omega arith)

-- past the end there is no entry
pub value_past : (l : List ℕ) (v : ℕ) → length l ≤ v → value_at l v ≡ None
unfolding value_at
value_past l v h = ap cell_of (get_or-eq_default l 0 {n = v} h) ∙ cell_absent 0 refl

-- so of two lists of 1,024 words, all entries are joined
pub value_joined : (vs ws : List ℕ) (v : ℕ) → length vs ≡ 1024 → length ws ≡ 1024 → value_at (merge_values vs ws) v ≡ join_option Values.join (value_at vs v) (value_at ws v)
unfolding join_option
value_joined vs ws v e d = ⊎_elim (value_merged vs ws v e) past (lt_or_ge v 1024)
  where
    past : 1024 ≤ v → value_at (merge_values vs ws) v ≡ join_option Values.join (value_at vs v) (value_at ws v)
    past h =
        let k = values_length vs ws in
        value_past (merge_values vs ws) v (omega arith) ∙ sym (ap (λ (x : Option AbstractValue). join_option Values.join x (value_at ws v)) (value_past vs v (omega arith)) ∙ value_past ws v (omega arith))

-- ---- sets

row_turn : (i m w : ℕ) (l : List ℕ) → put_word i m w l ≡ set l (i * 16 + w) (word_of m w)
unfolding put_word set_word
row_turn i m w l = refl

some_keeps : (l : List ℕ) (i : ℕ) (o : Option ℕ) → length (put_some l i o) ≡ length l
unfolding put_set put_row
some_keeps l i None = refl
some_keeps l i (Some s) = words_length (put_word i (bit_or s 1)) (i * 16) (λ w x. word_of (bit_or s 1) w) (row_turn i (bit_or s 1)) 16 0 l

some_other : (l : List ℕ) (i : ℕ) (o : Option ℕ) (j : ℕ) → (i ≡ j → ⊥) → set_at (put_some l i o) j ≡ set_at l j
some_other l i None j n = refl
some_other l i (Some s) j n = set_other l i s j n

-- a set has 1,024 bits, and no bit 0
-- so that its row holds it
abbrev Even : Option ℕ → Type 0
Even x = (s : ℕ) → x ≡ Some s → (s < 2 ^ 1024) × (s % 2 ≡ 0)

set_even : (l : List ℕ) (i : ℕ) → Even (set_at l i)
set_even l i s e = (set_fits l i s e, sym (bit_low s) ∙ set_zero l i s e)

stored : (n : ℕ) (l : List ℕ) (i s : ℕ) → Fit n l → i < n → (s < 2 ^ 1024) × (s % 2 ≡ 0) → set_at (put_set l i s) i ≡ Some s
stored n l i s f h p = set_same n l i s f h p.0 ∙ ap Some (let d = p.1 in let z : s - s % 2 ≡ s = omega arith in z)

-- a union that is stored is read back
some_joined : (n : ℕ) (l : List ℕ) (i : ℕ) (x y : Option ℕ) → Fit n l → i < n → set_at l i ≡ x → Even x → Even y
    → set_at (put_some l i (join_option union x y)) i ≡ join_option union x y
unfolding join_option
some_joined n l i None None f h e p q = e
some_joined n l i None (Some t) f h e p q = stored n l i t f h (q t refl)
some_joined n l i (Some s) None f h e p q = stored n l i s f h (p s refl)
some_joined n l i (Some s) (Some t) f h e p q =
    let a = p s refl in
    let b = q t refl in
    let c = a.1 in
    let d = b.1 in
    let o : bit_or s t % 2 ≡ max (s % 2) (t % 2) = or_odd s t in
    stored n l i (bit_or s t) f h (or_lt 1024 s t a.0 b.0, omega arith)

module _ (ts : List ℕ) where
  set_keeps : (i : ℕ) (l : List ℕ) → length (merge_set ts i l) ≡ length l
  unfolding merge_set
  set_keeps i l = go (set_adds l ts i)
    where
      go : (b : Bool) → length (ite b (put_some l i (join_option union (set_at l i) (set_at ts i))) l) ≡ length l
      go true = some_keeps l i (join_option union (set_at l i) (set_at ts i))
      go false = refl

  set_turn : (n i : ℕ) (l : List ℕ) → Fit n l → i < n → set_at (merge_set ts i l) i ≡ join_option union (set_at l i) (set_at ts i)
  unfolding merge_set
  set_turn n i l f h = go (set_adds l ts i) ∙ merged_set_is (set_at l i) (set_at ts i)
    where
      o : Option ℕ
      o = join_option union (set_at l i) (set_at ts i)

      go : (b : Bool) → set_at (ite b (put_some l i o) l) i ≡ (elim b as (λ z. Option ℕ) [ true ↦ o | false ↦ set_at l i ])
      go true = some_joined n l i (set_at l i) (set_at ts i) f h refl (set_even l i) (set_even ts i)
      go false = refl

  set_rest : (i : ℕ) (l : List ℕ) (j : ℕ) → (i ≡ j → ⊥) → set_at (merge_set ts i l) j ≡ set_at l j
  unfolding merge_set
  set_rest i l j n = go (set_adds l ts i)
    where
      go : (b : Bool) → set_at (ite b (put_some l i (join_option union (set_at l i) (set_at ts i))) l) j ≡ set_at l j
      go true = some_other l i (join_option union (set_at l i) (set_at ts i)) j n
      go false = refl

-- a merge keeps the length
pub sets_length : (n : ℕ) (ss ts : List ℕ) → length (merge_sets n ss ts) ≡ length ss
unfolding merge_sets
sets_length n ss ts = turns_length set_at (merge_set ts) (λ i x. join_option union x (set_at ts i)) (16 * n) n (set_keeps ts) (λ i l f h. set_turn ts n i l f h) (set_rest ts) n 0 ss

-- the set of each identifier is the union of the two
pub set_merged : (n : ℕ) (ss ts : List ℕ) (i : ℕ) → Fit n ss → i < n → set_at (merge_sets n ss ts) i ≡ join_option union (set_at ss i) (set_at ts i)
unfolding merge_sets
set_merged n ss ts i f h =
    turns_at set_at (merge_set ts) (λ i x. join_option union x (set_at ts i)) (16 * n) n (set_keeps ts) (λ i l f h. set_turn ts n i l f h) (set_rest ts) n 0 ss i f (omega arith) (omega arith) (omega arith)

-- so of two lists of n rows, all sets are joined
pub set_joined : (n : ℕ) (ss ts : List ℕ) (i : ℕ) → Fit n ss → Fit n ts → set_at (merge_sets n ss ts) i ≡ join_option union (set_at ss i) (set_at ts i)
unfolding join_option
set_joined n ss ts i f d = ⊎_elim (set_merged n ss ts i f) past (lt_or_ge i n)
  where
    past : n ≤ i → set_at (merge_sets n ss ts) i ≡ join_option union (set_at ss i) (set_at ts i)
    past h =
        let k = sets_length n ss ts in
        row_past (merge_sets n ss ts) i (omega arith) ∙ sym (ap (λ (x : Option ℕ). join_option union x (set_at ts i)) (row_past ss i (omega arith)) ∙ row_past ts i (omega arith))

-- a list of n rows, n at most 512, is merged in n rows
pub rows_of_is : (n : ℕ) (ss : List ℕ) → Fit n ss → n ≤ 512 → rows_of ss ≡ n
rows_of_is n ss f h = omega arith

-- ---- states

module _ (n : ℕ) (vs ss ws ts : List ℕ) (v₁ : length vs ≡ 1024) (v₂ : length ws ≡ 1024) (s₁ : Fit n ss) (s₂ : Fit n ts) where
  -- the merged lists hold the joined state
  pub merged_joined : entries (merge_values vs ws) (merge_sets n ss ts) ≡ joined (entries vs ss) (entries ws ts)
  unfolding joined join_table
  merged_joined = λ i. record { value = λ v. value_joined vs ws v v₁ v₂ i; set = λ j. set_joined n ss ts j s₁ s₂ i }

  -- which is that of merge_from
  pub merged_from : entries (merge_values vs ws) (merge_sets n ss ts) ≡ merge_from (entries vs ss) (entries ws ts)
  merged_from = merged_joined ∙ sym (merge_from_joined (entries vs ss) (entries ws ts))

  -- it is above or equal to both, and below or equal to each state that is
  pub merged_above_left : T (above (entries (merge_values vs ws) (merge_sets n ss ts)) (entries vs ss))
  merged_above_left = subst (λ (e : Entries). T (above e (entries vs ss))) (sym merged_joined) (joined_above_left (entries vs ss) (entries ws ts))

  pub merged_above_right : T (above (entries (merge_values vs ws) (merge_sets n ss ts)) (entries ws ts))
  merged_above_right = subst (λ (e : Entries). T (above e (entries ws ts))) (sym merged_joined) (joined_above_right (entries vs ss) (entries ws ts))

  pub merged_least : (u : Entries) → T (above u (entries vs ss)) → T (above u (entries ws ts)) → T (above u (entries (merge_values vs ws) (merge_sets n ss ts)))
  merged_least u p q = subst (λ (e : Entries). T (above u e)) (sym merged_joined) (joined_least (entries vs ss) (entries ws ts) u p q)

-- ---- a third state

copy_turn : (from : List ℕ) (k : ℕ) (l : List ℕ) → copy_word from k l ≡ set l (0 + k) (get_or from k 0)
unfolding copy_word
copy_turn from k l = ap (λ (j : ℕ). set l j (get_or from k 0)) (let z : k ≡ 0 + k = omega arith in z)

-- a copy into a list as long is the list that was copied
pub copy_all : (into from : List ℕ) → length into ≡ length from → copy_words into from ≡ from
unfolding copy_words
copy_all into from e = ext_get_or 0 (upto (copy_word from) (length from) 0 into) from (len ∙ e) at
  where
    len : length (upto (copy_word from) (length from) 0 into) ≡ length into
    len = words_length (copy_word from) 0 (λ w x. get_or from w 0) (copy_turn from) (length from) 0 into

    at : (k : ℕ) → k < length (upto (copy_word from) (length from) 0 into) → get_or (upto (copy_word from) (length from) 0 into) k 0 ≡ get_or from k 0
    at k h =
        let z : k ≡ 0 + k = omega arith in
        let m : k < length into = subst (λ (n : ℕ). k < n) len h in
        ap (λ (u : ℕ). get_or (upto (copy_word from) (length from) 0 into) u 0) z
        ∙ words_at (copy_word from) 0 (λ w x. get_or from w 0) (copy_turn from) (length from) 0 into k (omega arith) (omega arith) (omega arith)

zero_word : (n k : ℕ) → get_or {A = ℕ} (replicate n 0) k 0 ≡ 0
zero_word n k = ⊎_elim (get_or-replicate n k 0 0) (λ h. get_or-eq_default (replicate n 0) 0 {n = k} (let l = length-replicate {A = ℕ} n 0 in omega arith)) (lt_or_ge k n)

-- a cleared state has no entry
pub cleared_value : (n v : ℕ) → value_at (replicate n 0) v ≡ None
unfolding value_at
cleared_value n v = ap cell_of (zero_word n v) ∙ cell_absent 0 refl

-- and no identifier is defined in it
pub cleared_set : (n i : ℕ) → set_at (replicate n 0) i ≡ None
unfolding set_at row_number
cleared_set n i = ap (λ (x : ℕ). marked (x % 2) x) (number_none 16 (replicate n 0) (i * 16) (λ j p. zero_word n (i * 16 + j)))

pub cleared_nothing : (m n : ℕ) → entries (replicate m 0) (replicate n 0) ≡ nothing
cleared_nothing m n = λ i. record { value = λ v. cleared_value m v i; set = λ j. cleared_set n j i }

module _ (n : ℕ) (vs ss ws ts vc sc : List ℕ) (v₁ : length vs ≡ 1024) (v₂ : length ws ≡ 1024) (v₃ : length vc ≡ 1024) (s₁ : Fit n ss) (s₂ : Fit n ts) (s₃ : Fit n sc) (most : n ≤ 512) where
  -- the third state is the joined one
  pub into_joined : entries (merged_values true vc vs ws) (merged_sets true sc ss ts) ≡ joined (entries vs ss) (entries ws ts)
  into_joined =
      ap (λ (l : List ℕ). entries (merge_values l ws) (merged_sets true sc ss ts)) (copy_all vc vs (v₃ ∙ sym v₁))
      ∙ ap (λ (l : List ℕ). entries (merge_values vs ws) (merge_sets (rows_of l) l ts)) (copy_all sc ss (s₃ ∙ sym s₁))
      ∙ ap (λ (k : ℕ). entries (merge_values vs ws) (merge_sets k ss ts)) (rows_of_is n ss s₁ most)
      ∙ merged_joined n vs ss ws ts v₁ v₂ s₁ s₂

  -- the answer and the third state are what merge yields, which is none where it is false; the third state is empty then
  pub into_merge : (b : Bool) → b ≡ adds (entries vs ss) (entries ws ts)
      → merge (entries vs ss) (entries ws ts) ≡ ite b (Some (entries (merged_values b vc vs ws) (merged_sets b sc ss ts))) None
  unfolding merge
  into_merge true e =
      sym (ap (λ (c : Bool). elim c as (λ z. Option Entries) [ true ↦ Some (joined (entries vs ss) (entries ws ts)) | false ↦ None ]) e)
      ∙ ap Some (sym into_joined)
  into_merge false e =
      sym (ap (λ (c : Bool). elim c as (λ z. Option Entries) [ true ↦ Some (joined (entries vs ss) (entries ws ts)) | false ↦ None ]) e)

  pub into_nothing : entries (merged_values false vc vs ws) (merged_sets false sc ss ts) ≡ nothing
  into_nothing = cleared_nothing (length vc) (length sc)
