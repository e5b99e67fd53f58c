-- A law for each way through a function of the crate, over plain variables: the proof files cite them. Assumes nothing.
use Rattle.std.specs.Prelude.{◌≡◌, refl, Bool, not, List, eqb, length, get_or, set, replicate, Option, None, Some}
use Rattle.std.proofs.Math.Path.{sym, ap}
use Rattle.std.proofs.Common.{ap₂, ◌∙◌, subst, ⊎_elim, mod-eq_of_lt, mod-lt, zero-lt-suc, add-zero, add-suc, eq-eqb, ne_eqb, ext_get_or}
use Rattle.std.proofs.Math.Bool.{true, false}
use Prim.Native.Nat.{ℕ, zero, suc, ◌+◌, ◌-◌, ◌*◌, ◌/◌, ◌%◌, ◌^◌, ◌≤◌, ◌<◌, min, max}
use native.Mathlib.Omega.{arith}
use Rattle.std.proofs.lemmas.List.{length-replicate, get_or-replicate}
use Rattle.std.proofs.Math.ListN.{get_or-eq_default}
use Rattle.std.specs.Int.Bits.{bit_or, or_step, or_zero_l}
use Rattle.std.proofs.lemmas.Nat.{or_lt}
use Rattle.base_tests.specs.Tests.{ite, any_below, is_some}
use Rattle.base_orders.specs.Options.{join_option}
use Rattle.base_orders.proofs.Laws.Union.{or_odd}
use Rattle.base_sets.specs.Members.{union, bits_of}
use Rattle.def_kinds.specs.declared.AbstractValue.{AbstractValue}
use Rattle.def_kinds.specs.Values as Values
use Rattle.def_transfer.specs.Merge.{Entries, adds_value, adds_set, adds, above, value_above}
use Rattle.laws_merge.proofs.Laws.Merge.{adds_value_is, adds_not_above}
use Rattle.lent_values.specs.Cells.{value_at, put_value}
use Rattle.lent_sets.specs.Rows.{bit, upto, row_word, row_number, number, word_of, marked, set_at, put_set, add_set}
use Rattle.base_tests.proofs.Laws.Order.{same_or_not}
use Rattle.lent_sets.proofs.Laws.Bit.{bit_word, bit_ext}
use Rattle.lent_sets.proofs.Laws.Loop.{upto_step, upto_end, words_length, words_at}
use Rattle.lent_sets.proofs.Laws.Number.{number_none, word_number, word_or}
use Rattle.lent_sets.proofs.Laws.Row.{row_fits, none_of, add_length, add_row}
use Rattle.state_adds.specs.Lists.{value_adds, set_adds, put_entry, merge_value, merge_values, put_some, merge_set, merge_sets, rows_of, copy_word, copy_words, clear_word, merged_values, merged_sets}
use Rattle.refuse_entries.specs.Words.{entries}

-- ---- adds_value

value_none : (x y : Option AbstractValue) → y ≡ None → false ≡ adds_value x y
unfolding adds_value
value_none None y e = sym (ap (adds_value None) e)
value_none (Some a) y e = sym (ap (adds_value (Some a)) e)

-- an entry that is not there adds nothing
pub adds_absent : (x y : Option AbstractValue) (e : Option AbstractValue) → e ≡ None → e ≡ y → false ≡ adds_value x y
adds_absent x y e p q = value_none x y (sym q ∙ p)

-- one where there was none is new
pub adds_new : (x y : Option AbstractValue) (d e : Option AbstractValue) (b : AbstractValue) → e ≡ Some b → e ≡ y → d ≡ None → d ≡ x → true ≡ adds_value x y
unfolding adds_value
adds_new x y d e b p q r s = sym (ap₂ adds_value (sym s ∙ r) (sym q ∙ p))

-- two are compared
pub adds_both : (x y : Option AbstractValue) (d e : Option AbstractValue) (a b : AbstractValue) (t : Bool) → e ≡ Some b → e ≡ y → d ≡ Some a → d ≡ x → t ≡ Values.above a b → not t ≡ adds_value x y
unfolding value_above
adds_both x y d e a b t p q r s u = ap not u ∙ sym (ap₂ adds_value (sym s ∙ r) (sym q ∙ p) ∙ adds_value_is (Some a) (Some b))

-- ---- adds_bits

-- numbers of 1,024 bits with the same words are equal
words_ext : (x y : ℕ) → x < 2 ^ 1024 → y < 2 ^ 1024 → ((k : ℕ) → k < 16 → word_of x k ≡ word_of y k) → x ≡ y
words_ext x y p q h = bit_ext 1024 x y p q at
  where
    at : (v : ℕ) → v < 1024 → bit x v ≡ bit y v
    at v l =
        let e : 64 * (v / 64) + v % 64 ≡ v = omega arith in
        sym (bit_word x (v / 64) (v % 64) (omega arith) ∙ ap (bit x) e)
        ∙ ap (λ (z : ℕ). bit z (v % 64)) (h (v / 64) (omega arith))
        ∙ bit_word y (v / 64) (v % 64) (omega arith)
        ∙ ap (bit y) e

-- a word that was read is one of the row's number
pub row_word_is : (rs : List ℕ) (i w x : ℕ) → x ≡ row_word rs i w → x < 2 ^ 64 → w < 16 → x ≡ word_of (row_number rs i) w
unfolding row_word row_number
row_word_is rs i w x e f h = sym (word_number 16 rs (i * 16) w h ∙ ap (λ (y : ℕ). y % 2 ^ 64) (sym e) ∙ mod-eq_of_lt f)

-- word k of row i has each bit that the other row's has
abbrev pub Covers : List ℕ → List ℕ → ℕ → ℕ → Type 0
Covers rs qs i k = bit_or (word_of (row_number rs i) k) (word_of (row_number qs i) k) ≡ word_of (row_number rs i) k

pub bits_same : (rs qs : List ℕ) (i w x y : ℕ) → x ≡ row_word rs i w → x < 2 ^ 64 → y ≡ row_word qs i w → y < 2 ^ 64 → w < 16 → bit_or x y ≡ x → Covers rs qs i w
bits_same rs qs i w x y p f q g h e =
    let a = row_word_is rs i w x p f h in
    let b = row_word_is qs i w y q g h in
    sym (ap₂ bit_or a b) ∙ e ∙ a

pub bits_new : (rs qs : List ℕ) (i w x y : ℕ) → x ≡ row_word rs i w → x < 2 ^ 64 → y ≡ row_word qs i w → y < 2 ^ 64 → w < 16 → (bit_or x y ≡ x → ⊥) → true ≡ not (eqb (bit_or (row_number rs i) (row_number qs i)) (row_number rs i))
bits_new rs qs i w x y p f q g h n =
    let a = row_word_is rs i w x p f h in
    let b = row_word_is qs i w y q g h in
    sym (ap not (ne_eqb (bit_or (row_number rs i) (row_number qs i)) (row_number rs i)
    (λ e. n (ap₂ bit_or a b ∙ sym (word_or (row_number rs i) (row_number qs i) w) ∙ ap (λ (z : ℕ). word_of z w) e ∙ sym a))))

pub bits_none : (rs qs : List ℕ) (i : ℕ) → ((k : ℕ) → k < 16 → Covers rs qs i k) → false ≡ not (eqb (bit_or (row_number rs i) (row_number qs i)) (row_number rs i))
bits_none rs qs i h =
    sym (ap not (eq-eqb (bit_or (row_number rs i) (row_number qs i)) (row_number rs i)
    (words_ext (bit_or (row_number rs i) (row_number qs i)) (row_number rs i)
    (or_lt 1024 (row_number rs i) (row_number qs i) (row_fits rs i) (row_fits qs i)) (row_fits rs i)
    (λ k p. word_or (row_number rs i) (row_number qs i) k ∙ h k p))))

-- ---- adds_set

same_test : (a b c d : ℕ) → (a ≡ b → c ≡ d) → (c ≡ d → a ≡ b) → eqb a b ≡ eqb c d
same_test a b c d f g = ⊎_elim (λ e. eq-eqb a b e ∙ sym (eq-eqb c d (f e))) (λ n. ne_eqb a b n ∙ sym (ne_eqb c d (λ e. n (g e)))) (same_or_not a b)

-- of two odd rows, bit 0 makes no difference
odd_rows : (x y : ℕ) → x % 2 ≡ 1 → y % 2 ≡ 1 → eqb (bit_or x y) x ≡ eqb (bit_or (x - 1) (y - 1)) (x - 1)
odd_rows x y p q =
    let t : ℕ = bit_or (x / 2) (y / 2) in
    let a : bit_or x y ≡ t * 2 + max (x % 2) (y % 2) = or_step x y in
    let b : bit_or (x - 1) (y - 1) ≡ bit_or ((x - 1) / 2) ((y - 1) / 2) * 2 + max ((x - 1) % 2) ((y - 1) % 2) = or_step (x - 1) (y - 1) in
    let d : (x - 1) / 2 ≡ x / 2 = omega arith in
    let e : (y - 1) / 2 ≡ y / 2 = omega arith in
    let k : bit_or ((x - 1) / 2) ((y - 1) / 2) ≡ t = ap₂ bit_or d e in
    let c : bit_or (x - 1) (y - 1) ≡ t * 2 = omega arith in
    same_test (bit_or x y) x (bit_or (x - 1) (y - 1)) (x - 1) (λ h. omega arith) (λ h. omega arith)

by_bits : (x y d e : ℕ) → x % 2 ≡ d → y % 2 ≡ e → is_some (marked e y) ≡ true → not (eqb (bit_or x y) x) ≡ adds_set (marked d x) (marked e y)
unfolding adds_set
by_bits x y d zero p q h = let z : ◌≡◌ {A = ℕ} 0 1 = cc in absurd (omega arith)
by_bits x y zero (suc e) p q h =
    let o : bit_or x y % 2 ≡ max (x % 2) (y % 2) = or_odd x y in
    ap not (ne_eqb (bit_or x y) x (λ z. let w : bit_or x y % 2 ≡ x % 2 = ap (λ (n : ℕ). n % 2) z in omega arith))
by_bits x y (suc d) (suc e) p q h =
    let l : x % 2 < 2 = mod-lt x (zero-lt-suc 1) in
    let m : y % 2 < 2 = mod-lt y (zero-lt-suc 1) in
    ap not (odd_rows x y (omega arith) (omega arith))

-- a row that is defined adds what its bits add
pub set_some : (rs qs : List ℕ) (i : ℕ) (b t : Bool) → b ≡ is_some (set_at qs i) → b ≡ true → t ≡ not (eqb (bit_or (row_number rs i) (row_number qs i)) (row_number rs i)) → t ≡ adds_set (set_at rs i) (set_at qs i)
unfolding set_at
set_some rs qs i b t p q e = e ∙ by_bits (row_number rs i) (row_number qs i) (row_number rs i % 2) (row_number qs i % 2) refl refl (sym p ∙ q)

nothing_new : (x y : Option ℕ) → y ≡ None → false ≡ adds_set x y
unfolding adds_set
nothing_new None y e = sym (ap (adds_set None) e)
nothing_new (Some m) y e = sym (ap (adds_set (Some m)) e)

-- one that is not adds nothing
pub set_none : (x y : Option ℕ) (b : Bool) → b ≡ is_some y → b ≡ false → false ≡ adds_set x y
set_none x y b p q = nothing_new x y (none_of y (sym p ∙ q))

-- ---- adds_values and adds_sets: a loop that goes down

-- numbers from m on that fail need not be looked at
any_cut : (f : ℕ → Bool) (m d : ℕ) → ((k : ℕ) → m ≤ k → k < m + d → f k ≡ false) → any_below (m + d) f ≡ any_below m f
unfolding any_below
any_cut f m zero h = ap (λ (n : ℕ). any_below n f) (add-zero m)
any_cut f m (suc d) h =
    ap (λ (n : ℕ). any_below n f) (add-suc m d)
    ∙ ap (λ (c : Bool). elim c as (λ x. Bool) [ true ↦ true | false ↦ any_below (m + d) f ]) (h (m + d) (omega arith) (omega arith))
    ∙ any_cut f m d (λ k p q. h k p (omega arith))

-- a row past the end is not defined
pub row_past : (rs : List ℕ) (i : ℕ) → length rs ≤ i * 16 → set_at rs i ≡ None
unfolding set_at row_number
row_past rs i h = ap (λ (x : ℕ). marked (x % 2) x) (number_none 16 rs (i * 16) (λ j p. get_or-eq_default rs 0 {n = i * 16 + j} (omega arith)))

-- so it adds nothing, and the loop begins at the end of the list
pub rows_cut : (ss ts : List ℕ) (r : ℕ) → r ≡ min 512 ((length ts + 15) / 16) → any_below 512 (set_adds ss ts) ≡ any_below r (set_adds ss ts)
rows_cut ss ts r e =
    ap (λ (n : ℕ). any_below n (set_adds ss ts)) (let z : 512 ≡ r + (512 - r) = omega arith in z)
    ∙ any_cut (set_adds ss ts) r (512 - r) (λ k p q. sym (nothing_new (set_at ss k) (set_at ts k) (row_past ts k (omega arith))))

-- ---- adds and is_above

not_not : (b : Bool) → not (not b) ≡ b
not_not true = refl
not_not false = refl

pub above_is : (s t : Entries) (b : Bool) → b ≡ adds s t → not b ≡ above s t
above_is s t b e = ap not (e ∙ adds_not_above s t) ∙ not_not (above s t)

-- ---- put_entry

pub put_present : (vs us : List ℕ) (v : ℕ) (e : Option AbstractValue) (a : AbstractValue) → e ≡ Some a → us ≡ put_value vs v a → us ≡ put_entry vs v e
put_present vs us v e a p q = q ∙ ap (λ (d : Option AbstractValue). put_entry vs v d) (sym p)

-- ---- merge_value

pub merge_value_is : (vs us ws : List ℕ) (v : ℕ) (t : Bool) (o x y : Option AbstractValue) → t ≡ value_adds vs ws v → t ≡ true → x ≡ value_at vs v → y ≡ value_at ws v → o ≡ join_option Values.join x y → us ≡ put_entry vs v o → us ≡ merge_value ws v vs
unfolding merge_value
merge_value_is vs us ws v t o x y p q a b e h =
    h ∙ ap (put_entry vs v) (e ∙ ap₂ (join_option Values.join) a b)
    ∙ ap (λ (c : Bool). ite c (put_entry vs v (join_option Values.join (value_at vs v) (value_at ws v))) vs) (sym q ∙ p)

pub merge_value_not : (vs ws : List ℕ) (v : ℕ) (t : Bool) → t ≡ value_adds vs ws v → t ≡ false → vs ≡ merge_value ws v vs
unfolding merge_value
merge_value_not vs ws v t p q = ap (λ (c : Bool). ite c (put_entry vs v (join_option Values.join (value_at vs v) (value_at ws v))) vs) (sym q ∙ p)

-- ---- merge_set

-- where the second adds to it, the join is the union of the members, of none where it was not defined
joined_bits : (x y : Option ℕ) → adds_set x y ≡ true → join_option union x y ≡ Some (bit_or (bits_of x) (bits_of y))
unfolding adds_set join_option
joined_bits None None h = let z : ◌≡◌ {A = ℕ} 0 1 = cc in absurd (omega arith)
joined_bits (Some s) None h = let z : ◌≡◌ {A = ℕ} 0 1 = cc in absurd (omega arith)
joined_bits None (Some t) h = ap Some (sym (or_zero_l t))
joined_bits (Some s) (Some t) h = refl

pub merge_set_is : (ss us ts k l m : List ℕ) (i : ℕ) (b : Bool) → b ≡ set_adds ss ts i → b ≡ true → 16 ≤ length k → number 16 k 0 ≡ 0
    → l ≡ add_set k (bits_of (set_at ss i)) → m ≡ add_set l (bits_of (set_at ts i)) → us ≡ put_set ss i (number 16 m 0) → us ≡ merge_set ts i ss
unfolding merge_set
merge_set_is ss us ts k l m i b p q h z e f g =
    g
    ∙ ap (put_set ss i)
    (add_row ts i l m (subst (λ (n : ℕ). 16 ≤ n) (sym (ap length e ∙ add_length k (bits_of (set_at ss i)))) h) f
    ∙ ap (λ (x : ℕ). bit_or x (bits_of (set_at ts i)))
    (add_row ss i k l h e ∙ ap (λ (x : ℕ). bit_or x (bits_of (set_at ss i))) z ∙ or_zero_l (bits_of (set_at ss i))))
    ∙ ap (put_some ss i) (sym (joined_bits (set_at ss i) (set_at ts i) (sym p ∙ q)))
    ∙ ap (λ (c : Bool). ite c (put_some ss i (join_option union (set_at ss i) (set_at ts i))) ss) (sym q ∙ p)

pub merge_set_not : (ss ts : List ℕ) (i : ℕ) (b : Bool) → b ≡ set_adds ss ts i → b ≡ false → ss ≡ merge_set ts i ss
unfolding merge_set
merge_set_not ss ts i b p q = ap (λ (c : Bool). ite c (put_some ss i (join_option union (set_at ss i) (set_at ts i))) ss) (sym q ∙ p)

-- ---- a loop that counts up, with t what it is to make

module _ {S : Type 0} (g : ℕ → S → S) (n : ℕ) where
  -- it begins at 0, with all turns left
  pub loop_start : (s : S) → upto g n 0 s ≡ upto g (n - 0) 0 s
  loop_start s = ap (λ (k : ℕ). upto g k 0 s) (let z : n ≡ n - 0 = omega arith in z)

  pub loop_turn : (v : ℕ) (s r t : S) → t ≡ upto g (n - v) v s → v < n → r ≡ g v s → t ≡ upto g (n - (v + 1)) (v + 1) r
  loop_turn v s r t h l e = h ∙ upto_step g n v s l ∙ ap (upto g (n - (v + 1)) (v + 1)) (sym e)

  pub loop_end : (v : ℕ) (s t : S) → t ≡ upto g (n - v) v s → n ≤ v → s ≡ t
  loop_end v s t h l = sym (h ∙ upto_end g n v s l)

-- ---- copy_words and clear_words

pub copied : (from into : List ℕ) (k x : ℕ) (l : List ℕ) → x ≡ get_or from k 0 → l ≡ set into k x → l ≡ copy_word from k into
unfolding copy_word
copied from into k x l e h = h ∙ ap (set into k) e

clear_turn : (w : ℕ) (l : List ℕ) → clear_word w l ≡ set l (0 + w) 0
unfolding clear_word
clear_turn w l = ap (λ (k : ℕ). set l k 0) (let z : w ≡ 0 + w = omega arith in z)

pub cleared : (l : List ℕ) → upto clear_word (length l) 0 l ≡ replicate (length l) 0
cleared l = ext_get_or 0 (upto clear_word (length l) 0 l) (replicate (length l) 0) (len ∙ sym (length-replicate (length l) 0)) at
  where
    len : length (upto clear_word (length l) 0 l) ≡ length l
    len = words_length clear_word 0 (λ w x. 0) clear_turn (length l) 0 l

    at : (k : ℕ) → k < length (upto clear_word (length l) 0 l) → get_or (upto clear_word (length l) 0 l) k 0 ≡ get_or (replicate (length l) 0) k 0
    at k h =
        let z : k ≡ 0 + k = omega arith in
        let m : k < length l = subst (λ (n : ℕ). k < n) len h in
        ap (λ (u : ℕ). get_or (upto clear_word (length l) 0 l) u 0) z
        ∙ words_at clear_word 0 (λ w x. 0) clear_turn (length l) 0 l k (omega arith) (omega arith) (omega arith)
        ∙ sym (get_or-replicate (length l) k 0 0 (omega arith))

-- ---- merge_into

module _ (b : Bool) (vs ss ws ts vc sc : List ℕ) where
  pub into_some : (v1 v2 s1 s2 : List ℕ) → b ≡ adds (entries vs ss) (entries ws ts) → b ≡ true → v1 ≡ copy_words vc vs → v2 ≡ merge_values v1 ws → s1 ≡ copy_words sc ss → s2 ≡ merge_sets (rows_of s1) s1 ts
      → (true ≡ adds (entries vs ss) (entries ws ts)) × (v2 ≡ merged_values true vc vs ws) × (s2 ≡ merged_sets true sc ss ts)
  into_some v1 v2 s1 s2 p q a c d e = (
    sym q ∙ p,
    c ∙ ap (λ (l : List ℕ). merge_values l ws) a,
    e ∙ ap (λ (l : List ℕ). merge_sets (rows_of l) l ts) d,
  )

  pub into_none : (v1 s1 : List ℕ) → b ≡ adds (entries vs ss) (entries ws ts) → b ≡ false → v1 ≡ replicate (length vc) 0 → s1 ≡ replicate (length sc) 0
      → (false ≡ adds (entries vs ss) (entries ws ts)) × (v1 ≡ merged_values false vc vs ws) × (s1 ≡ merged_sets false sc ss ts)
  into_none v1 s1 p q a d = (sym q ∙ p, a, d)
