-- What the decoded values and sets hold is what image `Decode` says: its tables of values and of sets. Assumes nothing.
use Rattle.std.specs.Prelude.{ℕ, zero, suc, ◌+◌, ◌*◌, ◌-◌, ◌^◌, ◌%◌, ◌<◌, max, ◌≡◌, refl, Bool, true, false, List, length, Option, None, Some}
use Rattle.std.proofs.Common.{sym, ap, ap₂, ◌∙◌, subst, ⊎_elim, pow-suc, arith, lit<, eq-eqb, ne_eqb}
use Rattle.std.specs.Int.Bits.{bit_or}
use Rattle.std.proofs.lemmas.Nat.{or_lt}
use Rattle.std.proofs.Math.Pow.{pow-lt}
use Rattle.base_orders.proofs.Laws.Union.{or_odd}
use Rattle.lent_copies.specs.Copies.{zeros}
use Rattle.def_kinds.specs.declared.AbstractValue.{AbstractValue}
use Rattle.def_kinds.specs.Kinds.{kind_at}
use Rattle.def_kinds.specs.Values.{mk}
use Rattle.lent_values.specs.Cells.{cell_of, value_at, put_value}
use Rattle.lent_values.proofs.Laws.Cell.{value_same, value_other, put_length}
use Rattle.lent_sets.specs.Rows.{number, row_number, marked, set_at, put_set}
use Rattle.base_sets.specs.Members.{bits_of}
use Rattle.base_tests.proofs.Laws.Order.{same_or_not}
use Rattle.lent_sets.proofs.Laws.Bit.{bit_low}
use Rattle.lent_sets.proofs.Laws.Row.{Fit, fit_set, set_zero, bits_small, set_same, set_other}
use Rattle.def_transfer.specs.Pure.{at}
use Rattle.def_image.specs.Layout.{Image, value_number, value_kind, value_reasons, pair_identifier, pair_value}
use Rattle.def_image.specs.Decode.{member_of, with_pair, value_table, set_table}
use Rattle.image_decode.specs.Decoded.{after, decoded_value, decoded_values, decoded_pair, decoded_sets}
use Rattle.lent_copies.proofs.Laws.Copy.{zero_word}

-- ---- lists and tables

-- every record done keeps the length of the list, so all do
pub after_length : (g : ℕ → List ℕ → List ℕ) → ((k : ℕ) (c : List ℕ) → length (g k c) ≡ length c) → (n : ℕ) (c : List ℕ) → length (after g n c) ≡ length c
unfolding after
after_length g h zero c = refl
after_length g h (suc n) c = h n (after g n c) ∙ after_length g h n c

-- a table with an entry written, read there
at_same : {A : Type 0} (f : ℕ → A) (i j : ℕ) (x : A) → i ≡ j → at f i x j ≡ x
unfolding at
at_same f i j x e = ap (λ (b : Bool). elim b [ true ↦ x | false ↦ f j ]) (eq-eqb i j e)

-- and read elsewhere
at_other : {A : Type 0} (f : ℕ → A) (i j : ℕ) (x : A) → (i ≡ j → ⊥) → at f i x j ≡ f j
unfolding at
at_other f i j x e = ap (λ (b : Bool). elim b [ true ↦ x | false ↦ f j ]) (ne_eqb i j e)

-- ---- values

-- zeros hold no value
pub no_value : (m v : ℕ) → value_at (zeros m) v ≡ None
unfolding value_at cell_of
no_value m v = ap cell_of (zero_word m v)

-- a value put keeps the length of the table
pub value_length : (im : Image) (k : ℕ) (vs : List ℕ) → length (decoded_value im k vs) ≡ length vs
unfolding decoded_value
value_length im k vs = put_length vs (value_number im k) (mk (kind_at (value_kind im k)) (value_reasons im k))

-- the values of an image in range are read back as its table of values
-- each number has a word, and reasons fit above a kind
pub values_back : (im : Image) (vs : List ℕ) → ((x : ℕ) → value_at vs x ≡ None) → (n : ℕ) → ((k : ℕ) → k < n → (value_number im k < length vs) × (value_reasons im k < 4294967296))
    → (v : ℕ) → value_at (decoded_values im n vs) v ≡ value_table im n v
unfolding decoded_values after value_table decoded_value
values_back im vs z zero r v = z v
values_back im vs z (suc n) r v =
    ⊎_elim
    (λ e. ap (value_at (put_value (after (decoded_value im) n vs) (value_number im n) a)) (sym e)
    ∙ value_same (after (decoded_value im) n vs) (value_number im n) a
    (subst (λ (m : ℕ). value_number im n < m) (sym (after_length (decoded_value im) (value_length im) n vs)) (r n (omega arith)).0)
    (r n (omega arith)).1
    ∙ sym (at_same (value_table im n) (value_number im n) v (Some a) e))
    (λ d. value_other (after (decoded_value im) n vs) (value_number im n) a v d
    ∙ values_back im vs z n (λ k l. r k (omega arith)) v
    ∙ sym (at_other (value_table im n) (value_number im n) v (Some a) d))
    (same_or_not (value_number im n) v)
  where
    a : AbstractValue
    a = mk (kind_at (value_kind im n)) (value_reasons im n)

-- ---- sets

-- zeros hold no set
pub no_set : (m i : ℕ) → set_at (zeros m) i ≡ None
unfolding set_at row_number number
no_set m i = ap (λ (x : ℕ). marked (x % 2) x) (none_in 16 (i * 16))
  where
    none_in : (n k : ℕ) → number n (zeros m) k ≡ 0
    none_in zero k = refl
    none_in (suc n) k = ap₂ (λ (x y : ℕ). x * 2 ^ 64 + y % 2 ^ 64) (none_in n (suc k)) (zero_word m k)

-- value 0 is no member, any other is its own bit
-- "value 0 .. means defined with an empty set"
member_is : (P : ℕ → Type 0) (v : ℕ) → P 0 → ((u : ℕ) → v ≡ suc u → P (2 ^ v)) → P (member_of v)
unfolding member_of
member_is P v a b =
    ⊎_elim
    (λ e. subst P (sym (ap (λ (d : Bool). elim d [ true ↦ 0 | false ↦ 2 ^ v ]) (eq-eqb v 0 e))) a)
    (λ n. subst P (sym (ap (λ (d : Bool). elim d [ true ↦ 0 | false ↦ 2 ^ v ]) (ne_eqb v 0 n))) (b (v - 1) (let z : v ≡ suc (v - 1) = omega arith in z)))
    (same_or_not v 0)

-- a member below 1,024 fits a row
-- it has 1,024 bits
member_small : (v : ℕ) → v < 1024 → member_of v < 2 ^ 1024
member_small v h = member_is (λ x. x < 2 ^ 1024) v (lit< tt) (λ u e. pow-lt {i = v} {j = 1024} h)

-- a member does not say that its identifier is defined
-- bit 0 of a row does
member_even : (v : ℕ) → member_of v % 2 ≡ 0
member_even v =
    member_is (λ x. x % 2 ≡ 0) v refl (λ u e. let p : 2 ^ v ≡ 2 ^ u * 2 = ap (λ (x : ℕ). 2 ^ x) e ∙ pow-suc 2 u in let z : 2 ^ v % 2 ≡ 0 = omega arith in z)

-- neither does the set of a row
-- bit 0 is taken away
bits_even : (rs : List ℕ) (i : ℕ) → bits_of (set_at rs i) % 2 ≡ 0
bits_even rs i = go (set_at rs i) refl
  where
    go : (o : Option ℕ) → set_at rs i ≡ o → bits_of o % 2 ≡ 0
    go None e = refl
    go (Some s) e = sym (bit_low s) ∙ set_zero rs i s e

-- the bits of a set, said twice
same_bits : (o : Option ℕ) → bits_of o ≡ bits_of o
same_bits None = refl
same_bits (Some s) = refl

-- the union that a pair stores
pair_stored : (n : ℕ) (rs : List ℕ) (i v : ℕ) → Fit n rs → i < n → v < 1024 → set_at (put_set rs i (bit_or (bits_of (set_at rs i)) (member_of v))) i ≡ Some (bit_or (bits_of (set_at rs i)) (member_of v))
pair_stored n rs i v f h l =
    let s : ℕ = bit_or (bits_of (set_at rs i)) (member_of v) in
    let a : bits_of (set_at rs i) % 2 ≡ 0 = bits_even rs i in
    let b : member_of v % 2 ≡ 0 = member_even v in
    let o : s % 2 ≡ max (bits_of (set_at rs i) % 2) (member_of v % 2) = or_odd (bits_of (set_at rs i)) (member_of v) in
    set_same n rs i s f h (or_lt 1024 (bits_of (set_at rs i)) (member_of v) (bits_small rs i) (member_small v l)) ∙ ap Some (let z : s - s % 2 ≡ s = omega arith in z)

-- a pair put keeps the length of the rows
pair_fits : (im : Image) (m n : ℕ) (ss : List ℕ) → Fit m ss → Fit m (after (decoded_pair im) n ss)
unfolding after decoded_pair
pair_fits im m zero ss f = f
pair_fits im m (suc n) ss f = fit_set m (after (decoded_pair im) n ss) _ _ (pair_fits im m n ss f)

-- one pair more is read back, where those before are
pair_back : (im : Image) (m n : ℕ) (rs : List ℕ) → Fit m rs → pair_identifier im n < m → pair_value im n < 1024 → ((x : ℕ) → set_at rs x ≡ set_table im n x) → (i : ℕ) → set_at (decoded_pair im n rs) i ≡ set_table im (suc n) i
unfolding set_table decoded_pair with_pair
pair_back im m n rs f h l before i =
    ⊎_elim
    (λ e. ap (set_at (put_set rs j (bit_or (bits_of (set_at rs j)) (member_of v)))) (sym e)
    ∙ pair_stored m rs j v f h l
    ∙ ap (λ (x : ℕ). Some (bit_or x (member_of v))) (same_bits (set_at rs j) ∙ ap bits_of (before j))
    ∙ sym (at_same (set_table im n) j i (Some (bit_or (bits_of (set_table im n j)) (member_of v))) e))
    (λ d. set_other rs j (bit_or (bits_of (set_at rs j)) (member_of v)) i d
    ∙ before i
    ∙ sym (at_other (set_table im n) j i (Some (bit_or (bits_of (set_table im n j)) (member_of v))) d))
    (same_or_not j i)
  where
    j : ℕ
    j = pair_identifier im n

    v : ℕ
    v = pair_value im n

-- the pairs of an image in range are read back as its table of sets
pub sets_back : (im : Image) (m : ℕ) (ss : List ℕ) → Fit m ss → ((x : ℕ) → set_at ss x ≡ None) → (n : ℕ) → ((k : ℕ) → k < n → (pair_identifier im k < m) × (pair_value im k < 1024))
    → (i : ℕ) → set_at (decoded_sets im n ss) i ≡ set_table im n i
unfolding decoded_sets after set_table
sets_back im m ss f z zero r i = z i
sets_back im m ss f z (suc n) r i =
    pair_back im m n (after (decoded_pair im) n ss) (pair_fits im m n ss f) (r n (omega arith)).0 (r n (omega arith)).1 (sets_back im m ss f z n (λ k l. r k (omega arith))) i
