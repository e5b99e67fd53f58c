-- Laws of fields and places: what stands where it was written, and what a write leaves. Assumes nothing.
use Rattle.std.specs.Prelude.{ℕ, zero, suc, ◌+◌, ◌-◌, ◌*◌, ◌/◌, ◌%◌, ◌≤◌, ◌<◌, ◌≡◌, refl, Bool, true, false, ◌&&◌, ◌||◌, ◌⊎◌, List, [], ◌∷◌, ltb, leb, length, get_or, set}
use Rattle.std.proofs.Common.{sym, ap, ap₂, ◌∙◌, inl, inr, ⊎_elim, mul-le-mul, mul-le-mul_right, suc-mul, mod-eq_of_lt, arith, length-set, get_or-set_same, get_or-set_other, ltb-true, lt-ltb, le-ltb, leb-true}
use Rattle.std.proofs.Math.Nat.{mul-add-div_right, div-eq_of_lt, mul-add-mod_self_right}
use Rattle.base_tests.proofs.Laws.Bool.{and_true, and_false}
use Rattle.base_tests.specs.Tests.{ite}
use Rattle.def_effects.specs.declared.Place.{Place}
use Rattle.lent_tables.specs.declared.Table.{Table}
use Rattle.lent_tables.specs.Words.{within, index, end, apart, field, put_field, place_in, put_place, places_in, put_places}

-- ---- numbers

-- a record of a table ends where the table does, or before it
-- `omega` takes each product as one number, so this is said once
pub record_ends : (i n a : ℕ) → i < n → i * a + a ≤ n * a
record_ends i n a h =
    let p : suc i * a ≤ n * a = mul-le-mul_right a h in
    let q : suc i * a ≡ i * a + a = suc-mul i a in
    omega arith

-- the end of a record fits 64 bits, with room for a base of 32 bits
pub record_fits : (i n a : ℕ) → i < n → n < 4294967296 → a < 4294967296 → i * a + a ≤ 18446744065119617025
record_fits i n a h m k =
    let x : n ≤ 4294967295 = omega arith in
    let y : a ≤ 4294967295 = omega arith in
    let p : i * a + a ≤ n * a = record_ends i n a h in
    let q : n * a ≤ 4294967295 * 4294967295 = mul-le-mul x y in
    omega arith

-- two words of records of one width that stand at one place are in one record
-- a word is less than the width, so the quotient tells the record
same_record : (a i w j v : ℕ) → w < a → v < a → i * a + w ≡ j * a + v → i ≡ j
same_record a i w j v p q e = sym (quotient i w p) ∙ ap (λ (x : ℕ). x / a) e ∙ quotient j v q
  where
    quotient : (k u : ℕ) → u < a → (k * a + u) / a ≡ k
    quotient k u h =
        let z : 0 < a = omega arith in
        let f : (k * a + u) / a ≡ k + u / a = mul-add-div_right z k u in
        let g : u / a ≡ 0 = div-eq_of_lt h in
        omega arith

-- and they are one word of it
same_word : (a i w j v : ℕ) → w < a → v < a → i * a + w ≡ j * a + v → w ≡ v
same_word a i w j v p q e = sym (remainder i w p) ∙ ap (λ (x : ℕ). x % a) e ∙ remainder j v q
  where
    remainder : (k u : ℕ) → u < a → (k * a + u) % a ≡ u
    remainder k u h = mul-add-mod_self_right k a u ∙ mod-eq_of_lt h

-- ---- tests

-- the first of two tests passed
-- what `within` says of the record
and_left : (a b : Bool) → (a && b) ≡ true → a ≡ true
and_left true b e = refl
and_left false b e = e

-- the second of two tests passed
-- what `within` says of the word
and_right : (a b : Bool) → (a && b) ≡ true → b ≡ true
and_right true b e = e
and_right false b e = let z : ◌≡◌ {A = ℕ} 0 1 = cc in absurd (omega arith)

-- one of two tests passed
-- what `apart` says of two tables
or_either : (a b : Bool) → (a || b) ≡ true → (a ≡ true) ⊎ (b ≡ true)
or_either true b e = inl refl
or_either false b e = inr e

-- a word that the table has
pub within_yes : (t : Table) (i w : ℕ) → i < t.count → w < t.width → within t i w ≡ true
unfolding within
within_yes t i w p q = and_true (ltb i t.count) (ltb w t.width) (lt-ltb i t.count p) (lt-ltb w t.width q)

-- a record that the table does not have
pub within_no_record : (t : Table) (i w : ℕ) → t.count ≤ i → within t i w ≡ false
unfolding within
within_no_record t i w p = ap (λ (b : Bool). b && ltb w t.width) (le-ltb i t.count p)

-- a word that no record of the table has
pub within_no_word : (t : Table) (i w : ℕ) → t.width ≤ w → within t i w ≡ false
unfolding within
within_no_word t i w p = and_false (ltb i t.count) (ltb w t.width) (le-ltb w t.width p)

-- the record of a word that the table has
pub within_record : (t : Table) (i w : ℕ) → within t i w ≡ true → i < t.count
unfolding within
within_record t i w h = ltb-true i t.count (and_left (ltb i t.count) (ltb w t.width) h)

-- the word of a record that the table has
pub within_word : (t : Table) (i w : ℕ) → within t i w ≡ true → w < t.width
unfolding within
within_word t i w h = ltb-true w t.width (and_right (ltb i t.count) (ltb w t.width) h)

-- a test decides
-- a law of `field` goes by whether the table has the word
decided : (b : Bool) → (b ≡ true) ⊎ (b ≡ false)
decided true = inl refl
decided false = inr refl

-- ---- where words stand

-- no word of a table stands before it
pub index_begins : (t : Table) (i w : ℕ) → t.base ≤ index t i w
unfolding index
index_begins t i w = omega arith

-- no word of a table stands at its end or after it
pub index_ends : (t : Table) (i w : ℕ) → within t i w ≡ true → index t i w < end t
unfolding index end
index_ends t i w h =
    let p : i * t.width + t.width ≤ t.count * t.width = record_ends i t.count t.width (within_record t i w h) in
    let q : w < t.width = within_word t i w h in
    omega arith

-- words of a table at one place are in one record
pub index_record : (t : Table) (i w j v : ℕ) → within t i w ≡ true → within t j v ≡ true → index t i w ≡ index t j v → i ≡ j
unfolding index
index_record t i w j v p q e =
    same_record t.width i w j v (within_word t i w p) (within_word t j v q)
    (let z : i * t.width + w ≡ j * t.width + v = omega arith in z)

-- and they are one word of it
pub index_word : (t : Table) (i w j v : ℕ) → within t i w ≡ true → within t j v ≡ true → index t i w ≡ index t j v → w ≡ v
unfolding index
index_word t i w j v p q e =
    same_word t.width i w j v (within_word t i w p) (within_word t j v q)
    (let z : i * t.width + w ≡ j * t.width + v = omega arith in z)

-- ---- one word: read and written

-- a word that the table has is the list's at its place
pub field_in : (t : Table) (c : List ℕ) (i w : ℕ) → within t i w ≡ true → field t c i w ≡ get_or c (index t i w) 0
unfolding field
field_in t c i w h = ap (λ (b : Bool). ite b (get_or c (index t i w) 0) 0) h

-- a word that the table does not have is 0
pub field_out : (t : Table) (c : List ℕ) (i w : ℕ) → within t i w ≡ false → field t c i w ≡ 0
unfolding field
field_out t c i w h = ap (λ (b : Bool). ite b (get_or c (index t i w) 0) 0) h

-- a word that the table has is written at its place
pub put_in : (t : Table) (c : List ℕ) (i w x : ℕ) → within t i w ≡ true → put_field t c i w x ≡ set c (index t i w) x
unfolding put_field
put_in t c i w x h = ap (λ (b : Bool). ite b (set c (index t i w) x) c) h

-- a word that the table does not have is not written
pub put_out : (t : Table) (c : List ℕ) (i w x : ℕ) → within t i w ≡ false → put_field t c i w x ≡ c
unfolding put_field
put_out t c i w x h = ap (λ (b : Bool). ite b (set c (index t i w) x) c) h

-- a write keeps the list's length
pub put_length : (t : Table) (c : List ℕ) (i w x : ℕ) → length (put_field t c i w x) ≡ length c
put_length t c i w x =
    ⊎_elim
    (λ h. ap length (put_in t c i w x h) ∙ length-set c (index t i w) x)
    (λ h. ap length (put_out t c i w x h))
    (decided (within t i w))

-- what was written is read, inside the table and the list
pub put_same : (t : Table) (c : List ℕ) (i w x : ℕ) → within t i w ≡ true → index t i w < length c → field t (put_field t c i w x) i w ≡ x
put_same t c i w x h l =
    field_in t (put_field t c i w x) i w h
    ∙ ap (λ (d : List ℕ). get_or d (index t i w) 0) (put_in t c i w x h)
    ∙ get_or-set_same c (index t i w) x 0 l

-- a write leaves each place of the list that is not the word's
-- every law of what a write leaves is this one with a reason why the places differ
pub put_read : (t : Table) (c : List ℕ) (i w x k : ℕ) → (within t i w ≡ true → index t i w ≡ k → ⊥) → get_or (put_field t c i w x) k 0 ≡ get_or c k 0
put_read t c i w x k n =
    ⊎_elim
    (λ h. ap (λ (d : List ℕ). get_or d k 0) (put_in t c i w x h) ∙ get_or-set_other c (index t i w) k x 0 (λ e. n h (sym e)))
    (λ h. ap (λ (d : List ℕ). get_or d k 0) (put_out t c i w x h))
    (decided (within t i w))

-- lists with the same number at a word's place have the same word
pub field_cong : (u : Table) (c d : List ℕ) (j v : ℕ) → (within u j v ≡ true → get_or d (index u j v) 0 ≡ get_or c (index u j v) 0) → field u d j v ≡ field u c j v
field_cong u c d j v n =
    ⊎_elim
    (λ h. field_in u d j v h ∙ n h ∙ sym (field_in u c j v h))
    (λ h. field_out u d j v h ∙ sym (field_out u c j v h))
    (decided (within u j v))

-- ---- the ways through the code

-- the code's read: the base and the width as indices
pub reads_field : (t : Table) (c : List ℕ) (i w a b x : ℕ) → a ≡ t.base → b ≡ t.width → i < t.count → w < t.width → x ≡ get_or c (a + i * b + w) 0 → x ≡ field t c i w
unfolding index
reads_field t c i w a b x p q h l e =
    e ∙ ap₂ (λ (m n : ℕ). get_or c (m + i * n + w) 0) p q ∙ sym (field_in t c i w (within_yes t i w h l))

-- the code's write: the base and the width as indices
pub writes_field : (t : Table) (c d : List ℕ) (i w x a b : ℕ) → a ≡ t.base → b ≡ t.width → i < t.count → w < t.width → d ≡ set c (a + i * b + w) x → d ≡ put_field t c i w x
unfolding index
writes_field t c d i w x a b p q h l e =
    e ∙ ap₂ (λ (m n : ℕ). set c (m + i * n + w) x) p q ∙ sym (put_in t c i w x (within_yes t i w h l))

-- ---- why places differ

-- a place before a table or after it is no word of it
outside_not : (t : Table) (k : ℕ) → (k < t.base) ⊎ (end t ≤ k) → (i w : ℕ) → within t i w ≡ true → index t i w ≡ k → ⊥
outside_not t k o i w h e =
    let p : t.base ≤ index t i w = index_begins t i w in
    let q : index t i w < end t = index_ends t i w h in
    ⊎_elim {C = ⊥} (λ l. omega arith) (λ l. omega arith) o

-- a word of a table is no word of one that stands apart
apart_not : (t u : Table) → apart t u ≡ true → (j v : ℕ) → within u j v ≡ true → (i w : ℕ) → within t i w ≡ true → index t i w ≡ index u j v → ⊥
unfolding apart
apart_not t u a j v g =
    let p : u.base ≤ index u j v = index_begins u j v in
    let q : index u j v < end u = index_ends u j v g in
    outside_not t (index u j v)
    (⊎_elim
    (λ l. inr (let z : end t ≤ u.base = leb-true (end t) u.base l in let y : end t ≤ index u j v = omega arith in y))
    (λ l. inl (let z : end u ≤ t.base = leb-true (end u) t.base l in let y : index u j v < t.base = omega arith in y))
    (or_either (leb (end t) u.base) (leb (end u) t.base) a))

-- a word of a record is no word of another record
record_not : (t : Table) (i j : ℕ) → (i ≡ j → ⊥) → (v : ℕ) → within t j v ≡ true → (w : ℕ) → within t i w ≡ true → index t i w ≡ index t j v → ⊥
record_not t i j n v g w h e = n (index_record t i w j v h g e)

-- ---- what a write of a word leaves

-- every other word of the table
pub put_other : (t : Table) (c : List ℕ) (i w x j v : ℕ) → ((i ≡ j) × (w ≡ v) → ⊥) → field t (put_field t c i w x) j v ≡ field t c j v
put_other t c i w x j v n =
    field_cong t c (put_field t c i w x) j v
    (λ g. put_read t c i w x (index t j v) (λ h e. n (index_record t i w j v h g e, index_word t i w j v h g e)))

-- every word of another record
pub put_record : (t : Table) (c : List ℕ) (i w x j v : ℕ) → (i ≡ j → ⊥) → field t (put_field t c i w x) j v ≡ field t c j v
put_record t c i w x j v n = put_other t c i w x j v (λ e. n e.0)

-- every word of a table that stands apart
-- tables in one list are written without a change to the others
pub put_apart : (t u : Table) (c : List ℕ) (i w x j v : ℕ) → apart t u ≡ true → field u (put_field t c i w x) j v ≡ field u c j v
put_apart t u c i w x j v a =
    field_cong u c (put_field t c i w x) j v
    (λ g. put_read t c i w x (index u j v) (apart_not t u a j v g i w))

-- every place of the list before the table or after it
pub put_outside : (t : Table) (c : List ℕ) (i w x k : ℕ) → (k < t.base) ⊎ (end t ≤ k) → get_or (put_field t c i w x) k 0 ≡ get_or c k 0
put_outside t c i w x k o = put_read t c i w x k (outside_not t k o i w)

-- a write of the list before a table or after it leaves each of the table's words
pub set_outside : (u : Table) (c : List ℕ) (k x j v : ℕ) → (k < u.base) ⊎ (end u ≤ k) → field u (set c k x) j v ≡ field u c j v
set_outside u c k x j v o =
    field_cong u c (set c k x) j v
    (λ g. get_or-set_other c k (index u j v) x 0 (outside_not u k o j v g))

-- ---- places

-- a write of a place leaves each place of the list that is no word of its record
pub place_read : (t : Table) (c : List ℕ) (i w : ℕ) (p : Place) (k : ℕ) → ((v : ℕ) → within t i v ≡ true → index t i v ≡ k → ⊥) → get_or (put_place t c i w p) k 0 ≡ get_or c k 0
unfolding put_place
place_read t c i w p k n =
    put_read t _ i (w + 4) p.span.end k (n (w + 4))
    ∙ put_read t _ i (w + 3) p.span.start k (n (w + 3))
    ∙ put_read t _ i (w + 2) p.reactive k (n (w + 2))
    ∙ put_read t _ i (w + 1) p.effect k (n (w + 1))
    ∙ put_read t c i w p.identifier k (n w)

-- the same of a run of places
pub places_read : (t : Table) (c : List ℕ) (i w k : ℕ) (ps : List Place) (m : ℕ) → ((v : ℕ) → within t i v ≡ true → index t i v ≡ m → ⊥) → get_or (put_places t c i w k ps) m 0 ≡ get_or c m 0
unfolding put_places
places_read t c i w k [] m n = refl
places_read t c i w k (p ∷ ps) m n = places_read t (put_place t c i (w + k * 5) p) i w (suc k) ps m n ∙ place_read t c i (w + k * 5) p m n

-- a write of a place keeps the list's length
pub place_length : (t : Table) (c : List ℕ) (i w : ℕ) (p : Place) → length (put_place t c i w p) ≡ length c
unfolding put_place
place_length t c i w p =
    put_length t _ i (w + 4) p.span.end
    ∙ put_length t _ i (w + 3) p.span.start
    ∙ put_length t _ i (w + 2) p.reactive
    ∙ put_length t _ i (w + 1) p.effect
    ∙ put_length t c i w p.identifier

-- and so does a write of a run of places
pub places_length : (t : Table) (c : List ℕ) (i w k : ℕ) (ps : List Place) → length (put_places t c i w k ps) ≡ length c
unfolding put_places
places_length t c i w k [] = refl
places_length t c i w k (p ∷ ps) = places_length t (put_place t c i (w + k * 5) p) i w (suc k) ps ∙ place_length t c i (w + k * 5) p

-- a write of a place leaves every word of a table that stands apart
pub place_apart : (t u : Table) (c : List ℕ) (i w : ℕ) (p : Place) (j v : ℕ) → apart t u ≡ true → field u (put_place t c i w p) j v ≡ field u c j v
place_apart t u c i w p j v a =
    field_cong u c (put_place t c i w p) j v
    (λ g. place_read t c i w p (index u j v) (apart_not t u a j v g i))

-- and so does a write of a run of places
pub places_apart : (t u : Table) (c : List ℕ) (i w k : ℕ) (ps : List Place) (j v : ℕ) → apart t u ≡ true → field u (put_places t c i w k ps) j v ≡ field u c j v
places_apart t u c i w k ps j v a =
    field_cong u c (put_places t c i w k ps) j v
    (λ g. places_read t c i w k ps (index u j v) (apart_not t u a j v g i))

-- a write of a place leaves every place of the list before the table or after it
pub place_outside : (t : Table) (c : List ℕ) (i w : ℕ) (p : Place) (k : ℕ) → (k < t.base) ⊎ (end t ≤ k) → get_or (put_place t c i w p) k 0 ≡ get_or c k 0
place_outside t c i w p k o = place_read t c i w p k (outside_not t k o i)

-- and so does a write of a run of places
pub places_outside : (t : Table) (c : List ℕ) (i w k : ℕ) (ps : List Place) (m : ℕ) → (m < t.base) ⊎ (end t ≤ m) → get_or (put_places t c i w k ps) m 0 ≡ get_or c m 0
places_outside t c i w k ps m o = places_read t c i w k ps m (outside_not t m o i)

-- a write of a place leaves every word of another record
pub place_record : (t : Table) (c : List ℕ) (i w : ℕ) (p : Place) (j v : ℕ) → (i ≡ j → ⊥) → field t (put_place t c i w p) j v ≡ field t c j v
place_record t c i w p j v n =
    field_cong t c (put_place t c i w p) j v
    (λ g. place_read t c i w p (index t j v) (record_not t i j n v g))

-- and so does a write of a run of places
pub places_record : (t : Table) (c : List ℕ) (i w k : ℕ) (ps : List Place) (j v : ℕ) → (i ≡ j → ⊥) → field t (put_places t c i w k ps) j v ≡ field t c j v
places_record t c i w k ps j v n =
    field_cong t c (put_places t c i w k ps) j v
    (λ g. places_read t c i w k ps (index t j v) (record_not t i j n v g))

-- a place of five given words
pub place_of_is : (t : Table) (c : List ℕ) (i w a b d e f : ℕ)
    → a ≡ field t c i w → b ≡ field t c i (w + 1) → d ≡ field t c i (w + 2) → e ≡ field t c i (w + 3) → f ≡ field t c i (w + 4)
    → ◌≡◌ {A = Place} (record { identifier = a; effect = b; reactive = d; span = record { start = e; end = f } }) (place_in t c i w)
unfolding place_in
place_of_is t c i w a b d e f p q r s u = cc

-- the code's reads of a place: where it begins as an index
-- `first` and `k` are widened before they are counted
pub reads_place : (t : Table) (c : List ℕ) (i first k m n a b d e f : ℕ) → m ≡ first → n ≡ k
    → a ≡ field t c i (m + n * 5) → b ≡ field t c i (m + n * 5 + 1) → d ≡ field t c i (m + n * 5 + 2) → e ≡ field t c i (m + n * 5 + 3) → f ≡ field t c i (m + n * 5 + 4)
    → ◌≡◌ {A = Place} (record { identifier = a; effect = b; reactive = d; span = record { start = e; end = f } }) (place_in t c i (first + k * 5))
reads_place t c i first k m n a b d e f x y p q r s u =
    place_of_is t c i (m + n * 5) a b d e f p q r s u ∙ ap₂ (λ (x y : ℕ). place_in t c i (x + y * 5)) x y

-- the code's writes of a place: where it begins as an index
-- `first` and `k` are widened before they are counted
pub writes_place : (t : Table) (c c1 c2 c3 c4 c5 : List ℕ) (i first k : ℕ) (p : Place) (m n : ℕ) → m ≡ first → n ≡ k
    → c1 ≡ put_field t c i (m + n * 5) p.identifier → c2 ≡ put_field t c1 i (m + n * 5 + 1) p.effect → c3 ≡ put_field t c2 i (m + n * 5 + 2) p.reactive
    → c4 ≡ put_field t c3 i (m + n * 5 + 3) p.span.start → c5 ≡ put_field t c4 i (m + n * 5 + 4) p.span.end
    → c5 ≡ put_place t c i (first + k * 5) p
unfolding put_place
writes_place t c c1 c2 c3 c4 c5 i first k p m n x y e1 e2 e3 e4 e5 = cc

-- lists with the same words in a record have the same place there
pub place_cong : (t : Table) (c d : List ℕ) (i w : ℕ) → ((v : ℕ) → field t d i v ≡ field t c i v) → place_in t d i w ≡ place_in t c i w
unfolding place_in
place_cong t c d i w h = place_of_is t c i w _ _ _ _ _ (h w) (h (w + 1)) (h (w + 2)) (h (w + 3)) (h (w + 4))

-- and the same run of places
pub places_cong : (t : Table) (c d : List ℕ) (i w k n : ℕ) → ((v : ℕ) → field t d i v ≡ field t c i v) → places_in t d i w k n ≡ places_in t c i w k n
unfolding places_in
places_cong t c d i w k zero h = refl
places_cong t c d i w k (suc n) h = ap₂ (λ (p : Place) (ps : List Place). p ∷ ps) (place_cong t c d i (w + k * 5) h) (places_cong t c d i w (suc k) n h)

-- ---- loops over a run of places

-- a run that is not done begins with its place k
pub places_more : (t : Table) (c : List ℕ) (i w k n : ℕ) → k < n → places_in t c i w k (n - k) ≡ place_in t c i (w + k * 5) ∷ places_in t c i w (k + 1) (n - (k + 1))
unfolding places_in
places_more t c i w k n h =
    let p : n - k ≡ suc (n - (k + 1)) = omega arith in
    let q : suc k ≡ k + 1 = omega arith in
    ap (λ (m : ℕ). places_in t c i w k m) p
    ∙ ap (λ (m : ℕ). place_in t c i (w + k * 5) ∷ places_in t c i w m (n - (k + 1))) q

-- a run that is done has no place left
pub places_none : (t : Table) (c : List ℕ) (i w k n : ℕ) → n ≤ k → places_in t c i w k (n - k) ≡ []
unfolding places_in
places_none t c i w k n h =
    let p : n - k ≡ 0 = omega arith in
    ap (λ (m : ℕ). places_in t c i w k m) p

-- ---- a place that was written is read

-- a word of a record with room, inside the list
-- `put_same` asks for it at each of the five
pub inside : (t : Table) (c : List ℕ) (i w : ℕ) → within t i w ≡ true → end t ≤ length c → index t i w < length c
inside t c i w h l =
    let p : index t i w < end t = index_ends t i w h in
    omega arith

-- a write of a word leaves the other words of its record
put_beside : (t : Table) (c : List ℕ) (i w x v : ℕ) → (w ≡ v → ⊥) → field t (put_field t c i w x) i v ≡ field t c i v
put_beside t c i w x v n = put_other t c i w x i v (λ e. n e.1)

-- a place that was written is read, where the record has room for it and the list holds the table
-- each of its words is written once, and the later writes leave it
pub place_back : (t : Table) (c : List ℕ) (i w : ℕ) (p : Place) → i < t.count → w + 5 ≤ t.width → end t ≤ length c → place_in t (put_place t c i w p) i w ≡ p
unfolding put_place
place_back t c i w p h l e =
    sym (place_of_is t _ i w p.identifier p.effect p.reactive p.span.start p.span.end
    (sym (put_beside t c4 i (w + 4) x4 w (λ q. omega arith)
    ∙ put_beside t c3 i (w + 3) x3 w (λ q. omega arith)
    ∙ put_beside t c2 i (w + 2) x2 w (λ q. omega arith)
    ∙ put_beside t c1 i (w + 1) x1 w (λ q. omega arith)
    ∙ put_same t c i w x0 (has w (omega arith)) (inside t c i w (has w (omega arith)) e)))
    (sym (put_beside t c4 i (w + 4) x4 (w + 1) (λ q. omega arith)
    ∙ put_beside t c3 i (w + 3) x3 (w + 1) (λ q. omega arith)
    ∙ put_beside t c2 i (w + 2) x2 (w + 1) (λ q. omega arith)
    ∙ put_same t c1 i (w + 1) x1 (has (w + 1) (omega arith)) (inside t c1 i (w + 1) (has (w + 1) (omega arith)) e1)))
    (sym (put_beside t c4 i (w + 4) x4 (w + 2) (λ q. omega arith)
    ∙ put_beside t c3 i (w + 3) x3 (w + 2) (λ q. omega arith)
    ∙ put_same t c2 i (w + 2) x2 (has (w + 2) (omega arith)) (inside t c2 i (w + 2) (has (w + 2) (omega arith)) e2)))
    (sym (put_beside t c4 i (w + 4) x4 (w + 3) (λ q. omega arith)
    ∙ put_same t c3 i (w + 3) x3 (has (w + 3) (omega arith)) (inside t c3 i (w + 3) (has (w + 3) (omega arith)) e3)))
    (sym (put_same t c4 i (w + 4) x4 (has (w + 4) (omega arith)) (inside t c4 i (w + 4) (has (w + 4) (omega arith)) e4))))
  where
    x0 : ℕ
    x0 = p.identifier

    x1 : ℕ
    x1 = p.effect

    x2 : ℕ
    x2 = p.reactive

    x3 : ℕ
    x3 = p.span.start

    x4 : ℕ
    x4 = p.span.end

    c1 : List ℕ
    c1 = put_field t c i w x0

    c2 : List ℕ
    c2 = put_field t c1 i (w + 1) x1

    c3 : List ℕ
    c3 = put_field t c2 i (w + 2) x2

    c4 : List ℕ
    c4 = put_field t c3 i (w + 3) x3

    has : (v : ℕ) → v < t.width → within t i v ≡ true
    has v q = within_yes t i v h q

    e1 : end t ≤ length c1
    e1 = let z : length c1 ≡ length c = put_length t c i w x0 in omega arith

    e2 : end t ≤ length c2
    e2 = let z : length c2 ≡ length c1 = put_length t c1 i (w + 1) x1 in let y : end t ≤ length c1 = e1 in omega arith

    e3 : end t ≤ length c3
    e3 = let z : length c3 ≡ length c2 = put_length t c2 i (w + 2) x2 in let y : end t ≤ length c2 = e2 in omega arith

    e4 : end t ≤ length c4
    e4 = let z : length c4 ≡ length c3 = put_length t c3 i (w + 3) x3 in let y : end t ≤ length c3 = e3 in omega arith
