-- Records of words that earn no class: what a write of a word, of a place and of a run of places keeps, and records written one after the other. Assumes nothing.
use Prim.Native.Nat.{ℕ, zero, suc, ◌+◌, ◌-◌, ◌*◌, ◌/◌, ◌%◌, ◌≤◌, ◌<◌}
use Rattle.std.proofs.Common.{eq-or-lt_of_le, le_refl, div-add-mod', div-lt_iff_lt-mul, mod-lt, add-mul, sym, ap, ◌∙◌, lt-ltb, eq-eqb}
use native.Mathlib.Omega.{arith}
use Rattle.std.specs.Prelude.{◌≡◌, Bool, true, false, not, get_or, Option, None, Some}
use Rattle.std.proofs.Math.Path.{refl, subst}
use Rattle.std.proofs.Math.Logic.{⊎_elim}
use mathlib.Core.List.{List, [], ◌∷◌}
use Rattle.std.proofs.Math.ListN.{length}
use Rattle.std.proofs.Math.Seq.{set_out}
use Rattle.base_tests.specs.Tests.{All}
use Rattle.base_tests.proofs.Laws.Order.{lt_or_ge, same_or_not}
use Rattle.base_tests.proofs.Laws.Choice.{ite_lt}
use Rattle.def_effects.specs.declared.Place.{Place}
use Rattle.lent_tables.specs.declared.Table.{Table}
use Rattle.lent_tables.specs.Words.{within, index, field, put_field, put_place, put_places}
use Rattle.lent_tables.proofs.Laws.Word.{within_yes, field_in, field_out, put_in, put_out, put_same, put_other}
use Rattle.refuse_class.specs.Class.{lower}
use Rattle.refuse_class.proofs.Laws.Class.{lower_none}
use Rattle.refuse_words.specs.Classes.{lowest_below, earns, word_class, any, place_limit, run_limit, words_below, record_class, stray_from, stray_after}
use Rattle.image_decode.specs.Decoded.{after}
use Rattle.def_image.specs.Decode.{list_from}

-- ---- classes

-- the lower of two classes is none where neither is earned
pub lower_both : (a b : ℕ) → a ≡ 0 → b ≡ 0 → lower a b ≡ 0
lower_both a b e f = sym (lower_none a b e) ∙ f

-- so is the lowest of many
pub lowest_both : (n : ℕ) (f : ℕ → ℕ) → ((k : ℕ) → k < n → f k ≡ 0) → lowest_below n f ≡ 0
unfolding lowest_below
lowest_both zero f h = refl
lowest_both (suc n) f h = lower_both (lowest_below n f) (f n) (lowest_both n f (λ k l. h k (omega arith))) (h n (le_refl (suc n)))

-- a test that does not hold earns nothing
pub earns_not : (n : ℕ) (b : Bool) → b ≡ false → earns n b ≡ 0
earns_not n b e = ap (earns n) e

-- a word below its limit
-- "3 a code, flag, number, index or reason bit lies outside its range"
pub word_below : (l x : ℕ) → x < l → word_class (Some l) x ≡ 0
unfolding word_class
word_below l x h = ap (λ (b : Bool). earns 3 (not b)) (lt-ltb x l h)

-- a word without use that is zero
-- "Unused words are zero"
pub word_none : (x : ℕ) → x ≡ 0 → word_class None x ≡ 0
unfolding word_class
word_none x e = ap (λ (b : Bool). earns 4 (not b)) (eq-eqb x 0 e)

-- ---- one record

-- every word of a record earns nothing, by a limit for each
abbrev pub Good : Table → ℕ → (ℕ → Option ℕ) → List ℕ → Type 0
Good t i lim c = (v : ℕ) → word_class (lim v) (field t c i v) ≡ 0

-- every word of a record is zero
abbrev pub Zero : Table → ℕ → List ℕ → Type 0
Zero t i c = (v : ℕ) → field t c i v ≡ 0

-- a list of zeros has only such records
pub zero_record : (t : Table) (i : ℕ) (c : List ℕ) → ((k : ℕ) → get_or c k 0 ≡ 0) → Zero t i c
zero_record t i c h v = go (within t i v) refl
  where
    go : (b : Bool) → within t i v ≡ b → field t c i v ≡ 0
    go true e = field_in t c i v e ∙ h (index t i v)
    go false e = field_out t c i v e

-- a record that earns nothing as a whole
-- its class is the lowest of its words'
pub record_good : (t : Table) (i : ℕ) (lim : ℕ → Option ℕ) (c : List ℕ) → Good t i lim c → record_class t c lim i ≡ 0
unfolding record_class words_below
record_good t i lim c h = lowest_both t.width (λ w. word_class (lim w) (field t c i w)) (λ k l. h k)

-- the limits of the five words of a place that begins at a word
-- "places: identifier, `Effect` in declared order from 0, reactive 0 or 1, start, end"
abbrev pub Limits : (ℕ → Option ℕ) → ℕ → ℕ → Type 0
Limits lim w n = (lim w ≡ Some n) × (lim (w + 1) ≡ Some 8) × (lim (w + 2) ≡ Some 2) × (lim (w + 3) ≡ any) × (lim (w + 4) ≡ any)

-- a place whose words are in their ranges
abbrev pub Fine : ℕ → Place → Type 0
Fine n p = (p.identifier < n) × (p.effect < 8) × (p.reactive < 2) × (p.span.start < 4294967296) × (p.span.end < 4294967296)

module _ (t : Table) (i : ℕ) (lim : ℕ → Option ℕ) where
  -- a record of zeros, where zero is below every limit
  pub zero_good : (c : List ℕ) → ((v : ℕ) → word_class (lim v) 0 ≡ 0) → Zero t i c → Good t i lim c
  zero_good c h z v = ap (word_class (lim v)) (z v) ∙ h v

  -- a word in its range is written
  -- a word past the record or past the list is not written at all
  pub put_good : (c : List ℕ) (w x : ℕ) → word_class (lim w) x ≡ 0 → Good t i lim c → Good t i lim (put_field t c i w x)
  put_good c w x h g v =
      ⊎_elim
      (λ e. subst (λ (u : ℕ). word_class (lim u) (field t (put_field t c i w x) i u) ≡ 0) e (go (within t i w) refl))
      (λ n. ap (word_class (lim v)) (put_other t c i w x i v (λ e. n e.1)) ∙ g v)
      (same_or_not w v)
    where
      kept : put_field t c i w x ≡ c → word_class (lim w) (field t (put_field t c i w x) i w) ≡ 0
      kept e = ap (λ (d : List ℕ). word_class (lim w) (field t d i w)) e ∙ g w

      go : (b : Bool) → within t i w ≡ b → word_class (lim w) (field t (put_field t c i w x) i w) ≡ 0
      go true e =
          ⊎_elim
          (λ l. ap (word_class (lim w)) (put_same t c i w x e l) ∙ h)
          (λ l. kept (put_in t c i w x e ∙ set_out c (index t i w) x l))
          (lt_or_ge (index t i w) (length c))
      go false e = kept (put_out t c i w x e)

  -- a word with a limit that is said
  pub put_below : (c : List ℕ) (w x l : ℕ) → lim w ≡ Some l → x < l → Good t i lim c → Good t i lim (put_field t c i w x)
  put_below c w x l e h = put_good c w x (ap (λ (o : Option ℕ). word_class o x) e ∙ word_below l x h)

  -- a place in its ranges is written
  pub place_good : (c : List ℕ) (w n : ℕ) (p : Place) → Limits lim w n → Fine n p → Good t i lim c → Good t i lim (put_place t c i w p)
  unfolding put_place
  place_good c w n p l f g =
      put_below _ (w + 4) p.span.end 4294967296 l.4 f.4
      (put_below _ (w + 3) p.span.start 4294967296 l.3 f.3
      (put_below _ (w + 2) p.reactive 2 l.2 f.2
      (put_below _ (w + 1) p.effect 8 l.1 f.1 (put_below c w p.identifier n l.0 f.0 g))))

  -- a run of such places is written
  pub run_good : (c : List ℕ) (w k n : ℕ) (ps : List Place) → ((m : ℕ) → m < k + length ps → Limits lim (w + m * 5) n) → All (Fine n) ps → Good t i lim c → Good t i lim (put_places t c i w k ps)
  unfolding put_places
  run_good c w k n [] l f g = g
  run_good c w k n (p ∷ ps) l f g =
      run_good (put_place t c i (w + k * 5) p) w (suc k) n ps (λ m h. l m (let z : m < suc k + length ps = h in let y : m < k + suc (length ps) = omega arith in y)) f.1
      (place_good c (w + k * 5) n p (l k (let y : k < k + suc (length ps) = omega arith in y)) f.0 g)

-- the limits of a run are those of its places
run_at : (n count m j v : ℕ) → v ≡ m * 5 + j → j < 5 → m < count → run_limit n count v ≡ place_limit n j
unfolding run_limit
run_at n count m j v e h l =
    let a : v / 5 ≡ m = omega arith in
    let b : v % 5 ≡ j = omega arith in
    ite_lt (v / 5) count (place_limit n (v % 5)) None (omega arith) ∙ ap (place_limit n) b

-- so each place of a run that begins at word w has its five limits
pub run_limits : (lim : ℕ → Option ℕ) (w n count : ℕ) → ((v : ℕ) → w ≤ v → lim v ≡ run_limit n count (v - w)) → (m : ℕ) → m < count → Limits lim (w + m * 5) n
unfolding place_limit
run_limits lim w n count h m l = (
  h (w + m * 5) (omega arith) ∙ run_at n count m 0 (w + m * 5 - w) (omega arith) (omega arith) l,
  at 1 (omega arith),
  at 2 (omega arith),
  at 3 (omega arith),
  at 4 (omega arith),
)
  where
    at : (j : ℕ) → j < 5 → lim (w + m * 5 + j) ≡ place_limit n j
    at j k = h (w + m * 5 + j) (omega arith) ∙ run_at n count m j (w + m * 5 + j - w) (omega arith) k l

-- what holds of f at each number of a run holds of the whole list
pub all_from : {A : Type 0} (P : A → Type 0) (n k : ℕ) (f : ℕ → A) → ((j : ℕ) → j < n → P (f (k + j))) → All P (list_from n k f)
unfolding list_from
all_from P zero k f h = tt
all_from P (suc n) k f h = (
  subst (λ (x : ℕ). P (f x)) (let z : k + 0 ≡ k = omega arith in z) (h 0 (omega arith)),
  all_from P n (suc k) f (λ j l. subst (λ (x : ℕ). P (f x)) (let z : k + suc j ≡ suc k + j = omega arith in z) (h (suc j) (omega arith))),
)

-- ---- records one after the other

module _ (g : ℕ → List ℕ → List ℕ) (Z : ℕ → List ℕ → Type 0) (stay : (k j : ℕ) (d : List ℕ) → (k ≡ j → ⊥) → Z j d → Z j (g k d)) (c : List ℕ) (start : (j : ℕ) → Z j c) where
  -- a record that is not written yet is as it was
  pub rest_stays : (n j : ℕ) → n ≤ j → Z j (after g n c)
  unfolding after
  rest_stays zero j l = start j
  rest_stays (suc n) j l = stay n j (after g n c) (λ e. omega arith) (rest_stays n j (omega arith))

  module _ (P : ℕ → List ℕ → Type 0) (keep : (k j : ℕ) (d : List ℕ) → (k ≡ j → ⊥) → P j d → P j (g k d)) (long : (k : ℕ) (d : List ℕ) → length (g k d) ≡ length d) where
    -- all keep the length
    same_length : (n : ℕ) → length (after g n c) ≡ length c
    unfolding after
    same_length zero = refl
    same_length (suc n) = long n (after g n c) ∙ same_length n

    -- a record that is written is as its write makes it
    pub each_done : (n : ℕ) → ((k : ℕ) (d : List ℕ) → k < n → length d ≡ length c → Z k d → P k (g k d)) → (j : ℕ) → j < n → P j (after g n c)
    unfolding after
    each_done zero make j l = absurd (omega arith)
    each_done (suc n) make j l =
        ⊎_elim
        (λ e. subst (λ (x : ℕ). P x (g n (after g n c))) (sym e) (make n (after g n c) (le_refl (suc n)) (same_length n) (rest_stays n n (le_refl n))))
        (λ h. keep n j (after g n c) (λ e. omega arith) (each_done n (λ k d p. make k d (omega arith)) j h))
        (eq-or-lt_of_le (let z : j ≤ n = omega arith in z))

-- ---- what stands after the last record

-- records that are zero leave no stray word
-- "those after the last .. are zero"
pub stray_none : (t : Table) (c : List ℕ) (n : ℕ) → 0 < t.width → ((j : ℕ) → n ≤ j → Zero t j c) → stray_after t c n ≡ 0
unfolding stray_after stray_from index
stray_none t c n w z = lowest_both ((t.count - n) * t.width) (λ k. word_class None (get_or c (index t n 0 + k) 0)) (λ k l. word_none (get_or c (index t n 0 + k) 0) (at k l))
  where
    at : (k : ℕ) → k < (t.count - n) * t.width → get_or c (index t n 0 + k) 0 ≡ 0
    at k l =
        let q : k / t.width < t.count - n = (div-lt_iff_lt-mul w).1 l in
        let r : k % t.width < t.width = mod-lt k w in
        let d : k / t.width * t.width + k % t.width ≡ k = div-add-mod' k t.width in
        let m : (n + k / t.width) * t.width ≡ n * t.width + k / t.width * t.width = add-mul n (k / t.width) t.width in
        let e : t.base + n * t.width + 0 + k ≡ t.base + (n + k / t.width) * t.width + k % t.width = omega arith in
        ap (λ (x : ℕ). get_or c x 0) e ∙ sym (field_in t c (n + k / t.width) (k % t.width) (within_yes t (n + k / t.width) (k % t.width) (omega arith) r)) ∙ z (n + k / t.width) (omega arith) (k % t.width)
