-- What an image that earns no refusal says of each of its records, a law for each sentence of document 01's 'The job image'. Assumes nothing.
use Rattle.std.specs.Prelude.{ℕ, ◌+◌, ◌≤◌, ◌<◌, ◌≡◌, Bool, ◌&&◌, ◌||◌, ◌⊎◌}
use native.Mathlib.Omega.{arith}
use Rattle.std.proofs.Math.Path.{refl}
use Rattle.std.proofs.Common.{ap}
use Rattle.std.proofs.Math.Bool.{true, false, not}
use Rattle.std.proofs.Math.Logic.{inl, inr}
use Rattle.std.proofs.Math.Dec.{eqb, leb, ltb}
use borrow.Author.Tests.{ltb-true, ltb-false, leb-true, leb-false, eqb-true, eqb-false, eq-eqb, lt-ltb, le-leb, not-false}
use Rattle.def_kinds.specs.Reasons.{are_reasons}
use Rattle.base_tests.specs.Tests.{any_below}
use Rattle.base_tests.proofs.Laws.Bool.{or_no_first, or_no_second}
use Rattle.base_tests.proofs.Laws.Below.{any_at}
use Rattle.def_image.specs.Layout.{Image, word, identifiers, values, pairs, places, functions, candidates, count_of, cell, options, next, lvalue, own, identifier_flags, identifier_name, access_start, access_end, value_number, value_kind, value_reasons, pair_identifier, pair_value, place_identifier, place_effect, place_reactive, function_flags, context_first, context_count, inside_first, inside_count, code, captures_first, captures_count, flag_one, flag_two}
use Rattle.def_image.specs.Refusals.{are_flags, any_record, is_apply, creates_function, wrong_edition, too_many_records, long_function, long_candidate, wrong_header, earns_two, is_in, is_number, passes_end, bad_header, bad_identifier, bad_value, bad_pair, bad_place, needs_known, bad_function, uses, limit_of, bad_word, bad_candidate, earns_three, stray_access, not_yet_fresh, earns_four, earns_five, refusal_of_words}

-- ---- tests

-- a class that is not earned
-- the lowest class is 0 just if none is
first_not : (b : Bool) (k n : ℕ) → (k ≡ 0 → ⊥) → ◌≡◌ {A = ℕ} (elim b [ true ↦ k | false ↦ n ]) 0 → b ≡ false
first_not true k n h e = absurd (h e)
first_not false k n h e = refl

-- and the classes after it
rest_not : (b : Bool) (k n : ℕ) → (k ≡ 0 → ⊥) → ◌≡◌ {A = ℕ} (elim b [ true ↦ k | false ↦ n ]) 0 → n ≡ 0
rest_not true k n h e = absurd (h e)
rest_not false k n h e = e

-- both of two tests that did not hold, the first of which does
and_not : (a b : Bool) → (a && b) ≡ false → a ≡ true → b ≡ false
and_not true b e h = e
and_not false b e h = let z : ◌≡◌ {A = ℕ} 0 1 = cc in absurd (omega arith)

-- both of two tests that hold
both : (a b : Bool) → (a && b) ≡ true → (a ≡ true) × (b ≡ true)
both true b e = (refl, e)
both false b e = let z : ◌≡◌ {A = ℕ} 0 1 = cc in absurd (omega arith)

-- either of two tests that holds
either : (a b : Bool) → (a || b) ≡ true → (a ≡ true) ⊎ (b ≡ true)
either true b e = inl refl
either false b e = inr e

-- a number that is below another, by a test turned round
below : (x n : ℕ) → not (ltb x n) ≡ false → x < n
below x n e = ltb-true x n (not-false (ltb x n) e)

-- ---- the four classes

module _ (im : Image) (ok : refusal_of_words im ≡ 0) where
  -- class 2 is not earned
  -- "Order 1 to 5 over the whole input"
  two : earns_two im ≡ false
  unfolding refusal_of_words
  two = first_not (earns_two im) 2 _ (λ z. omega arith) ok

  -- nor is class 3
  -- it is tested where 2 is not earned
  three : earns_three im ≡ false
  unfolding refusal_of_words
  three = first_not (earns_three im) 3 _ (λ z. omega arith) (rest_not (earns_two im) 2 _ (λ z. omega arith) ok)

  -- nor is class 4
  -- it is tested where 3 is not earned
  four : earns_four im ≡ false
  unfolding refusal_of_words
  four = first_not (earns_four im) 4 _ (λ z. omega arith) (rest_not (earns_three im) 3 _ (λ z. omega arith) (rest_not (earns_two im) 2 _ (λ z. omega arith) ok))

  -- nor is class 5
  -- it is tested where 4 is not earned
  five : earns_five im ≡ false
  unfolding refusal_of_words
  five =
      first_not (earns_five im) 5 0 (λ z. omega arith)
      (rest_not (earns_four im) 4 _ (λ z. omega arith) (rest_not (earns_three im) 3 _ (λ z. omega arith) (rest_not (earns_two im) 2 _ (λ z. omega arith) ok)))

  -- ---- class 2: counts

  -- no section has too many records
  -- "a count is above its limit"
  many : too_many_records im ≡ false
  unfolding earns_two wrong_header
  many = or_no_first (too_many_records im) _ (or_no_second (wrong_edition im) _ (or_no_first (wrong_header im) _ two))

  -- "identifiers (at most 512)"
  pub few_identifiers : count_of im identifiers ≤ 512
  unfolding too_many_records
  few_identifiers = ltb-false 512 (count_of im identifiers) (or_no_first (ltb 512 (count_of im identifiers)) _ many)

  -- "functions (64)"
  pub few_functions : count_of im functions ≤ 64
  unfolding too_many_records
  few_functions = ltb-false 64 (count_of im functions) (or_no_first (ltb 64 (count_of im functions)) _ (or_no_second (ltb 512 (count_of im identifiers)) _ many))

  -- "candidates (64)"
  pub few_candidates : count_of im candidates ≤ 64
  unfolding too_many_records
  few_candidates = ltb-false 64 (count_of im candidates) (or_no_second (ltb 64 (count_of im functions)) _ (or_no_second (ltb 512 (count_of im identifiers)) _ many))

  -- no run of a function is too long
  short_function : (k : ℕ) → k < count_of im functions → long_function im k ≡ false
  unfolding earns_two any_record
  short_function = any_at (count_of im functions) (long_function im) (or_no_first (any_record im functions (long_function im)) _ (or_no_second (wrong_header im) _ two))

  -- "context places (16)"
  pub few_context : (k : ℕ) → k < count_of im functions → context_count im k ≤ 16
  unfolding long_function
  few_context k l = ltb-false 16 (context_count im k) (or_no_first (ltb 16 (context_count im k)) _ (short_function k l))

  -- "places mutated inside (32)"
  pub few_inside : (k : ℕ) → k < count_of im functions → inside_count im k ≤ 32
  unfolding long_function
  few_inside k l = ltb-false 32 (inside_count im k) (or_no_second (ltb 16 (context_count im k)) _ (short_function k l))

  -- no CreateFunction has too many captures
  -- "captures (16)"
  pub few_captures : (k : ℕ) → k < count_of im candidates → code im k ≡ 13 → captures_count im k ≤ 16
  unfolding earns_two any_record long_candidate creates_function
  few_captures k l e =
      ltb-false 16 (captures_count im k)
      (and_not (creates_function im k) _
      (any_at (count_of im candidates) (long_candidate im) (or_no_second (any_record im functions (long_function im)) _ (or_no_second (wrong_header im) _ two)) k l)
      (eq-eqb (code im k) 13 e))

  -- ---- class 3: ranges

  -- the seven tests of ranges
  -- "a code, flag, number, index or reason bit lies outside its range, or a run of places passes their end"
  ranges : (bad_header im ≡ false) × (any_record im identifiers (bad_identifier im) ≡ false) × (any_record im values (bad_value im) ≡ false) × (any_record im pairs (bad_pair im) ≡ false)
      × (any_record im places (bad_place im) ≡ false) × (any_record im functions (bad_function im) ≡ false) × (any_record im candidates (bad_candidate im) ≡ false)
  unfolding earns_three
  ranges =
      let a = or_no_second (bad_header im) _ three in
      let b = or_no_second (any_record im identifiers (bad_identifier im)) _ a in
      let c = or_no_second (any_record im values (bad_value im)) _ b in
      let d = or_no_second (any_record im pairs (bad_pair im)) _ c in
      let e = or_no_second (any_record im places (bad_place im)) _ d in (
        or_no_first (bad_header im) _ three,
        or_no_first (any_record im identifiers (bad_identifier im)) _ a,
        or_no_first (any_record im values (bad_value im)) _ b,
        or_no_first (any_record im pairs (bad_pair im)) _ c,
        or_no_first (any_record im places (bad_place im)) _ d,
        or_no_first (any_record im functions (bad_function im)) _ e,
        or_no_second (any_record im functions (bad_function im)) _ e,
      )

  -- "options (bit 0 .., bit 1 ..)"
  pub options_small : options im < 4
  unfolding bad_header are_flags
  options_small = below (options im) 4 (or_no_first (not (are_flags (options im))) _ ranges.0)

  -- "next number 1..512"
  pub next_range : (1 ≤ next im) × (next im ≤ 512)
  unfolding bad_header
  next_range =
      let a = or_no_second (not (are_flags (options im))) _ ranges.0 in
      let b = both (leb 1 (next im)) _ (not-false (leb 1 (next im) && leb (next im) 512) (or_no_first (not (leb 1 (next im) && leb (next im) 512)) _ a)) in
      (leb-true 1 (next im) b.0, leb-true (next im) 512 b.1)

  -- "lvalue's place index"
  pub lvalue_place : lvalue im < count_of im places
  unfolding bad_header is_in
  lvalue_place =
      let a = or_no_second (not (are_flags (options im))) _ ranges.0 in
      let b = or_no_second (not (leb 1 (next im) && leb (next im) 512)) _ a in
      below (lvalue im) (count_of im places) (or_no_first (not (is_in im places (lvalue im))) _ b)

  -- "own function + 1 or 0"
  pub own_most : own im ≤ count_of im functions
  unfolding bad_header
  own_most =
      let a = or_no_second (not (are_flags (options im))) _ ranges.0 in
      let b = or_no_second (not (leb 1 (next im) && leb (next im) 512)) _ a in
      leb-true (own im) (count_of im functions) (not-false (leb (own im) (count_of im functions)) (or_no_second (not (is_in im places (lvalue im))) _ b))

  -- "flags (1 ref, 2 hoisted), name 1..512 or 0"
  pub identifier_range : (k : ℕ) → k < count_of im identifiers → (identifier_flags im k < 4) × (identifier_name im k ≤ 512)
  unfolding any_record bad_identifier are_flags
  identifier_range k l =
      let a = any_at (count_of im identifiers) (bad_identifier im) ranges.1 k l in
      (below (identifier_flags im k) 4 (or_no_first (not (are_flags (identifier_flags im k))) _ a), ltb-false 512 (identifier_name im k) (or_no_second (not (are_flags (identifier_flags im k))) _ a))

  -- "Value numbers are 1..1023"; "512 + i needs identifier i in the list, else 3"
  number_range : (v : ℕ) → is_number im v ≡ true → (1 ≤ v) × (v < 512 + count_of im identifiers)
  unfolding is_number
  number_range v e =
      let b = both (leb 1 v) _ e in
      (leb-true 1 v b.0, ltb-true v (512 + count_of im identifiers) b.1)

  -- "values: number, kind, reasons"
  pub value_range : (k : ℕ) → k < count_of im values → (1 ≤ value_number im k) × (value_number im k < 512 + count_of im identifiers) × (are_reasons (value_reasons im k) ≡ true)
  unfolding any_record bad_value
  value_range k l =
      let a = any_at (count_of im values) (bad_value im) ranges.2 k l in
      let n = number_range (value_number im k) (not-false (is_number im (value_number im k)) (or_no_first (not (is_number im (value_number im k))) _ a)) in
      let b = or_no_second (not (is_number im (value_number im k))) _ a in
      (n.0, n.1, not-false (are_reasons (value_reasons im k)) (or_no_second (not (ltb (value_kind im k) 6)) _ b))

  -- "pairs: identifier, value"; "value 0 .. means defined with an empty set"
  pub pair_range : (k : ℕ) → k < count_of im pairs → (pair_identifier im k < count_of im identifiers) × ((pair_value im k ≡ 0) ⊎ ((1 ≤ pair_value im k) × (pair_value im k < 512 + count_of im identifiers)))
  unfolding any_record bad_pair is_in
  pair_range k l =
      let a = any_at (count_of im pairs) (bad_pair im) ranges.3 k l in
      let b = or_no_second (not (is_in im identifiers (pair_identifier im k))) _ a in
      (below (pair_identifier im k) (count_of im identifiers) (or_no_first (not (is_in im identifiers (pair_identifier im k))) _ a), go (either (eqb (pair_value im k) 0) _ (not-false (eqb (pair_value im k) 0 || is_number im (pair_value im k)) b)))
    where
      go : (eqb (pair_value im k) 0 ≡ true) ⊎ (is_number im (pair_value im k) ≡ true) → (pair_value im k ≡ 0) ⊎ ((1 ≤ pair_value im k) × (pair_value im k < 512 + count_of im identifiers))
      go (inl e) = inl (eqb-true (pair_value im k) 0 e)
      go (inr e) = inr (number_range (pair_value im k) e)

  -- "places: identifier, `Effect` in declared order from 0, reactive 0 or 1"
  pub place_range : (k : ℕ) → k < count_of im places → (place_identifier im k < count_of im identifiers) × (place_effect im k < 8) × (place_reactive im k < 2)
  unfolding any_record bad_place is_in
  place_range k l =
      let a = any_at (count_of im places) (bad_place im) ranges.4 k l in
      let b = or_no_second (not (is_in im identifiers (place_identifier im k))) _ a in
      (below (place_identifier im k) (count_of im identifiers) (or_no_first (not (is_in im identifiers (place_identifier im k))) _ a), below (place_effect im k) 8 (or_no_first (not (ltb (place_effect im k) 8)) _ b), below (place_reactive im k) 2 (or_no_second (not (ltb (place_effect im k) 8)) _ b))

  -- a run of places that does not pass their end: each of its places is one of them
  -- "a run of places passes their end"
  run_range : (first count : ℕ) → passes_end im first count ≡ false → (j : ℕ) → j < count → first + j < count_of im places
  unfolding passes_end
  run_range first count e j l = go (eqb count 0) refl
    where
      go : (b : Bool) → eqb count 0 ≡ b → first + j < count_of im places
      go true h = absurd (let z = eqb-true count 0 h in omega arith)
      go false h = let z = ltb-false (count_of im places) (first + count) (and_not (not (eqb count 0)) _ e (ap not h)) in omega arith

  -- no word of a function is out of its range
  function_range : (k : ℕ) → k < count_of im functions → bad_function im k ≡ false
  unfolding any_record
  function_range = any_at (count_of im functions) (bad_function im) ranges.5

  -- "functions ..: flags (1 effects known, 2 tracked side effect ..)"
  pub function_flags_is : (k : ℕ) → k < count_of im functions → function_flags im k < 4
  unfolding bad_function are_flags
  function_flags_is k l = below (function_flags im k) 4 (or_no_first (not (are_flags (function_flags im k))) _ (function_range k l))

  -- "2, and any place mutated inside, needs 1, else 3"
  pub function_known : (k : ℕ) → k < count_of im functions → ((flag_two (function_flags im k) || not (eqb (inside_count im k) 0)) && not (flag_one (function_flags im k))) ≡ false
  unfolding bad_function needs_known
  function_known k l = or_no_first (needs_known im k && not (flag_one (function_flags im k))) _ (or_no_second (not (are_flags (function_flags im k))) _ (function_range k l))

  -- "first and count of context places"
  pub context_places : (k : ℕ) → k < count_of im functions → (j : ℕ) → j < context_count im k → context_first im k + j < count_of im places
  unfolding bad_function
  context_places k l =
      run_range (context_first im k) (context_count im k)
      (or_no_first (passes_end im (context_first im k) (context_count im k)) _ (or_no_second (needs_known im k && not (flag_one (function_flags im k))) _ (or_no_second (not (are_flags (function_flags im k))) _ (function_range k l))))

  -- "first and count of places mutated inside"
  pub inside_places_is : (k : ℕ) → k < count_of im functions → (j : ℕ) → j < inside_count im k → inside_first im k + j < count_of im places
  unfolding bad_function
  inside_places_is k l =
      run_range (inside_first im k) (inside_count im k)
      (or_no_second (passes_end im (context_first im k) (context_count im k)) _ (or_no_second (needs_known im k && not (flag_one (function_flags im k))) _ (or_no_second (not (are_flags (function_flags im k))) _ (function_range k l))))

  -- no word of a candidate is out of its range
  -- code, words 1 to 5, and captures
  candidate_range : (k : ℕ) → k < count_of im candidates → bad_candidate im k ≡ false
  unfolding any_record
  candidate_range = any_at (count_of im candidates) (bad_candidate im) ranges.6

  -- "candidates ..: code (order of `AliasingEffect`, Freeze 0, Apply 12, Render 17)"
  pub code_range : (k : ℕ) → k < count_of im candidates → code im k < 18
  unfolding bad_candidate
  code_range k l = below (code im k) 18 (or_no_first (not (ltb (code im k) 18)) _ (candidate_range k l))

  -- a word that a candidate uses is below its limit
  -- words 1 to 5, by the code
  pub word_range : (k : ℕ) → k < count_of im candidates → (j : ℕ) → j < 6 → uses im k j ≡ true → cell im candidates k j < limit_of im (code im k) j
  unfolding bad_candidate bad_word
  word_range k l j h u =
      below (cell im candidates k j) (limit_of im (code im k) j)
      (and_not (uses im k j) _ (any_at 6 (bad_word im k) (or_no_first (any_below 6 (bad_word im k)) _ (or_no_second (not (ltb (code im k) 18)) _ (candidate_range k l))) j h) u)

  -- "first and count of captures"
  pub capture_places : (k : ℕ) → k < count_of im candidates → code im k ≡ 13 → (j : ℕ) → j < captures_count im k → captures_first im k + j < count_of im places
  unfolding bad_candidate creates_function
  capture_places k l e =
      run_range (captures_first im k) (captures_count im k)
      (and_not (creates_function im k) _ (or_no_second (any_below 6 (bad_word im k)) _ (or_no_second (not (ltb (code im k) 18)) _ (candidate_range k l))) (eq-eqb (code im k) 13 e))

  -- ---- class 4: unused words, and fresh numbers

  -- "access start, end (both words zero if not hoisted)"
  pub access_zero : (k : ℕ) → k < count_of im identifiers → flag_two (identifier_flags im k) ≡ false → (access_start im k ≡ 0) × (access_end im k ≡ 0)
  unfolding earns_four any_record stray_access
  access_zero k l e =
      let a = any_at (count_of im identifiers) (stray_access im) (or_no_first (any_record im identifiers (stray_access im)) _ four) k l in
      let b = and_not (not (flag_two (identifier_flags im k))) _ a (ap not e) in
      let c = both (eqb (access_start im k) 0) _ (not-false (eqb (access_start im k) 0 && eqb (access_end im k) 0) b) in
      (eqb-true (access_start im k) 0 c.0, eqb-true (access_end im k) 0 c.1)

  -- "1..511 are fresh": such a number is below next
  -- of a number that is no 0
  fresh_below : (v : ℕ) → not_yet_fresh im v ≡ false → 1 ≤ v → v < 512 → v < next im
  unfolding not_yet_fresh
  fresh_below v e a b = leb-false (next im) v (and_not (leb 1 v && ltb v 512) _ e (λ i. le-leb 1 v a i && lt-ltb v 512 b i))

  -- the rest of class 4
  news : (any_record im values (λ k. not_yet_fresh im (value_number im k)) ≡ false) × (any_record im pairs (λ k. not_yet_fresh im (pair_value im k)) ≡ false)
  unfolding earns_four
  news =
      let a = or_no_second (any_record im identifiers (stray_access im)) _ four in
      let b = or_no_second (any_record im values (λ k. not_yet_fresh im (value_number im k))) _ a in
      (or_no_first (any_record im values (λ k. not_yet_fresh im (value_number im k))) _ a, or_no_first (any_record im pairs (λ k. not_yet_fresh im (pair_value im k))) _ b)

  -- "a fresh number not below next", of each value
  -- its number is not 0
  pub value_fresh : (k : ℕ) → k < count_of im values → value_number im k < 512 → value_number im k < next im
  unfolding any_record
  value_fresh k l h = fresh_below (value_number im k) (any_at (count_of im values) (λ k. not_yet_fresh im (value_number im k)) news.0 k l) (value_range k l).0 h

  -- the same, of each pair
  -- value 0 is no member
  pub pair_fresh : (k : ℕ) → k < count_of im pairs → 1 ≤ pair_value im k → pair_value im k < 512 → pair_value im k < next im
  unfolding any_record
  pair_fresh k l = fresh_below (pair_value im k) (any_at (count_of im pairs) (λ k. not_yet_fresh im (pair_value im k)) news.1 k l)

  -- ---- class 5

  -- "5 a candidate is Apply"
  pub no_apply : (k : ℕ) → k < count_of im candidates → code im k ≡ 12 → ⊥
  unfolding earns_five any_record is_apply
  no_apply k l = eqb-false (code im k) 12 (any_at (count_of im candidates) (is_apply im) five k l)

  -- ---- what follows

  -- there is an identifier
  -- the lvalue's
  pub some_identifier : 0 < count_of im identifiers
  some_identifier = let z = place_range (lvalue im) lvalue_place in omega (arith, z.0)

-- a word of a record is a word
-- "Little-endian u32 words"
pub cell_small : (im : Image) → ((i : ℕ) → word im i < 4294967296) → (s k j : ℕ) → cell im s k j < 4294967296
unfolding cell
cell_small im w s k j = w _
