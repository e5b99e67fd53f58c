-- When an image earns a refusal of class 1 to 5 (document 01, 'Refused calls': "Order 1 to 5 over the whole input").
-- Each class is tested over the whole image; it counts only where no earlier class is earned. Assumes nothing: these are definitions.
use Rattle.std.specs.Prelude.{ℕ, suc, ◌+◌, ◌-◌, Bool, true, false, not, ◌&&◌, ◌||◌, List, [], ◌∷◌, eqb, leb, ltb, get_or, length}
use Rattle.def_kinds.specs.Reasons.{reason_count, are_reasons}
use Rattle.def_transfer.specs.State.{from_identifier}
use Rattle.def_transfer.specs.Instruction.{has}
use Rattle.base_tests.specs.Tests.{any_below}
use Rattle.def_image.specs.Layout.{Image, wrong_length, words_of, edition, options, next, lvalue, own, identifiers, values, pairs, places, functions, candidates, section_count, count_of, offset_of, end_of, start_of, cell, identifier_flags, identifier_name, access_start, access_end, value_number, value_kind, value_reasons, pair_identifier, pair_value, place_identifier, place_effect, place_reactive, function_flags, context_first, context_count, inside_first, inside_count, code, captures_first, captures_count, code_count, Mutate, Create, Apply, CreateFunction, flag_one, flag_two}

-- "Kinds 0..5"; "`Effect` in declared order from 0", of which the Rust has eight; "0 for none, else 1 + its place in `MutationReason`", of which it has one
abbrev pub kind_count : ℕ
kind_count = 6

abbrev pub effect_count : ℕ
effect_count = 8

abbrev pub mutation_codes : ℕ
mutation_codes = 2

-- "A diagnostic must already stand in the table, else 3": "diagnostics start empty"
abbrev pub diagnostic_count : ℕ
diagnostic_count = 0

-- ---- the words of a candidate that its code uses: "Unused words are zero"

-- a row for each code, from Freeze to Render. Words 1 to 7 are first place, second place, kind or mutation reason or diagnostic,
-- reason, function, first and count of captures; the first of the captures is used where their count is not 0. Of an Apply nothing is looked at.
unfoldable pub used_words : List (List ℕ)
used_words =
    (1 ∷ 4 ∷ [])
    ∷ (1 ∷ 3 ∷ [])
    ∷ (1 ∷ [])
    ∷ (1 ∷ [])
    ∷ (1 ∷ [])
    ∷ (1 ∷ 2 ∷ [])
    ∷ (1 ∷ 2 ∷ [])
    ∷ (1 ∷ 2 ∷ [])
    ∷ (1 ∷ 2 ∷ [])
    ∷ (2 ∷ 3 ∷ 4 ∷ [])
    ∷ (1 ∷ 2 ∷ [])
    ∷ (1 ∷ 2 ∷ [])
    ∷ []
    ∷ (2 ∷ 5 ∷ 7 ∷ [])
    ∷ (1 ∷ 3 ∷ [])
    ∷ (1 ∷ 3 ∷ [])
    ∷ (1 ∷ 3 ∷ [])
    ∷ (1 ∷ [])
    ∷ []

-- two flags
unfoldable pub are_flags : ℕ → Bool
are_flags w = ltb w 4

-- "kind or mutation reason or diagnostic", by the code: what the word has to be below
unfoldable pub details_of : ℕ → ℕ
details_of c = elim (eqb c Mutate) [ true ↦ mutation_codes | false ↦ elim (eqb c Create) [ true ↦ kind_count | false ↦ diagnostic_count ] ]

-- "the first of a run with count 0 is unused"
unfoldable pub stray_first : ℕ → ℕ → Bool
stray_first first count = eqb count 0 && not (eqb first 0)

module _ (im : Image) where
  -- a record of a section passes a test
  unfoldable pub any_record : ℕ → (ℕ → Bool) → Bool
  any_record s test = any_below (count_of im s) test

  -- the same, of the records that have one after them
  unfoldable pub any_neighbours : ℕ → (ℕ → Bool) → Bool
  any_neighbours s test = any_below (count_of im s - 1) test

  unfoldable pub is_apply : ℕ → Bool
  is_apply k = eqb (code im k) Apply

  unfoldable pub creates_function : ℕ → Bool
  creates_function k = eqb (code im k) CreateFunction

  unfoldable pub uses : ℕ → ℕ → Bool
  uses k j = has j (get_or used_words (code im k) []) || (eqb j 6 && (creates_function k && not (eqb (captures_count im k) 0)))

  -- ---- class 2: "edition, count or offset is wrong, or a count is above its limit"

  -- "edition 1"
  unfoldable pub wrong_edition : Bool
  wrong_edition = not (eqb (edition im) 1)

  -- "identifiers (at most 512)", "functions (64)", "candidates (64)"
  unfoldable pub too_many_records : Bool
  too_many_records = ltb 512 (count_of im identifiers) || (ltb 64 (count_of im functions) || ltb 64 (count_of im candidates))

  -- "six sections, which follow in order without gaps"
  unfoldable pub misplaced : ℕ → Bool
  misplaced s = not (eqb (offset_of im s) (start_of im s))

  -- "nothing after the last section (else 2)"
  unfoldable pub wrong_end : Bool
  wrong_end = not (eqb (length im) (end_of im candidates))

  -- "context places (16)", "places mutated inside (32)"
  unfoldable pub long_function : ℕ → Bool
  long_function k = ltb 16 (context_count im k) || ltb 32 (inside_count im k)

  -- "captures (16)"
  unfoldable pub long_candidate : ℕ → Bool
  long_candidate k = creates_function k && ltb 16 (captures_count im k)

  unfoldable pub wrong_header : Bool
  wrong_header = wrong_edition || (too_many_records || (any_below section_count misplaced || wrong_end))

  unfoldable pub earns_two : Bool
  earns_two = wrong_header || (any_record functions long_function || any_record candidates long_candidate)

  -- ---- class 3: "a code, flag, number, index or reason bit lies outside its range, or a run of places passes their end"

  -- a record of a section: its index is below the section's count
  unfoldable pub is_in : ℕ → ℕ → Bool
  is_in s i = ltb i (count_of im s)

  -- "Value numbers are 1..1023"; "here and in pairs 512 + i needs identifier i in the list, else 3"
  unfoldable pub is_number : ℕ → Bool
  is_number v = leb 1 v && ltb v (from_identifier (count_of im identifiers))

  -- "a run of places passes their end"; an empty run has no first and no end
  unfoldable pub passes_end : ℕ → ℕ → Bool
  passes_end first count = not (eqb count 0) && ltb (count_of im places) (first + count)

  -- "options (bit 0 .., bit 1 ..); next number 1..512; lvalue's place index; own function + 1 or 0"
  unfoldable pub bad_header : Bool
  bad_header =
      not (are_flags (options im)) || (not (leb 1 (next im) && leb (next im) 512) || (not (is_in places (lvalue im)) || not (leb (own im) (count_of im functions))))

  -- "flags (1 ref, 2 hoisted), name 1..512 or 0"
  unfoldable pub bad_identifier : ℕ → Bool
  bad_identifier k = not (are_flags (identifier_flags im k)) || ltb 512 (identifier_name im k)

  -- "values: number, kind, reasons"
  unfoldable pub bad_value : ℕ → Bool
  bad_value k = not (is_number (value_number im k)) || (not (ltb (value_kind im k) kind_count) || not (are_reasons (value_reasons im k)))

  -- "pairs: identifier, value ..; value 0 .. means defined with an empty set"
  unfoldable pub bad_pair : ℕ → Bool
  bad_pair k = not (is_in identifiers (pair_identifier im k)) || not (eqb (pair_value im k) 0 || is_number (pair_value im k))

  -- "places: identifier, `Effect` in declared order from 0, reactive 0 or 1"
  unfoldable pub bad_place : ℕ → Bool
  bad_place k = not (is_in identifiers (place_identifier im k)) || (not (ltb (place_effect im k) effect_count) || not (ltb (place_reactive im k) 2))

  -- "flags (1 effects known, 2 tracked side effect; 2, and any place mutated inside, needs 1, else 3)"
  unfoldable pub needs_known : ℕ → Bool
  needs_known k = flag_two (function_flags im k) || not (eqb (inside_count im k) 0)

  unfoldable pub bad_function : ℕ → Bool
  bad_function k =
      not (are_flags (function_flags im k))
      || ((needs_known k && not (flag_one (function_flags im k))) || (passes_end (context_first im k) (context_count im k) || passes_end (inside_first im k) (inside_count im k)))

  -- what word j of a candidate has to be below: a place, a place, kind or mutation reason or diagnostic, a reason, a function
  unfoldable pub limit_of : ℕ → ℕ → ℕ
  limit_of c j = get_or (0 ∷ count_of im places ∷ count_of im places ∷ details_of c ∷ reason_count ∷ count_of im functions ∷ []) j 0

  -- a word that is used and outside its range; the two words of the captures are tested as a run
  unfoldable pub bad_word : ℕ → ℕ → Bool
  bad_word k j = uses k j && not (ltb (cell im candidates k j) (limit_of (code im k) j))

  unfoldable pub bad_candidate : ℕ → Bool
  bad_candidate k =
      not (ltb (code im k) code_count) || (any_below 6 (bad_word k) || (creates_function k && passes_end (captures_first im k) (captures_count im k)))

  unfoldable pub earns_three : Bool
  earns_three =
      bad_header || (any_record identifiers bad_identifier || (any_record values bad_value || (any_record pairs bad_pair || (any_record places bad_place || (any_record functions bad_function || any_record candidates bad_candidate)))))

  -- ---- class 4: "two entries of one key, wrong order, an unused word not zero, or a fresh number not below next"

  -- "access start, end (both words zero if not hoisted)"
  unfoldable pub stray_access : ℕ → Bool
  stray_access k = not (flag_two (identifier_flags im k)) && not (eqb (access_start im k) 0 && eqb (access_end im k) 0)

  -- "1..511 are fresh": such a number is below next
  unfoldable pub not_yet_fresh : ℕ → Bool
  not_yet_fresh v = (leb 1 v && ltb v 512) && leb (next im) v

  -- "values: number .., ascending", so no two of one number
  unfoldable pub values_unordered : ℕ → Bool
  values_unordered k = leb (value_number im (suc k)) (value_number im k)

  -- "pairs: identifier, value, ascending", so no two alike
  unfoldable pub pairs_unordered : ℕ → Bool
  pairs_unordered k =
      ltb (pair_identifier im (suc k)) (pair_identifier im k) || (eqb (pair_identifier im (suc k)) (pair_identifier im k) && leb (pair_value im (suc k)) (pair_value im k))

  -- "value 0, the only one of its identifier (else 4)": where pairs ascend, 0 comes first and another right after it
  unfoldable pub empty_not_alone : ℕ → Bool
  empty_not_alone k = eqb (pair_value im k) 0 && eqb (pair_identifier im (suc k)) (pair_identifier im k)

  unfoldable pub stray_in_function : ℕ → Bool
  stray_in_function k = stray_first (context_first im k) (context_count im k) || stray_first (inside_first im k) (inside_count im k)

  -- "Unused words are zero"; the code itself is used
  unfoldable pub stray_word : ℕ → ℕ → Bool
  stray_word k j = not (eqb j 0 || uses k j) && not (eqb (cell im candidates k j) 0)

  -- "Of an Apply no word but the code is tested."
  unfoldable pub stray_in_candidate : ℕ → Bool
  stray_in_candidate k = not (is_apply k) && any_below 8 (stray_word k)

  unfoldable pub earns_four : Bool
  earns_four =
      any_record identifiers stray_access
      || (any_record values (λ k. not_yet_fresh (value_number im k))
      || (any_record pairs (λ k. not_yet_fresh (pair_value im k))
      || (any_neighbours values values_unordered
      || (any_neighbours pairs pairs_unordered || (any_neighbours pairs empty_not_alone || (any_record functions stray_in_function || any_record candidates stray_in_candidate))))))

  -- ---- class 5: "a candidate is Apply"

  unfoldable pub earns_five : Bool
  earns_five = any_record candidates is_apply

  -- the lowest of the classes 2 to 5 that the words earn, 0 where they earn none
  unfoldable pub refusal_of_words : ℕ
  refusal_of_words =
      elim earns_two [
        | true ↦ 2
        | false ↦ elim earns_three [ true ↦ 3 | false ↦ elim earns_four [ true ↦ 4 | false ↦ elim earns_five [ true ↦ 5 | false ↦ 0 ] ] ]
      ]

-- "Order 1 to 5 over the whole input": the lowest class that the image earns, 0 where it is accepted
unfoldable pub refusal_of : List ℕ → ℕ
refusal_of bytes = elim (wrong_length bytes) [ true ↦ 1 | false ↦ refusal_of_words (words_of bytes) ]
