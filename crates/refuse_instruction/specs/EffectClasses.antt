-- Which class of refusal the record of an effect and an instruction earn (document 01, 'The job image' and 'Refused calls').
-- Assumes nothing: these are definitions.
use Rattle.std.specs.Prelude.{ℕ, ◌-◌, not, ◌&&◌, ◌||◌, List, [], ◌∷◌, eqb, leb, ltb, get_or, Option, None, Some}
use Rattle.base_tests.specs.Tests.{ite}
use Rattle.def_kinds.specs.Reasons.{reason_count}
use Rattle.def_effects.specs.declared.Place.{Place}
use Rattle.lent_tables.specs.declared.Table.{Table}
use Rattle.lent_tables.specs.Words.{field}
use Rattle.lent_layout.specs.Context.{ContextWords}
use Rattle.lent_context.specs.Lent.{instance_count, diagnostic_in}
use Rattle.refuse_class.specs.Class.{lower}
use Rattle.refuse_words.specs.Classes.{lowest_below, earns, used_if, any, place_limit, run_limit, record_class}
use Rattle.lent_layout.specs.Layout.{candidate_table}

-- ---- what an effect uses

-- which parts of a record an effect of each code uses: place, destination, kind, reason, mutation reason, function, diagnostic, captures
-- "a destination is the second, any other the first"; a row of eight flags for each code, Freeze to Render; an Apply uses none
unfoldable pub used_parts : List (List ℕ)
used_parts =
    (1 ∷ 0 ∷ 0 ∷ 1 ∷ 0 ∷ 0 ∷ 0 ∷ 0 ∷ [])
    ∷ (1 ∷ 0 ∷ 0 ∷ 0 ∷ 1 ∷ 0 ∷ 0 ∷ 0 ∷ [])
    ∷ (1 ∷ 0 ∷ 0 ∷ 0 ∷ 0 ∷ 0 ∷ 0 ∷ 0 ∷ [])
    ∷ (1 ∷ 0 ∷ 0 ∷ 0 ∷ 0 ∷ 0 ∷ 0 ∷ 0 ∷ [])
    ∷ (1 ∷ 0 ∷ 0 ∷ 0 ∷ 0 ∷ 0 ∷ 0 ∷ 0 ∷ [])
    ∷ (1 ∷ 1 ∷ 0 ∷ 0 ∷ 0 ∷ 0 ∷ 0 ∷ 0 ∷ [])
    ∷ (1 ∷ 1 ∷ 0 ∷ 0 ∷ 0 ∷ 0 ∷ 0 ∷ 0 ∷ [])
    ∷ (1 ∷ 1 ∷ 0 ∷ 0 ∷ 0 ∷ 0 ∷ 0 ∷ 0 ∷ [])
    ∷ (1 ∷ 1 ∷ 0 ∷ 0 ∷ 0 ∷ 0 ∷ 0 ∷ 0 ∷ [])
    ∷ (0 ∷ 1 ∷ 1 ∷ 1 ∷ 0 ∷ 0 ∷ 0 ∷ 0 ∷ [])
    ∷ (1 ∷ 1 ∷ 0 ∷ 0 ∷ 0 ∷ 0 ∷ 0 ∷ 0 ∷ [])
    ∷ (1 ∷ 1 ∷ 0 ∷ 0 ∷ 0 ∷ 0 ∷ 0 ∷ 0 ∷ [])
    ∷ []
    ∷ (0 ∷ 1 ∷ 0 ∷ 0 ∷ 0 ∷ 1 ∷ 0 ∷ 1 ∷ [])
    ∷ (1 ∷ 0 ∷ 0 ∷ 0 ∷ 0 ∷ 0 ∷ 1 ∷ 0 ∷ [])
    ∷ (1 ∷ 0 ∷ 0 ∷ 0 ∷ 0 ∷ 0 ∷ 1 ∷ 0 ∷ [])
    ∷ (1 ∷ 0 ∷ 0 ∷ 0 ∷ 0 ∷ 0 ∷ 1 ∷ 0 ∷ [])
    ∷ (1 ∷ 0 ∷ 0 ∷ 0 ∷ 0 ∷ 0 ∷ 0 ∷ 0 ∷ [])
    ∷ []

-- 1 where an effect of a code uses part j
-- 0 also past the last code
unfoldable pub uses : ℕ → ℕ → ℕ
uses code j = get_or (get_or used_parts code []) j 0

-- what a word between the places and the captures has to lie below: kind, reason, mutation reason, function, identity, instance, count
-- a count is tested apart, as a class of its own
unfoldable pub middle_limit : ℕ → ℕ → ℕ → ℕ → Option ℕ
middle_limit functions diagnostics code w =
    get_or
    (used_if (uses code 2) (Some 6) ∷ used_if (uses code 3) (Some reason_count) ∷ used_if (uses code 4) (Some 2) ∷ used_if (uses code 5) (Some functions)
    ∷ used_if (uses code 6) (Some 256) ∷ used_if (uses code 6) (Some diagnostics) ∷ used_if (uses code 7) any ∷ [])
    w
    None

-- what word w of a record has to lie below: by code and count of captures, for numbers of identifiers, functions and diagnostics
-- the code; the place, or the source; the destination; what stands between the places and the captures; the captures
unfoldable pub effect_limit : ℕ → ℕ → ℕ → ℕ → ℕ → ℕ → Option ℕ
effect_limit identifiers functions diagnostics code n w =
    ite (ltb w 18)
    (ite (eqb w 0) (Some 18)
    (ite (ltb w 6) (used_if (uses code 0) (place_limit identifiers (w - 1)))
    (ite (ltb w 11) (used_if (uses code 1) (place_limit identifiers (w - 6)))
    (middle_limit functions diagnostics code (w - 11)))))
    (used_if (uses code 7) (run_limit identifiers n (w - 18)))

-- ---- the class of an effect

-- a CreateFunction has at most sixteen captures
-- "captures (16)"
unfoldable pub count_class : ℕ → ℕ → ℕ
count_class code n = earns 2 (eqb (uses code 7) 1 && ltb 16 n)

-- a diagnostic has the identity of its instance
-- "A diagnostic must already stand in the table, else 3"
unfoldable pub numbers_class : ContextWords → ℕ → ℕ → ℕ → ℕ
numbers_class c code identity instance = earns 3 (eqb (uses code 6) 1 && not (eqb identity (diagnostic_in c.diagnostics instance).identity))

module _ (identifiers functions : ℕ) (c : ContextWords) where
  -- the class of an effect's record, in a list of words of its own or in the context's; an Apply earns a class given
  -- "Of an Apply no word but the code is tested"
  unfoldable pub effect_class : ℕ → Table → List ℕ → ℕ → ℕ
  effect_class apply t xs i =
      ite (eqb (field t xs i 0) 12) apply
      (lower (count_class (field t xs i 0) (field t xs i 17))
      (lower (record_class t xs (effect_limit identifiers functions (instance_count c) (field t xs i 0) (field t xs i 17)) i)
      (numbers_class c (field t xs i 0) (field t xs i 15) (field t xs i 16))))

-- ---- the instruction

-- a place that is lent by value
-- "places: identifier, `Effect` .., reactive 0 or 1"
unfoldable pub place_class : ℕ → Place → ℕ
place_class identifiers p = earns 3 (not (ltb p.identifier identifiers) || (not (ltb p.effect 8) || not (ltb p.reactive 2)))

-- "candidates (64)", each a right effect; "5 a candidate is Apply"; "own function + 1 or 0"
-- an instruction is its candidates, its lvalue, and its own function if it has one
unfoldable pub instruction_class : ℕ → ℕ → ContextWords → List ℕ → ℕ → Place → ℕ → ℕ
instruction_class identifiers functions c xs count lvalue own =
    lower (earns 2 (ltb 64 count))
    (lower (lowest_below count (effect_class identifiers functions c 5 candidate_table xs)) (lower (place_class identifiers lvalue) (earns 3 (not (leb own functions)))))
