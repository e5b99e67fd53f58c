-- Which class of refusal a record of each table of a context earns by its words (document 01, 'The job image' and 'Refused calls').
-- Assumes nothing: these are definitions.
use Rattle.std.specs.Prelude.{ℕ, ◌-◌, ◌/◌, ◌%◌, Bool, not, ◌&&◌, ◌||◌, List, [], ◌∷◌, eqb, ltb, get_or, Option, None, Some}
use Rattle.base_tests.specs.Tests.{ite}
use Rattle.def_kinds.specs.Reasons.{reason_count}
use Rattle.def_effects.specs.Places.{no_span, eq_span}
use Rattle.def_transfer.specs.Pure.{Interned}
use Rattle.lent_tables.specs.Words.{field}
use Rattle.lent_layout.specs.Layout as Layout
use Rattle.lent_context.specs.Lent.{flag_one, flag_two}
use Rattle.refuse_class.specs.Class.{lower}
use Rattle.refuse_words.specs.Classes.{lowest_below, word_class, earns, used_if, any, run_limit, record_class}

-- ---- identifiers

-- "identifiers: flags (1 ref, 2 hoisted), name 1..512 or 0, access start, end (both words zero if not hoisted)"
-- an access has a limit only where the identifier is hoisted
unfoldable pub identifier_limit : ℕ → ℕ → Option ℕ
identifier_limit flags w = get_or (Some 4 ∷ Some 513 ∷ used_if (flags / 2 % 2) any ∷ used_if (flags / 2 % 2) any ∷ []) w None

-- the class of an identifier
unfoldable pub identifier_class : List ℕ → ℕ → ℕ
identifier_class c i = record_class Layout.identifiers c (identifier_limit (field Layout.identifiers c i 0)) i

-- ---- functions

-- "functions: flags (1 effects known, 2 tracked side effect; ..), .. count of context places (16), .. count of places mutated inside (32)"
unfoldable pub function_limit : ℕ → ℕ → ℕ → Option ℕ
function_limit identifiers inside w = ite (ltb w 3) (get_or (Some 4 ∷ any ∷ any ∷ []) w None) (run_limit identifiers inside (w - 3))

-- "2, and any place mutated inside, needs 1, else 3"
-- what is mutated inside is known only with the function's effects
unfoldable pub needs_known : ℕ → ℕ → Bool
needs_known flags inside = (flag_two flags || not (eqb inside 0)) && not (flag_one flags)

-- more than sixteen context places, or more than 32 mutated inside
-- "a count is above its limit"
unfoldable pub places_class : ℕ → ℕ → ℕ
places_class n inside = earns 2 (ltb 16 n || ltb 32 inside)

-- the class of a function, whose context places stand in a table ps of their own
-- of both its counts, its record, its flags, and the record of its context places
unfoldable pub function_class : ℕ → List ℕ → List ℕ → ℕ → ℕ
function_class identifiers c ps f =
    lower (places_class (field Layout.functions c f 1) (field Layout.functions c f 2))
    (lower (record_class Layout.functions c (function_limit identifiers (field Layout.functions c f 2)) f)
    (lower (earns 3 (needs_known (field Layout.functions c f 0) (field Layout.functions c f 2))) (record_class Layout.contexts ps (run_limit identifiers (field Layout.functions c f 1)) f)))

-- ---- links

-- a link: 0, or 1 and a function; value number 0 has none
-- "an index lies outside its range"
unfoldable pub link_limit : ℕ → ℕ → ℕ → ℕ → Option ℕ
link_limit functions v flag w = ite (eqb v 0) None (get_or (Some 2 ∷ used_if flag (Some functions) ∷ []) w None)

-- the class of the link of a number
unfoldable pub link_class : ℕ → List ℕ → ℕ → ℕ
link_class functions c v = record_class Layout.links c (link_limit functions v (field Layout.links c v 0)) v

-- ---- cached numbers

-- which parts a cached key of each code uses: source, destination, kind and reason, function and captures
-- Create, CreateFrom, CreateFunction and the two keys of Assign; no other key is cached
unfoldable pub key_parts : ℕ → List ℕ
key_parts code =
    ite (eqb code 9) (0 ∷ 1 ∷ 1 ∷ 0 ∷ [])
    (ite (eqb code 13) (0 ∷ 1 ∷ 0 ∷ 1 ∷ [])
    (ite (eqb code 10 || (eqb code 18 || eqb code 19)) (1 ∷ 1 ∷ 0 ∷ 0 ∷ []) []))

-- 1 where a key of a code uses part j
-- 0 also of a code that is not cached
unfoldable pub key_uses : ℕ → ℕ → ℕ
key_uses code j = get_or (key_parts code) j 0

-- what a word before the captures of a cached key has to lie below, by its code
-- 1; code; source, destination (each a flag and a number); kind; reason; function (the same); identity; count
unfoldable pub key_head_limit : ℕ → ℕ → ℕ → ℕ → Option ℕ
key_head_limit identifiers functions code w =
    get_or
    (Some 2 ∷ Some 20 ∷ used_if (key_uses code 0) (Some 2) ∷ used_if (key_uses code 0) (Some identifiers) ∷ used_if (key_uses code 1) (Some 2) ∷ used_if (key_uses code 1) (Some identifiers)
    ∷ used_if (key_uses code 2) (Some 6) ∷ used_if (key_uses code 2) (Some reason_count) ∷ used_if (key_uses code 3) (Some 2) ∷ used_if (key_uses code 3) (Some functions) ∷ None ∷ used_if (key_uses code 3) any ∷ [])
    w
    None

-- what word w of a cached key has to lie below, by its code and count of captures
-- the record of 28 words: twelve, then sixteen captures
unfoldable pub key_limit : ℕ → ℕ → ℕ → ℕ → ℕ → Option ℕ
key_limit identifiers functions code n w =
    ite (ltb w 12) (key_head_limit identifiers functions code w) (ite (ltb (w - 12) n) (used_if (key_uses code 3) (Some identifiers)) None)

-- a part that is used and absent
-- a flag of a part that is used is 1
unfoldable pub part_lacks : ℕ → ℕ → Bool
part_lacks u flag = eqb u 1 && eqb flag 0

-- a key has the code of one that is cached, and what that code needs: by the flags of source, destination and function
-- every code that is cached has a destination
unfoldable pub key_lacks : ℕ → ℕ → ℕ → ℕ → Bool
key_lacks code source destination function =
    eqb (key_uses code 1) 0 || (part_lacks (key_uses code 0) source || (eqb destination 0 || part_lacks (key_uses code 3) function))

-- the class of a cached key by its words, but for its count
-- of each word, and of what its code needs
unfoldable pub key_class : ℕ → ℕ → List ℕ → ℕ → ℕ
key_class identifiers functions c v =
    lower (record_class Layout.cached c (key_limit identifiers functions (field Layout.cached c v 1) (field Layout.cached c v 11)) v)
    (earns 3 (key_lacks (field Layout.cached c v 1) (field Layout.cached c v 2) (field Layout.cached c v 4) (field Layout.cached c v 8)))

-- the class of a number without a key
unfoldable pub no_key_class : List ℕ → ℕ → ℕ
no_key_class c v = record_class Layout.cached c (λ w. None) v

-- ---- diagnostics

-- "message case, sentence number .., name number and label spans"; "case 1 .. with sentence 0"
-- identity and identifier come first; there are no more identities than records
unfoldable pub diagnostic_limit : ℕ → ℕ → ℕ → Option ℕ
diagnostic_limit identifiers case w = get_or (Some 256 ∷ Some identifiers ∷ Some 2 ∷ ite (eqb case 0) (Some 11) None ∷ Some 513 ∷ any ∷ any ∷ any ∷ any ∷ []) w None

-- 4 where a diagnostic of case 0 has an access label
-- "an unused word not zero": its span is no span
unfoldable pub label_class : ℕ → ℕ → ℕ → ℕ
label_class case start end = earns 4 (eqb case 0 && not (eq_span (record { start = start; end = end }) no_span))

-- the numbers of a record, in the order of their limits
unfoldable pub numbers_of : Interned → List ℕ
numbers_of x =
    x.identity ∷ x.diagnostic.identifier ∷ x.diagnostic.case ∷ x.diagnostic.sentence ∷ x.diagnostic.name
    ∷ x.diagnostic.access.start ∷ x.diagnostic.access.end ∷ x.diagnostic.own.start ∷ x.diagnostic.own.end ∷ []

-- the class of such a record, by a limit for each number
unfoldable pub numbered_class : (ℕ → Option ℕ) → Interned → ℕ
numbered_class limit x = lowest_below 9 (λ w. word_class (limit w) (get_or (numbers_of x) w 0))

-- the class of a diagnostic by its numbers
-- of each number, and of its access label
unfoldable pub message_class : ℕ → Interned → ℕ
message_class identifiers x =
    lower (numbered_class (diagnostic_limit identifiers x.diagnostic.case) x) (label_class x.diagnostic.case x.diagnostic.access.start x.diagnostic.access.end)

-- the class of a record without use
-- "those after the last .. are zero"
unfoldable pub unused_class : Interned → ℕ
unused_class x = numbered_class (λ w. None) x
