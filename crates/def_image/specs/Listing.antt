-- The listing that `infer` writes, as bytes (document 01, 'The job image and its program'). Assumes nothing: these are definitions.
use Rattle.std.specs.Prelude.{ℕ, zero, suc, ◌+◌, ◌/◌, ◌%◌, true, false, List, [], ◌∷◌, ◌++◌, map, ltb, length, Option, None, Some}
use Prim.Native.Char.{code}
use Prim.Native.String.{String}
use Rattle.base_sets.specs.Members.{members}
use Rattle.def_kinds.specs.declared.AbstractValue.{AbstractValue}
use Rattle.def_kinds.specs.Kinds as Kinds
use Rattle.def_effects.specs.declared.Place.{Place}
use Rattle.def_effects.specs.Effects.{AliasingEffect, Freeze, Mutate, MutateConditionally, MutateTransitive, MutateTransitiveConditionally, Capture, Alias, MaybeAlias, Assign, Create, CreateFrom, ImmutableCapture, CreateFunction, MutateFrozen, MutateGlobal, Impure, Render}
use Rattle.def_transfer.specs.Monad.{Res, ok, refused, Done}
use Rattle.def_transfer.specs.Tables.{World}
use Rattle.def_transfer.specs.Pure.{pure}

-- ---- characters by their ASCII codes

abbrev pub newline : ℕ
newline = 10

abbrev pub blank : ℕ
blank = 32

abbrev pub dash : ℕ
dash = 45

abbrev pub digit : ℕ → ℕ
digit d = 48 + d

-- the bytes of a text of ASCII characters
unfoldable pub ascii : String → List ℕ
ascii String.[] = []
ascii (String.◌∷◌ c cs) = code c ∷ ascii cs

-- the decimal digits of n in front of others; the first number is how many digits may still come
unfoldable pub decimal_before : ℕ → ℕ → List ℕ → List ℕ
decimal_before zero n l = l
decimal_before (suc f) n l = elim (ltb n 10) [ true ↦ digit n ∷ l | false ↦ decimal_before f (n / 10) (digit (n % 10) ∷ l) ]

unfoldable pub decimal : ℕ → List ℕ
decimal n = decimal_before (suc n) n []

-- ---- lines: a word, then numbers

-- "Absent is `-`."
unfoldable pub shown : Option ℕ → List ℕ
shown None = dash ∷ []
shown (Some n) = decimal n

unfoldable pub shown_all : List (Option ℕ) → List ℕ
shown_all [] = newline ∷ []
shown_all (x ∷ xs) = blank ∷ (shown x ++ shown_all xs)

unfoldable pub line : List ℕ → List (Option ℕ) → List ℕ
line w xs = w ++ shown_all xs

-- the lines of n numbers from k on
unfoldable pub lines_from : ℕ → ℕ → (ℕ → List ℕ) → List ℕ
lines_from zero k f = []
lines_from (suc n) k f = f k ++ lines_from n (suc k) f

-- ---- "E: code, source, destination, kind, reason, function or diagnostic."

-- "Places are shown by identifier."
abbrev pub place : Place → Option ℕ
place p = Some p.identifier

abbrev pub row : ℕ → Option ℕ → Option ℕ → Option ℕ → Option ℕ → Option ℕ → List (Option ℕ)
row c source destination kind reason last = Some c ∷ source ∷ destination ∷ kind ∷ reason ∷ last ∷ []

-- "A mutation reason stands under reason by its code, none as `-`."
abbrev pub mutation_reason : ℕ → Option ℕ
mutation_reason zero = None
mutation_reason (suc r) = Some (suc r)

-- "A place that is no destination is a source." A diagnostic is shown by its place in the table. Captures are not shown.
abbrev pub effect_row : AliasingEffect → List (Option ℕ)
effect_row (Freeze p r) = row 0 (place p) None None (Some r) None
effect_row (Mutate p r) = row 1 (place p) None None (mutation_reason r) None
effect_row (MutateConditionally p) = row 2 (place p) None None None None
effect_row (MutateTransitive p) = row 3 (place p) None None None None
effect_row (MutateTransitiveConditionally p) = row 4 (place p) None None None None
effect_row (Capture f i) = row 5 (place f) (place i) None None None
effect_row (Alias f i) = row 6 (place f) (place i) None None None
effect_row (MaybeAlias f i) = row 7 (place f) (place i) None None None
effect_row (Assign f i) = row 8 (place f) (place i) None None None
effect_row (Create i k r) = row 9 None (place i) (Some (Kinds.code_of k)) (Some r) None
effect_row (CreateFrom f i) = row 10 (place f) (place i) None None None
effect_row (ImmutableCapture f i) = row 11 (place f) (place i) None None None
effect_row (CreateFunction cs f i) = row 13 None (place i) None None (Some f)
effect_row (MutateFrozen p d) = row 14 (place p) None None None (Some d.instance)
effect_row (MutateGlobal p d) = row 15 (place p) None None None (Some d.instance)
effect_row (Impure p d) = row 16 (place p) None None None (Some d.instance)
effect_row (Render p) = row 17 (place p) None None None None

unfoldable pub effect_lines : List AliasingEffect → List ℕ
effect_lines [] = []
effect_lines (e ∷ es) = line (ascii "E") (effect_row e) ++ effect_lines es

-- ---- "V: number, kind, reasons."

unfoldable pub value_line : ℕ → Option AbstractValue → List ℕ
value_line v None = []
value_line v (Some a) = line (ascii "V") (Some v ∷ Some (Kinds.code_of a.kind) ∷ Some a.reason ∷ [])

-- ---- "P: identifier, its values, or `-` for an empty set."

abbrev pub or_absent : List ℕ → List (Option ℕ)
or_absent [] = None ∷ []
or_absent (v ∷ vs) = Some v ∷ map Some vs

unfoldable pub set_line : ℕ → Option ℕ → List ℕ
set_line i None = []
set_line i (Some s) = line (ascii "P") (Some i ∷ or_absent (members s))

-- ---- "U: first undefined identifier."

-- a session's access: 0, or 1 + identifier
abbrev pub undefined_identifier : ℕ → Option ℕ
undefined_identifier zero = None
undefined_identifier (suc i) = Some i

-- ---- the whole

-- "A refusal prints only `REFUSED n`."
unfoldable pub refusal_line : ℕ → List ℕ
refusal_line n = line (ascii "REFUSED") (Some n ∷ [])

-- "OK: effects, walk entries.", then the lines of the effects, of the values 1 to 1,023, of the sets of 512 identifiers, and the access
-- over plain parts: the effects listed, the entries, the value of a number, the set of an identifier, the session's access
unfoldable pub shown_lines : List AliasingEffect → ℕ → (ℕ → Option AbstractValue) → (ℕ → Option ℕ) → ℕ → List ℕ
shown_lines es entries value_of set_of access =
    line (ascii "OK") (Some (length es) ∷ Some entries ∷ [])
    ++ (effect_lines es
    ++ (lines_from 1023 1 (λ v. value_line v (value_of v))
    ++ (lines_from 512 0 (λ i. set_line i (set_of i)) ++ line (ascii "U") (undefined_identifier access ∷ []))))

-- the lines of a world after its job
-- what it listed, its entries, its state and its session's access
unfoldable pub ok_lines : World pure → List ℕ
ok_lines w = shown_lines w.rest.work.listed w.rest.session.entries w.state.values w.state.sets w.rest.session.access

unfoldable pub listing : Res (World pure) Done → List ℕ
listing (ok a w) = ok_lines w
listing (refused n w) = refusal_line n
