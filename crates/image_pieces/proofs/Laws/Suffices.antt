-- The buffer of a piece suffices for every piece, whatever the lent tables hold. Assumes nothing.
use Rattle.std.specs.Prelude.{ℕ, zero, suc, ◌+◌, ◌-◌, ◌/◌, ◌%◌, ◌≤◌, ◌<◌, ◌≡◌, refl, Bool, true, false, List, [], ◌∷◌, eqb, ltb, length, get_or, Option, None, Some}
use Rattle.std.proofs.Common.{arith, ap, lit<, length-append}
use Rattle.std.proofs.lemmas.Nat.{ones-le}
use Rattle.base_tests.specs.Tests.{ite, All}
use Rattle.base_sets.specs.Members.{members}
use Rattle.base_sets.proofs.Laws.Member.{all_map}
use Rattle.def_kinds.specs.declared.AbstractValue.{AbstractValue}
use Rattle.def_kinds.specs.Kinds as Kinds
use Rattle.def_kinds.proofs.Laws.Kinds.{code_lt}
use Rattle.lent_values.specs.Cells.{cell_of, value_at}
use Rattle.lent_sets.specs.Rows.{set_at}
use Rattle.lent_sets.proofs.Laws.Row.{set_fits, set_values}
use Rattle.lent_sets.proofs.Laws.Set.{members_count}
use Rattle.lent_tables.specs.declared.Table.{Table}
use Rattle.lent_tables.specs.Words.{within, index, field, place_in}
use Rattle.lent_effects.specs.declared.AliasingEffect.{AliasingEffect as Head}
use Rattle.lent_effects.specs.Records.{heads, head_in, effect_in, effect_with, counted_places, captures}
use Rattle.def_kinds.specs.Values.{mk}
use Rattle.def_image.specs.Listing.{ascii, decimal, shown, line, lines_from, mutation_reason, effect_row, value_line, set_line, shown_all, undefined_identifier, or_absent, refusal_line}
use Rattle.image_text.proofs.Laws.Lengths.{Small, shown_small, columns_small, absent_small, line_length, lines_length}
use Rattle.image_text.proofs.Laws.Loops.{not_shown}
use Rattle.lent_layout.specs.Layout.{output}
use Rattle.image_pieces.specs.Pieces.{piece_bytes, effect_line}

-- ---- effects

-- every word of a list is one of 32 bits
abbrev pub Words : List ℕ → Type 0
Words c = (j : ℕ) → get_or c j 0 < 4294967296

-- a field of a record is such a word, or 0
field_small : (t : Table) (c : List ℕ) (i w : ℕ) → Words c → field t c i w < 4294967296
unfolding field
field_small t c i w h = go (within t i w)
  where
    go : (b : Bool) → ite b (get_or c (index t i w) 0) 0 < 4294967296
    go true = h (index t i w)
    go false = omega arith

-- a mutation reason is the word, or none
reason_small : (r : ℕ) → r < 4294967296 → Small (mutation_reason r)
reason_small zero h = tt
reason_small (suc r) h = h

-- six columns, each of 32 bits, for a head
-- what an effect's line shows
Fits : Head → Type 0
Fits h = All Small (effect_row (effect_with h []))

-- of what holds of each element and of the default, it holds of the element that is read
pick_all : (P : Head → Type 0) (l : List Head) (k : ℕ) (d : Head) → All P l → P d → P (get_or l k d)
pick_all P [] k d a p = p
pick_all P (x ∷ l) zero d a p = a.0
pick_all P (x ∷ l) (suc k) d a p = pick_all P l k d a.1 p

-- the head of each record of such a list
head_fits : (t : Table) (c : List ℕ) (i : ℕ) → Words c → Fits (head_in t c i)
unfolding head_in heads effect_with Fits place_in
head_fits t c i h =
    pick_all Fits (heads t c i) (field t c i 0) (Head.Render (place_in t c i 1)) (
      (lit< tt, (f 1, (tt, (tt, (f 12, (tt, tt)))))),
      (
        (lit< tt, (f 1, (tt, (tt, (reason_small (field t c i 13) (f 13), (tt, tt)))))),
        (
          (lit< tt, (f 1, (tt, (tt, (tt, (tt, tt)))))),
          (
            (lit< tt, (f 1, (tt, (tt, (tt, (tt, tt)))))),
            (
              (lit< tt, (f 1, (tt, (tt, (tt, (tt, tt)))))),
              (
                (lit< tt, (f 1, (f 6, (tt, (tt, (tt, tt)))))),
                (
                  (lit< tt, (f 1, (f 6, (tt, (tt, (tt, tt)))))),
                  (
                    (lit< tt, (f 1, (f 6, (tt, (tt, (tt, tt)))))),
                    (
                      (lit< tt, (f 1, (f 6, (tt, (tt, (tt, tt)))))),
                      (
                        (lit< tt, (tt, (f 6, ((let k = code_lt (Kinds.kind_at (field t c i 11)) in omega arith), (f 12, (tt, tt)))))),
                        (
                          (lit< tt, (f 1, (f 6, (tt, (tt, (tt, tt)))))),
                          (
                            (lit< tt, (f 1, (f 6, (tt, (tt, (tt, tt)))))),
                            (
                              (lit< tt, (f 1, (tt, (tt, (tt, (tt, tt)))))),
                              (
                                (lit< tt, (tt, (f 6, (tt, (tt, (f 14, tt)))))),
                                (
                                  (lit< tt, (f 1, (tt, (tt, (tt, (f 16, tt)))))),
                                  (
                                    (lit< tt, (f 1, (tt, (tt, (tt, (f 16, tt)))))),
                                    (
                                      (lit< tt, (f 1, (tt, (tt, (tt, (f 16, tt)))))),
                                      tt,
                                    ),
                                  ),
                                ),
                              ),
                            ),
                          ),
                        ),
                      ),
                    ),
                  ),
                ),
              ),
            ),
          ),
        ),
      ),
    )
    (lit< tt, (f 1, (tt, (tt, (tt, (tt, tt))))))
  where
    f : (w : ℕ) → field t c i w < 4294967296
    f w = field_small t c i w h

-- six columns for every effect
row_length : (h : Head) → length (effect_row (effect_with h [])) ≡ 6
unfolding effect_with
row_length (Head.Freeze p r) = refl
row_length (Head.Mutate p r) = refl
row_length (Head.MutateConditionally p) = refl
row_length (Head.MutateTransitive p) = refl
row_length (Head.MutateTransitiveConditionally p) = refl
row_length (Head.Capture f i) = refl
row_length (Head.Alias f i) = refl
row_length (Head.MaybeAlias f i) = refl
row_length (Head.Assign f i) = refl
row_length (Head.Create i k r) = refl
row_length (Head.CreateFrom f i) = refl
row_length (Head.ImmutableCapture f i) = refl
row_length (Head.CreateFunction f i) = refl
row_length (Head.MutateFrozen p d) = refl
row_length (Head.MutateGlobal p d) = refl
row_length (Head.Impure p d) = refl
row_length (Head.Render p) = refl

-- the line of a record takes at most 68 bytes
-- a letter, six columns of eleven and the end of the line
effect_length : (c : List ℕ) (i : ℕ) → Words c → length (line (ascii "E") (effect_row (effect_in output c i))) ≤ 68
unfolding effect_in ascii Fits
effect_length c i h =
    let e = line_length (ascii "E") (effect_row (effect_in output c i)) in
    let q = ap (λ (xs : List (Option ℕ)). length (shown_all xs)) (not_shown (head_in output c i) (counted_places output c i captures)) in
    let l = columns_small (effect_row (effect_with (head_in output c i) [])) (head_fits output c i h) in
    let n = row_length (head_in output c i) in
    omega arith

-- the line of effect k, if there is one
listed_length : (c : List ℕ) (count k : ℕ) → Words c → length (effect_line c count k) ≤ 68
unfolding effect_line
listed_length c count k h = go (ltb k count)
  where
    go : (b : Bool) → length (ite b (line (ascii "E") (effect_row (effect_in output c k))) []) ≤ 68
    go true = effect_length c k h
    go false = omega arith

-- a run of effects
-- 70 lines
pub effects_suffice : (c : List ℕ) (count a b : ℕ) → Words c → b ≤ a + 70 → length (lines_from (b - a) a (effect_line c count)) ≤ piece_bytes
effects_suffice c count a b h l =
    let e = lines_length (effect_line c count) 68 (b - a + a) (b - a) a (omega arith) (λ j p. listed_length c count j h) in
    omega arith

-- ---- values and sets

-- the reasons of a cell are a word of 32 bits
cell_small : (x : ℕ) (v : ℕ) → v < 4294967296 → length (value_line v (cell_of x)) ≤ 35
unfolding cell_of value_line ascii
cell_small x v l = go (eqb (x % 8) 0)
  where
    shows : (a : AbstractValue) → a.reason < 4294967296 → length (value_line v (Some a)) ≤ 35
    shows a h =
        let e = line_length (ascii "V") (Some v ∷ Some (Kinds.code_of a.kind) ∷ Some a.reason ∷ []) in
        let k = code_lt a.kind in
        let s = columns_small (Some v ∷ Some (Kinds.code_of a.kind) ∷ Some a.reason ∷ []) (l, (omega arith, (h, tt))) in
        omega arith

    go : (b : Bool) → length (value_line v (elim b [ true ↦ None | false ↦ Some (mk (Kinds.kind_at (x % 8 - 1)) (x / 8 % 4294967296)) ])) ≤ 35
    go true = omega arith
    go false = shows (mk (Kinds.kind_at (x % 8 - 1)) (x / 8 % 4294967296)) (omega arith)

-- a run of values
-- 93 lines
pub values_suffice : (vs : List ℕ) (a b : ℕ) → a < 4294967296 → b < 4294967296 → b ≤ a + 93 → length (lines_from (b - a) a (λ v. value_line v (value_at vs v))) ≤ piece_bytes
unfolding value_at
values_suffice vs a b p q l =
    let e = lines_length (λ v. value_line v (value_at vs v)) 35 4294967296 (b - a) a (omega arith) (λ v h. cell_small (get_or vs v 0) v h) in
    omega arith

-- the line of an identifier
-- a letter, the identifier, and at most 1,024 values of five bytes
pub set_suffices : (ss : List ℕ) (i : ℕ) (o : Option ℕ) → i < 4294967296 → set_at ss i ≡ o → length (set_line i o) ≤ piece_bytes
unfolding set_line ascii shown_all shown
set_suffices ss i None l h = omega arith
set_suffices ss i (Some s) l h =
    let e = line_length (ascii "P") (Some i ∷ or_absent (members s)) in
    let f = length-append (decimal i) (shown_all (or_absent (members s))) in
    let d = shown_small (Some i) l in
    let m = ones-le 1024 s (set_fits ss i s h) in
    let n = members_count s in
    let a = absent_small (members s) (all_map (members s) (λ v p. p.1) (set_values ss i s h)) in
    omega arith

-- ---- the first line, the last line, a refusal

pub head_suffices : (n m : ℕ) → n < 4294967296 → m < 4294967296 → length (line (ascii "OK") (Some n ∷ Some m ∷ [])) ≤ piece_bytes
unfolding ascii
head_suffices n m p q =
    let e = line_length (ascii "OK") (Some n ∷ Some m ∷ []) in
    let s = columns_small (Some n ∷ Some m ∷ []) (p, (q, tt)) in
    omega arith

-- an access is a word, so its identifier is one
access_small : (a : ℕ) → a < 4294967296 → Small (undefined_identifier a)
access_small zero h = tt
access_small (suc a) h = omega arith

pub end_suffices : (a : ℕ) → a < 4294967296 → length (line (ascii "U") (undefined_identifier a ∷ [])) ≤ piece_bytes
unfolding ascii
end_suffices a h =
    let e = line_length (ascii "U") (undefined_identifier a ∷ []) in
    let s = columns_small (undefined_identifier a ∷ []) (access_small a h, tt) in
    omega arith

pub refusal_suffices : (n : ℕ) → n < 4294967296 → length (refusal_line n) ≤ piece_bytes
unfolding refusal_line ascii
refusal_suffices n h =
    let e = line_length (ascii "REFUSED") (Some n ∷ []) in
    let s = columns_small (Some n ∷ []) (h, tt) in
    omega arith
