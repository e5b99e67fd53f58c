-- Laws of the loops that write lines, one for each way through them. Assumes nothing.
use Rattle.std.specs.Prelude.{ℕ, zero, suc, ◌+◌, ◌-◌, ◌≤◌, ◌<◌, ◌≡◌, refl, true, false, length, Option, None, Some}
use Rattle.std.proofs.Common.{arith, ◌∙◌}
use Rattle.std.proofs.Math.Path.{sym, ap}
use mathlib.Core.List.{List, [], ◌∷◌, map}
use Rattle.base_sets.specs.Members.{members, values_of}
use Rattle.base_tests.specs.Tests.{is_some}
use Rattle.lent_sets.proofs.Laws.Row.{none_of}
use Rattle.def_effects.specs.declared.Place.{Place}
use Rattle.lent_effects.specs.declared.AliasingEffect.{AliasingEffect as Head}
use Rattle.lent_effects.specs.Records.{effect_with}
use Rattle.lent_context.specs.Lent.{effects_in}
use Rattle.def_image.specs.Listing.{ascii, newline, shown, shown_all, lines_from, effect_row, set_line, or_absent}
use Rattle.image_text.specs.Texts.{Cursor, put_all, column, columns}
use Rattle.image_text.proofs.Laws.Text.{put_append}
use Rattle.image_text.proofs.Laws.Lines.{line_word, line_column}
use Rattle.lent_layout.specs.Layout.{output}

-- ---- counted lines

-- the lines of one number more
pub lines_step : (f : ℕ → List ℕ) (n k : ℕ) (z c d : Cursor) → k < n → d ≡ put_all (f k) c → put_all (lines_from (n - k) k f) c ≡ z → put_all (lines_from (n - (k + 1)) (k + 1) f) d ≡ z
unfolding lines_from
lines_step f n k z c d h p e =
    let m : n - k ≡ suc (n - (k + 1)) = omega arith in
    let s : suc k ≡ k + 1 = omega arith in
    ap (put_all (lines_from (n - (k + 1)) (k + 1) f)) p
    ∙ ap (λ (x : ℕ). put_all (lines_from (n - (k + 1)) x f) (put_all (f k) c)) (sym s)
    ∙ sym (put_append (f k) (lines_from (n - (k + 1)) (suc k) f) c)
    ∙ sym (ap (λ (x : ℕ). put_all (lines_from x k f) c) m) ∙ e

-- no number is left
-- such a loop's end
pub lines_end : (f : ℕ → List ℕ) (n k : ℕ) (z c : Cursor) → n ≤ k → put_all (lines_from (n - k) k f) c ≡ z → c ≡ z
unfolding lines_from put_all
lines_end f n k z c h e =
    let m : n - k ≡ 0 = omega arith in
    sym (ap (λ (x : ℕ). put_all (lines_from x k f) c) m) ∙ e

-- ---- effects

-- captures are not shown
-- so that a head is enough for a line
pub not_shown : (h : Head) (cs : List Place) → effect_row (effect_with h cs) ≡ effect_row (effect_with h [])
unfolding effect_with
not_shown (Head.Freeze p r) cs = refl
not_shown (Head.Mutate p r) cs = refl
not_shown (Head.MutateConditionally p) cs = refl
not_shown (Head.MutateTransitive p) cs = refl
not_shown (Head.MutateTransitiveConditionally p) cs = refl
not_shown (Head.Capture f i) cs = refl
not_shown (Head.Alias f i) cs = refl
not_shown (Head.MaybeAlias f i) cs = refl
not_shown (Head.Assign f i) cs = refl
not_shown (Head.Create i k r) cs = refl
not_shown (Head.CreateFrom f i) cs = refl
not_shown (Head.ImmutableCapture f i) cs = refl
not_shown (Head.CreateFunction f i) cs = refl
not_shown (Head.MutateFrozen p d) cs = refl
not_shown (Head.MutateGlobal p d) cs = refl
not_shown (Head.Impure p d) cs = refl
not_shown (Head.Render p) cs = refl

-- as many effects as the count says
pub effects_length : (os : List ℕ) (k n : ℕ) → length (effects_in output os k n) ≡ n
unfolding effects_in
effects_length os k zero = refl
effects_length os k (suc n) = ap suc (effects_length os (suc k) n)

-- ---- sets

-- columns and the end of a line
pub shown_columns : (xs : List (Option ℕ)) (c d e : Cursor) → d ≡ put_all (columns xs) c → e ≡ put_all (newline ∷ []) d → e ≡ put_all (shown_all xs) c
unfolding shown_all columns put_all
shown_columns [] c d e p q = q ∙ ap (put_all (newline ∷ [])) p
shown_columns (x ∷ xs) c d e p q =
    line_column x xs c (put_all (column x) c) e refl (shown_columns xs (put_all (column x) c) d e (p ∙ put_append (column x) (columns xs) c) q)

-- the dash of an empty set, and no column of a value
-- one way to the loop of `put_members`
pub members_empty : (l : List ℕ) (c d : Cursor) → length l ≡ 0 → d ≡ put_all (column None) c → put_all (columns (map Some l)) d ≡ put_all (columns (or_absent l)) c
unfolding columns column shown put_all
members_empty [] c d h p = p
members_empty (v ∷ l) c d h p = absurd (omega arith)

-- any other set has a column for each value
members_some : (l : List ℕ) (c : Cursor) → (length l ≡ 0 → ⊥) → put_all (columns (map Some l)) c ≡ put_all (columns (or_absent l)) c
members_some [] c h = absurd (h refl)
members_some (v ∷ l) c h = refl

-- so has the loop of `put_members`, as it begins
pub members_start : (l : List ℕ) (n : ℕ) (c d : Cursor) → n ≡ length l → (n ≡ 0 → ⊥) → d ≡ c → put_all (columns (map Some l)) d ≡ put_all (columns (or_absent l)) c
members_start l n c d e h p = ap (put_all (columns (map Some l))) p ∙ members_some l c (λ z. h (e ∙ z))

-- one value more
pub members_turn : (l m : List ℕ) (v : ℕ) (z c d : Cursor) → l ≡ v ∷ m → d ≡ put_all (column (Some v)) c → put_all (columns (map Some l)) c ≡ z → put_all (columns (map Some m)) d ≡ z
unfolding columns
members_turn l m v z c d e p q =
    ap (put_all (columns (map Some m))) p
    ∙ sym (put_append (column (Some v)) (columns (map Some m)) c)
    ∙ sym (ap (λ (k : List ℕ). put_all (columns (map Some k)) c) e) ∙ q

-- no value is left
-- the loop's end
pub members_done : (l : List ℕ) (z c : Cursor) → l ≡ [] → put_all (columns (map Some l)) c ≡ z → c ≡ z
unfolding columns put_all
members_done l z c e q = sym (ap (λ (k : List ℕ). put_all (columns (map Some k)) c) e) ∙ q

-- an identifier that is not defined has no line
-- one way through `put_set_line`
pub set_absent : (i : ℕ) (o : Option ℕ) (c : Cursor) → is_some o ≡ false → c ≡ put_all (set_line i o) c
unfolding set_line put_all
set_absent i o c h = sym (ap (λ (x : Option ℕ). put_all (set_line i x) c) (none_of o h))

-- any other has one
pub set_is : (i : ℕ) (o : Option ℕ) (c c0 c1 c2 e : Cursor) → is_some o ≡ true → c0 ≡ put_all (80 ∷ []) c → c1 ≡ put_all (column (Some i)) c0 → c2 ≡ put_all (columns (or_absent (values_of o))) c1 → e ≡ put_all (newline ∷ []) c2 → e ≡ put_all (set_line i o) c
unfolding set_line ascii
set_is i None c c0 c1 c2 e h p0 p1 p2 p3 = absurd (let z : ◌≡◌ {A = ℕ} 0 1 = cc in omega arith)
set_is i (Some s) c c0 c1 c2 e h p0 p1 p2 p3 =
    line_word (ascii "P") (Some i ∷ or_absent (members s)) c c0 e p0 (line_column (Some i) (or_absent (members s)) c0 c1 e p1 (shown_columns (or_absent (members s)) c1 c2 e p2 p3))
