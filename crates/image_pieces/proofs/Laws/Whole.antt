-- The pieces, one after the other, are the listing. Assumes nothing.
use Rattle.std.specs.Prelude.{ℕ, zero, suc, ◌+◌, ◌-◌, ◌*◌, ◌≤◌, ◌<◌, ◌≡◌, refl, Some}
use native.Mathlib.Omega.{arith}
use Rattle.std.proofs.Common.{suc-mul, ◌∙◌, ⊎_elim}
use Rattle.std.proofs.Math.Path.{sym, ap, ap₂}
use mathlib.Core.List.{List, [], ◌∷◌, ◌++◌, append_assoc, append-nil}
use Rattle.base_tests.proofs.Laws.Order.{lt_or_ge}
use Rattle.base_tests.proofs.Laws.Choice.{ite_lt, ite_ge, ite_eq, ite_ne}
use Rattle.lent_values.specs.Cells.{value_at}
use Rattle.lent_sets.specs.Rows.{set_at}
use Rattle.lent_effects.specs.Records.{effect_in}
use Rattle.lent_context.specs.Lent.{effects_in}
use Rattle.lent_layout.specs.Layout.{output}
use Rattle.def_image.specs.Listing.{ascii, line, lines_from, effect_row, effect_lines, value_line, set_line, shown_lines, refusal_line}
use Rattle.image_text.specs.Texts.{lent_listing}
use Rattle.image_text.proofs.Laws.Loops.{effects_length}
use Rattle.image_pieces.specs.Pieces.{Answer, effect_line, effect_run, value_run, listed_piece, refused_piece, piece, all_pieces}
use Rattle.image_pieces.proofs.Laws.Ways.{listed_head, listed_effects, listed_values, listed_set, listed_end, refused_line, refused_past}

-- ---- counted lines

-- the lines of one number
lines_one : (f : ℕ → List ℕ) (k : ℕ) → lines_from 1 k f ≡ f k
unfolding lines_from
lines_one f k = append-nil (f k)

-- a + b of them are the first a, then b
lines_split : (f : ℕ → List ℕ) (a b k : ℕ) → lines_from (a + b) k f ≡ lines_from a k f ++ lines_from b (k + a) f
unfolding lines_from
lines_split f zero b k =
    let z : 0 + b ≡ b = omega arith in
    let y : k + 0 ≡ k = omega arith in
    ap₂ (λ (n m : ℕ). lines_from n m f) z (sym y)
lines_split f (suc a) b k =
    let z : suc a + b ≡ suc (a + b) = omega arith in
    let y : suc k + a ≡ k + suc a = omega arith in
    ap (λ (n : ℕ). lines_from n k f) z
    ∙ ap (λ (l : List ℕ). f k ++ l) (lines_split f a b (suc k) ∙ ap (λ (n : ℕ). lines_from a (suc k) f ++ lines_from b n f) y)
    ∙ sym (append_assoc (f k) (lines_from a (suc k) f) (lines_from b (k + suc a) f))

-- lines that are equal one by one
pub lines_same : (f g : ℕ → List ℕ) (n k j : ℕ) → ((i : ℕ) → i < n → f (k + i) ≡ g (j + i)) → lines_from n k f ≡ lines_from n j g
unfolding lines_from
lines_same f g zero k j h = refl
lines_same f g (suc n) k j h =
    let a : k + 0 ≡ k = omega arith in
    let b : j + 0 ≡ j = omega arith in
    ap₂ (λ (x y : List ℕ). x ++ y)
    (sym (ap f a) ∙ h 0 (omega arith) ∙ ap g b)
    (lines_same f g n (suc k) (suc j) (λ i l.
    let c : suc k + i ≡ k + suc i = omega arith in
    let d : suc j + i ≡ j + suc i = omega arith in
    ap f c ∙ h (suc i) (omega arith) ∙ sym (ap g d)))

-- lines that are empty
lines_none : (f : ℕ → List ℕ) (n k : ℕ) → ((i : ℕ) → k ≤ i → f i ≡ []) → lines_from n k f ≡ []
unfolding lines_from
lines_none f zero k h = refl
lines_none f (suc n) k h = ap₂ (λ (x y : List ℕ). x ++ y) (h k (omega arith)) (lines_none f n (suc k) (λ i l. h i (omega arith)))

-- n runs of b lines each are n times b lines
lines_runs : (f g : ℕ → List ℕ) (b n k j : ℕ) → ((i : ℕ) → i < n → f (k + i) ≡ lines_from b (j + i * b) g) → lines_from n k f ≡ lines_from (n * b) j g
unfolding lines_from
lines_runs f g b zero k j h = let z : 0 * b ≡ 0 = omega arith in sym (ap (λ (m : ℕ). lines_from m j g) z)
lines_runs f g b (suc n) k j h =
    let a : k + 0 ≡ k = omega arith in
    let c : j + 0 * b ≡ j = omega arith in
    let e : suc n * b ≡ n * b + b = suc-mul n b in
    let d : suc n * b ≡ b + n * b = omega arith in
    ap₂ (λ (x y : List ℕ). x ++ y)
    (sym (ap f a) ∙ h 0 (omega arith) ∙ ap (λ (m : ℕ). lines_from b m g) c)
    (lines_runs f g b n (suc k) (j + b) (λ i l.
    let p : suc k + i ≡ k + suc i = omega arith in
    let q : suc i * b ≡ i * b + b = suc-mul i b in
    let r : j + suc i * b ≡ j + b + i * b = omega arith in
    ap f p ∙ h (suc i) (omega arith) ∙ ap (λ (m : ℕ). lines_from b m g) r))
    ∙ sym (lines_split g b (n * b) j)
    ∙ sym (ap (λ (m : ℕ). lines_from m j g) d)

-- ---- the effects

-- the lines of as many numbers as suffice are those of the effects that are listed
effects_listed : (os : List ℕ) (count n k : ℕ) → count ≤ k + n → lines_from n k (effect_line os count) ≡ effect_lines (effects_in output os k (count - k))
unfolding lines_from effect_lines effects_in effect_line
effects_listed os count zero k h =
    let z : count - k ≡ 0 = omega arith in
    sym (ap (λ (m : ℕ). effect_lines (effects_in output os k m)) z)
effects_listed os count (suc n) k h =
    ⊎_elim
    (λ l.
    let m : count - k ≡ suc (count - suc k) = omega arith in
    ap₂ (λ (x y : List ℕ). x ++ y)
    (ite_lt k count (line (ascii "E") (effect_row (effect_in output os k))) [] l)
    (effects_listed os count n (suc k) (omega arith))
    ∙ sym (ap (λ (m : ℕ). effect_lines (effects_in output os k m)) m))
    (λ l.
    let m : count - k ≡ 0 = omega arith in
    let q : count - suc k ≡ 0 = omega arith in
    ap₂ (λ (x y : List ℕ). x ++ y)
    (ite_ge k count (line (ascii "E") (effect_row (effect_in output os k))) [] l)
    (effects_listed os count n (suc k) (omega arith) ∙ ap (λ (m : ℕ). effect_lines (effects_in output os (suc k) m)) q)
    ∙ sym (ap (λ (m : ℕ). effect_lines (effects_in output os k m)) m))
    (lt_or_ge k count)

-- ---- the whole

module _ (s : Answer) (vs ss os : List ℕ) where
  -- piece k, where nothing is refused
  abbrev p : ℕ → List ℕ
  p = listed_piece s vs ss os

  -- pieces 1 to 16
  runs_effects : s.count ≤ 1120 → lines_from 16 1 p ≡ effect_lines (effects_in output os 0 s.count)
  unfolding effect_run
  runs_effects h =
      let z : s.count - 0 ≡ s.count = omega arith in
      lines_runs p (effect_line os s.count) 70 16 1 0 (λ i l.
      let e : 70 * (1 + i - 1) ≡ 0 + i * 70 = omega arith in
      sym (listed_effects s vs ss os (1 + i) (λ z. omega arith) (omega arith)) ∙ ap (λ (m : ℕ). lines_from 70 m (effect_line os s.count)) e)
      ∙ effects_listed os s.count 1120 0 (omega arith)
      ∙ ap (λ (m : ℕ). effect_lines (effects_in output os 0 m)) z

  -- pieces 17 to 27
  runs_values : lines_from 11 17 p ≡ lines_from 1023 1 (λ v. value_line v (value_at vs v))
  unfolding value_run
  runs_values =
      lines_runs p (λ v. value_line v (value_at vs v)) 93 11 17 1 (λ i l.
      let e : 93 * (17 + i - 17) + 1 ≡ 1 + i * 93 = omega arith in
      sym (listed_values s vs ss os (17 + i) (omega arith) (omega arith)) ∙ ap (λ (m : ℕ). lines_from 93 m (λ v. value_line v (value_at vs v))) e)

  -- pieces 28 to 539
  runs_sets : lines_from 512 28 p ≡ lines_from 512 0 (λ i. set_line i (set_at ss i))
  runs_sets =
      lines_same p (λ i. set_line i (set_at ss i)) 512 28 0 (λ i l.
      let e : 28 + i - 28 ≡ 0 + i = omega arith in
      sym (listed_set s vs ss os (28 + i) (omega arith) (omega arith)) ∙ ap (λ (m : ℕ). set_line m (set_at ss m)) e)

  -- all of them, one after the other
  parts : lines_from 541 0 p ≡ p 0 ++ (lines_from 16 1 p ++ (lines_from 11 17 p ++ (lines_from 512 28 p ++ p 540)))
  parts =
      lines_split p 1 540 0
      ∙ ap₂ (λ (x y : List ℕ). x ++ y) (lines_one p 0)
      (lines_split p 16 524 1
      ∙ ap (λ (x : List ℕ). lines_from 16 1 p ++ x)
      (lines_split p 11 513 17
      ∙ ap (λ (x : List ℕ). lines_from 11 17 p ++ x)
      (lines_split p 512 1 28 ∙ ap (λ (x : List ℕ). lines_from 512 28 p ++ x) (lines_one p 540))))

  -- the pieces of a result are its listing
  -- "The output list has 1,120 records (32 + 64 × 17, so it suffices)"
  pub pieces_listed : s.refusal ≡ 0 → s.count ≤ 1120 → all_pieces s vs ss os ≡ lent_listing os s.count s.entries vs ss s.access
  unfolding all_pieces piece lent_listing shown_lines
  pieces_listed r h =
      lines_same (piece s vs ss os) p 541 0 0 (λ i l. ite_eq s.refusal 0 _ _ r)
      ∙ parts
      ∙ ap₂ (λ (x y : List ℕ). x ++ y)
      (sym (listed_head s vs ss os 0 refl) ∙ sym (ap (λ (n : ℕ). line (ascii "OK") (Some n ∷ Some s.entries ∷ [])) (effects_length os 0 s.count)))
      (ap₂ (λ (x y : List ℕ). x ++ y) (runs_effects h)
      (ap₂ (λ (x y : List ℕ). x ++ y) runs_values (ap₂ (λ (x y : List ℕ). x ++ y) runs_sets (sym (listed_end s vs ss os 540 refl)))))

  -- those of a refusal are its line
  pub pieces_refused : (s.refusal ≡ 0 → ⊥) → all_pieces s vs ss os ≡ refusal_line s.refusal
  unfolding all_pieces piece
  pieces_refused n =
      lines_same (piece s vs ss os) (refused_piece s.refusal) 541 0 0 (λ i l. ite_ne s.refusal 0 _ _ n)
      ∙ lines_split (refused_piece s.refusal) 1 540 0
      ∙ ap₂ (λ (x y : List ℕ). x ++ y)
      (lines_one (refused_piece s.refusal) 0 ∙ sym (refused_line s.refusal 0 refl))
      (lines_none (refused_piece s.refusal) 540 1 (λ i l. sym (refused_past s.refusal i (λ z. omega arith))))
      ∙ append-nil (refusal_line s.refusal)
