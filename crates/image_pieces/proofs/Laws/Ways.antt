-- Which lines a piece has by its number, and what is written of it: one law for each way through the functions that write it. Assumes nothing.
use Rattle.std.specs.Prelude.{ℕ, ◌+◌, ◌-◌, ◌*◌, ◌≤◌, ◌<◌, ◌≡◌, refl, List, [], ◌∷◌, ◌++◌, length, take, drop, Option, Some, Result, Ok, Err}
use native.Mathlib.Omega.{arith}
use Rattle.std.proofs.Math.Path.{sym, ap}
use Rattle.std.proofs.Common.{◌∙◌}
use Rattle.std.proofs.Math.Seq.{take-append_seam}
use Rattle.base_tests.proofs.Laws.Choice.{ite_lt, ite_ge, ite_eq, ite_ne}
use Rattle.lent_values.specs.Cells.{value_at}
use Rattle.lent_sets.specs.Rows.{set_at}
use Rattle.lent_effects.specs.declared.AliasingEffect.{AliasingEffect as Head}
use Rattle.lent_effects.specs.Records.{head_in, effect_in}
use Rattle.lent_layout.specs.Layout.{output}
use Rattle.def_image.specs.Listing.{ascii, line, lines_from, effect_row, value_line, set_line, undefined_identifier, refusal_line}
use Rattle.image_text.specs.Texts.{Cursor, cursor, put_all, head_line}
use Rattle.image_text.proofs.Laws.Text.{put_fits}
use Rattle.image_text.proofs.Laws.Loops.{not_shown}
use Rattle.def_refusals.specs.declared.Refusal.{Refusal}
use Rattle.def_refusals.specs.Verdicts.{number_of}
use Rattle.def_refusals.proofs.Laws.Verdicts.{number_some}
use Rattle.image_pieces.specs.declared.Shown.{Shown}
use Rattle.image_pieces.specs.Pieces.{Answer, answer_of, answer_told, refused_as, piece_bytes, effect_line, effect_run, value_run, listed_piece, refused_piece, piece, Writes, puts}

-- ---- the line of an effect

-- an effect that is listed
-- one way through `put_effect_line`
pub effect_listed : (os : List ℕ) (count k : ℕ) (h : Head) (c d : Cursor) → k < count → h ≡ head_in output os k → d ≡ put_all (head_line h) c → d ≡ put_all (effect_line os count k) c
unfolding effect_line effect_in head_line
effect_listed os count k h c d l q p =
    p
    ∙ ap (λ (y : Head). put_all (head_line y) c) q
    ∙ sym (ap (λ (y : List (Option ℕ)). put_all (line (ascii "E") y) c) (not_shown (head_in output os k) _))
    ∙ sym (ap (λ (t : List ℕ). put_all t c) (ite_lt k count (line (ascii "E") (effect_row (effect_in output os k))) [] l))

-- one that is not
pub effect_past : (os : List ℕ) (count k : ℕ) (c : Cursor) → count ≤ k → c ≡ put_all (effect_line os count k) c
unfolding effect_line put_all
effect_past os count k c l = sym (ap (λ (t : List ℕ). put_all t c) (ite_ge k count (line (ascii "E") (effect_row (effect_in output os k))) [] l))

-- ---- a text by another name

-- a text that is another is written as that one
pub as_text : {s t : List ℕ} {d e : Cursor} → s ≡ t → Writes s d e → Writes t d e
as_text {s} {t} {d} {e} h w = record { bytes = w.bytes ∙ ap (λ (l : List ℕ). put_all l d) h; suffices = let k = ap length h in let m = w.suffices in omega arith }

-- nothing is written
pub no_text : (c : Cursor) → Writes [] c c
unfolding put_all
no_text c = record { bytes = refl; suffices = omega arith }

-- ---- piece k of a listing

module _ (s : Answer) (vs ss os : List ℕ) (k : ℕ) where
  -- the first line
  pub listed_head : k ≡ 0 → line (ascii "OK") (Some s.count ∷ Some s.entries ∷ []) ≡ listed_piece s vs ss os k
  unfolding listed_piece
  listed_head h = sym (ite_eq k 0 _ _ h)

  -- effects
  pub listed_effects : (k ≡ 0 → ⊥) → k < 17 → effect_run os s.count (70 * (k - 1)) ≡ listed_piece s vs ss os k
  unfolding listed_piece
  listed_effects h l = sym (ite_ne k 0 _ _ h ∙ ite_lt k 17 _ _ l)

  -- values
  pub listed_values : 17 ≤ k → k < 28 → value_run vs (93 * (k - 17) + 1) ≡ listed_piece s vs ss os k
  unfolding listed_piece
  listed_values h l = sym (ite_ne k 0 _ _ (λ z. omega arith) ∙ ite_ge k 17 _ _ h ∙ ite_lt k 28 _ _ l)

  -- an identifier
  pub listed_set : 28 ≤ k → k < 540 → set_line (k - 28) (set_at ss (k - 28)) ≡ listed_piece s vs ss os k
  unfolding listed_piece
  listed_set h l = sym (ite_ne k 0 _ _ (λ z. omega arith) ∙ ite_ge k 17 _ _ (omega arith) ∙ ite_ge k 28 _ _ h ∙ ite_lt k 540 _ _ l)

  -- the last line
  pub listed_end : k ≡ 540 → line (ascii "U") (undefined_identifier s.access ∷ []) ≡ listed_piece s vs ss os k
  unfolding listed_piece
  listed_end h = sym (ite_ne k 0 _ _ (λ z. omega arith) ∙ ite_ge k 17 _ _ (omega arith) ∙ ite_ge k 28 _ _ (omega arith) ∙ ite_ge k 540 _ _ (omega arith) ∙ ite_eq k 540 _ _ h)

  -- there is no other
  pub listed_past : 540 ≤ k → (k ≡ 540 → ⊥) → [] ≡ listed_piece s vs ss os k
  unfolding listed_piece
  listed_past h n = sym (ite_ne k 0 _ _ (λ z. omega arith) ∙ ite_ge k 17 _ _ (omega arith) ∙ ite_ge k 28 _ _ (omega arith) ∙ ite_ge k 540 _ _ h ∙ ite_ne k 540 _ _ n)

  -- the runs, as the loops count them
  -- one way through `put_listed_piece` each
  pub writes_effects : (a b : ℕ) (c d : Cursor) → (k ≡ 0 → ⊥) → k < 17 → a ≡ 70 * (k - 1) → b ≡ a + 70 → (b ≤ a + 70 → Writes (lines_from (b - a) a (effect_line os s.count)) c d) → Writes (listed_piece s vs ss os k) c d
  unfolding effect_run
  writes_effects a b c d h l p q f =
      let n : b - a ≡ 70 = omega arith in
      as_text (ap (λ (x : ℕ). lines_from x a (effect_line os s.count)) n ∙ ap (λ (x : ℕ). lines_from 70 x (effect_line os s.count)) p ∙ listed_effects h l) (f (omega arith))

  pub writes_values : (a b : ℕ) (c d : Cursor) → 17 ≤ k → k < 28 → a ≡ 93 * (k - 17) + 1 → b ≡ a + 93 → (b ≤ a + 93 → Writes (lines_from (b - a) a (λ v. value_line v (value_at vs v))) c d) → Writes (listed_piece s vs ss os k) c d
  unfolding value_run
  writes_values a b c d h l p q f =
      let n : b - a ≡ 93 = omega arith in
      as_text (ap (λ (x : ℕ). lines_from x a (λ v. value_line v (value_at vs v))) n ∙ ap (λ (x : ℕ). lines_from 93 x (λ v. value_line v (value_at vs v))) p ∙ listed_values h l) (f (omega arith))

-- ---- piece k

module _ (n k : ℕ) where
  -- the line of a refusal
  pub refused_line : k ≡ 0 → refusal_line n ≡ refused_piece n k
  unfolding refused_piece
  refused_line h = sym (ite_eq k 0 _ _ h)

  -- and no more
  pub refused_past : (k ≡ 0 → ⊥) → [] ≡ refused_piece n k
  unfolding refused_piece
  refused_past h = sym (ite_ne k 0 _ _ h)

-- in a buffer that is long enough, the whole text from its first byte on
-- nothing is left out: that is `suffices`
pub puts_whole : (text bs us : List ℕ) (r : ℕ) → piece_bytes ≤ length bs → Writes text (cursor 0 bs) (cursor r us) → cursor r us ≡ puts text bs
unfolding puts
puts_whole text bs us r l w =
    let s = w.suffices in
    let z : 0 + length text ≡ length text = omega arith in
    w.bytes ∙ put_fits text 0 bs (omega arith) ∙ ap (λ (m : ℕ). cursor m (text ++ drop m bs)) z
    ∙ sym (ite_ge (length bs) piece_bytes (cursor 0 bs) (cursor (length text) (text ++ drop (length text) bs)) l)

-- one that is too short
pub puts_short : (text bs : List ℕ) → length bs < piece_bytes → cursor 0 bs ≡ puts text bs
unfolding puts
puts_short text bs l = sym (ite_lt (length bs) piece_bytes _ _ l)

-- so after the call the first bytes of a buffer that is long enough, as many as it answers, are the text
-- what a program writes out
pub puts_shows : (text bs us : List ℕ) (r : ℕ) → piece_bytes ≤ length bs → cursor r us ≡ puts text bs → take r us ≡ text
unfolding puts
puts_shows text bs us r l e =
    ap (λ (c : Cursor). take c.at c.bytes) (e ∙ ite_ge (length bs) piece_bytes (cursor 0 bs) (cursor (length text) (text ++ drop (length text) bs)) l)
    ∙ take-append_seam text (drop (length text) bs)

module _ (a : Result Shown ℕ) (b : Answer) (vs ss os : List ℕ) (k : ℕ) (bs us : List ℕ) (r : ℕ) (e : answer_told a ≡ b) where
  -- a number by which a job is refused
  -- one way through `put_piece` each
  pub puts_number : (n : ℕ) → a ≡ Err n → (n ≡ 0 → ⊥) → piece_bytes ≤ length bs → Writes (refused_piece n k) (cursor 0 bs) (cursor r us) → cursor r us ≡ puts (piece b vs ss os k) bs
  unfolding piece
  puts_number n h p l w =
      puts_whole _ bs us r l (as_text (sym (ite_ne n 0 (listed_piece (answer_told (Err n)) vs ss os k) (refused_piece n k) p)) w)
      ∙ ap (λ (x : Answer). puts (piece x vs ss os k) bs) (sym (ap answer_told h) ∙ e)

  -- one by the number 0, which is none: a listing of nothing
  pub puts_nothing : (s : Shown) (n : ℕ) → a ≡ Err n → n ≡ 0 → answer_of (Ok s) ≡ refused_as 0 → piece_bytes ≤ length bs → Writes (listed_piece (answer_of (Ok s)) vs ss os k) (cursor 0 bs) (cursor r us) → cursor r us ≡ puts (piece b vs ss os k) bs
  unfolding piece
  puts_nothing s n h z y l w =
      puts_whole _ bs us r l w
      ∙ ap (λ (x : Answer). puts (piece x vs ss os k) bs) (y ∙ ap refused_as (sym z) ∙ sym (ap answer_told h) ∙ e)

  -- a listing
  pub puts_told : (s : Shown) → a ≡ Ok s → piece_bytes ≤ length bs → Writes (listed_piece (answer_of (Ok s)) vs ss os k) (cursor 0 bs) (cursor r us) → cursor r us ≡ puts (piece b vs ss os k) bs
  unfolding piece
  puts_told s h l w = puts_whole _ bs us r l w ∙ ap (λ (x : Answer). puts (piece x vs ss os k) bs) (sym (ap answer_told h) ∙ e)

-- the same of what the code answers
module _ (a : Result Shown Refusal) (vs ss os : List ℕ) (k : ℕ) (bs us : List ℕ) (r : ℕ) where
  -- a refusal
  pub puts_refused : (e : Refusal) (n : ℕ) → a ≡ Err e → n ≡ number_of e → piece_bytes ≤ length bs → Writes (refused_piece n k) (cursor 0 bs) (cursor r us) → cursor r us ≡ puts (piece (answer_of a) vs ss os k) bs
  puts_refused e n h q = puts_number (Err n) (answer_of a) vs ss os k bs us r (ap refused_as q ∙ sym (ap answer_of h)) n refl (λ z. number_some e (sym q ∙ z))

  -- a listing
  pub puts_listed : (s : Shown) → a ≡ Ok s → piece_bytes ≤ length bs → Writes (listed_piece (answer_of (Ok s)) vs ss os k) (cursor 0 bs) (cursor r us) → cursor r us ≡ puts (piece (answer_of a) vs ss os k) bs
  puts_listed s h = puts_told (Ok s) (answer_of a) vs ss os k bs us r (sym (ap answer_of h)) s refl
