-- Laws by which the functions that read an image meet their definitions: one for each way through. Assumes nothing.
use Rattle.std.specs.Prelude.{ℕ, ◌/◌, ◌≤◌, ◌≡◌, Bool, not, eqb, ltb, length, take, drop}
use Rattle.std.proofs.Common.{arith, ◌∙◌, length-append, length-drop, length-take-le, eqb-true, ltb-false}
use Rattle.std.proofs.Math.Path.{sym, ap}
use Rattle.std.proofs.Math.Bool.{true, false}
use mathlib.Core.List.{List, ◌++◌}
use Rattle.std.proofs.lemmas.Bool.{not-false}
use Rattle.base_tests.specs.Tests.{ite}
use Rattle.base_tests.proofs.Laws.Choice.{ite_eq, ite_ne}
use Rattle.lent_copies.specs.Copies.{zeros}
use Rattle.base_tests.proofs.Laws.Bool.{or_no_first, or_no_second}
use Rattle.def_image.specs.Layout.{wrong_length, words_of, values, pairs, candidates, count_of}
use Rattle.def_image.specs.Refusals.{refusal_of_words, refusal_of}
use Rattle.lent_layout.specs.Context.{ContextWords, is_full, emptied}
use Rattle.image_words.specs.Loaded.{loaded}
use Rattle.image_words.proofs.Laws.Load.{loaded_whole}
use Rattle.image_decode.specs.Decoded.{decoded_values, decoded_sets, decoded_context, decoded_candidates}
use Rattle.image_job.specs.Reading.{Said, Tables, tables, Read, given, job_of, filled, no_job, refused_with, read_words, lent_wrong, read_class, read_image}

-- ---- the words of an image

-- a class refuses them: nothing was written
-- one way through `read_words`
pub words_refused : (bs im : List ℕ) (m : ℕ) (vs ss : List ℕ) (cs : ContextWords) (xs : List ℕ) (n : ℕ) (j : Said) → im ≡ loaded bs m → n ≡ refusal_of_words im → (n ≡ 0 → ⊥) → j ≡ no_job n → given j vs ss cs xs ≡ read_words (loaded bs m) (tables vs ss cs xs)
unfolding read_words
words_refused bs im m vs ss cs xs n j e f g h =
    let q : n ≡ refusal_of_words (loaded bs m) = f ∙ ap refusal_of_words e in
    ap (λ (x : Said). given x vs ss cs xs) (h ∙ ap no_job q)
    ∙ sym (ite_ne (refusal_of_words (loaded bs m)) 0 (record { job = job_of (loaded bs m); tables = filled (loaded bs m) (tables vs ss cs xs) }) (refused_with (refusal_of_words (loaded bs m)) (tables vs ss cs xs)) (λ z. g (q ∙ z)))

-- none does: the tables are filled
pub words_read : (bs im : List ℕ) (m : ℕ) (vs ss : List ℕ) (cs : ContextWords) (xs us ts : List ℕ) (ds : ContextWords) (ys : List ℕ) (n : ℕ) (j : Said) → im ≡ loaded bs m → n ≡ refusal_of_words im → n ≡ 0
    → us ≡ decoded_values im (count_of im values) (zeros (length vs)) → ts ≡ decoded_sets im (count_of im pairs) (zeros (length ss)) → ds ≡ decoded_context im (emptied cs)
    → ys ≡ decoded_candidates im (count_of im candidates) (zeros (length xs)) → j ≡ job_of im
    → given j us ts ds ys ≡ read_words (loaded bs m) (tables vs ss cs xs)
unfolding read_words filled
words_read bs im m vs ss cs xs us ts ds ys n j e f g hv hs hc hx hj =
    let q : refusal_of_words (loaded bs m) ≡ 0 = sym (f ∙ ap refusal_of_words e) ∙ g in
    whole
    ∙ sym (ite_eq (refusal_of_words (loaded bs m)) 0 (record { job = job_of (loaded bs m); tables = filled (loaded bs m) (tables vs ss cs xs) }) (refused_with (refusal_of_words (loaded bs m)) (tables vs ss cs xs)) q)
  where
    whole : given j us ts ds ys ≡ record { job = job_of (loaded bs m); tables = filled (loaded bs m) (tables vs ss cs xs) }
    whole = cc

-- ---- the bytes of an image

-- what is lent, and which class refuses it
-- one law for each way through `read_image`
module _ (bs : List ℕ) (w : ℕ) (vs ss : List ℕ) (cs : ContextWords) (xs : List ℕ) where
  -- the tables as they are lent
  abbrev t : Tables
  t = tables vs ss cs xs

  -- whether a lent list has the wrong length
  abbrev wrong : Bool
  wrong = lent_wrong w (length vs) (length ss) (is_full cs) (length xs)

  -- a class decides, once it is known
  by_class : (n : ℕ) → read_class bs w t ≡ n → ite (eqb n 0) (record { job = job_of (words_of bs); tables = filled (words_of bs) t }) (refused_with n t) ≡ read_image bs w t
  unfolding read_image
  by_class n e = sym (ap (λ (k : ℕ). ite (eqb k 0) (record { job = job_of (words_of bs); tables = filled (words_of bs) t }) (refused_with k t)) e)

  -- a lent list has the wrong length
  pub read_lent : (j : Said) → true ≡ wrong → j ≡ no_job 1 → given j vs ss cs xs ≡ read_image bs w t
  unfolding read_class
  read_lent j h e = ap (λ (x : Said). given x vs ss cs xs) e ∙ by_class 1 (ap (λ (b : Bool). ite b 1 (refusal_of bs)) (sym h))

  -- the class is the image's own
  own_class : false ≡ wrong → read_class bs w t ≡ refusal_of bs
  unfolding read_class
  own_class h = ap (λ (b : Bool). ite b 1 (refusal_of bs)) (sym h)

  -- the image has the wrong length
  -- "from 68 to 65,536 bytes and a multiple of 4 (else 1)"
  pub read_length : (j : Said) → false ≡ wrong → true ≡ wrong_length bs → j ≡ no_job 1 → given j vs ss cs xs ≡ read_image bs w t
  unfolding refusal_of
  read_length j h g e =
      ap (λ (x : Said). given x vs ss cs xs) e
      ∙ by_class 1 (own_class h ∙ ap (λ (b : Bool). elim b [ true ↦ 1 | false ↦ refusal_of_words (words_of bs) ]) (sym g))

  -- the words decide
  pub read_words_is : (r : Read) (m : ℕ) → false ≡ wrong → false ≡ wrong_length bs → m ≡ length bs / 4 → r ≡ read_words (loaded bs m) t → r ≡ read_image bs w t
  unfolding refusal_of read_words
  read_words_is r m h g l e =
      e
      ∙ ap (λ (im : List ℕ). read_words im t) (loaded_whole bs m l)
      ∙ by_class (refusal_of_words (words_of bs)) (own_class h ∙ ap (λ (b : Bool). elim b [ true ↦ 1 | false ↦ refusal_of_words (words_of bs) ]) (sym g))

-- ---- the part of the scratch that holds the words

-- scratch of the right length has room for an image of the right length
-- "from 68 to 65,536 bytes": 16,384 words
pub words_fit : (bs : List ℕ) (w v s : ℕ) (c : Bool) (x : ℕ) → false ≡ lent_wrong w v s c x → false ≡ wrong_length bs → length bs / 4 ≤ w
unfolding lent_wrong wrong_length
words_fit bs w v s c x h g =
    let a = eqb-true w 16384 (not-false _ (or_no_first (not (eqb w 16384)) _ (sym h))) in
    let b = ltb-false 65536 (length bs) (or_no_first (ltb 65536 (length bs)) _ (or_no_second (ltb (length bs) 68) _ (sym g))) in
    omega arith

-- a slice of which a part was lent is as long as before
pub whole_length : (us ws : List ℕ) (n : ℕ) → n ≤ length ws → length us ≡ length (take n ws) → length (us ++ drop n ws) ≡ length ws
whole_length us ws n h e =
    let a = length-append us (drop n ws) in
    let b = length-drop n ws in
    let d = length-take-le n ws h in
    omega arith
