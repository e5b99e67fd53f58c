-- An effect that was written as a record is read back: a law for each kind of record. Assumes nothing.
use Prim.Native.Nat.{ℕ, ◌+◌, ◌*◌, ◌≤◌, ◌<◌}
use Rattle.std.specs.Prelude.{◌≡◌}
use Rattle.std.proofs.Math.Path.{refl, ap}
use Rattle.std.proofs.Common.{sym, ◌∙◌}
use mathlib.Core.List.{List}
use native.Mathlib.Omega.{arith}
use Rattle.std.proofs.Math.ListN.{length}
use Rattle.def_kinds.specs.Kinds as Kinds
use Rattle.def_kinds.proofs.Laws.Kinds.{kind_at_code}
use Rattle.def_effects.specs.declared.Place.{Place}
use Rattle.def_effects.specs.declared.AliasingDiagnostic.{AliasingDiagnostic}
use Rattle.def_effects.specs.Effects.{AliasingEffect, Freeze, Mutate, MutateConditionally, MutateTransitive, MutateTransitiveConditionally, Capture, Alias, MaybeAlias, Assign, Create, CreateFrom, ImmutableCapture, CreateFunction, MutateFrozen, MutateGlobal, Impure, Render}
use Rattle.lent_tables.specs.declared.Table.{Table}
use Rattle.lent_tables.specs.Words.{field, put_field, place_in, put_place, places_in, put_places}
use Rattle.lent_tables.proofs.Laws.Word.{put_length, place_length}
use Rattle.lent_effects.specs.declared.AliasingEffect.{AliasingEffect as Head}
use Rattle.lent_effects.specs.Records.{counted_places, effect_with, diagnostic, head_in, effect_in, one_place, two_places, reported, put_effect}
use Rattle.lent_effects.proofs.Laws.Head.{head_0, head_1, head_2, head_3, head_4, head_5, head_6, head_7, head_8, head_9, head_10, head_11, head_13, head_14, head_15, head_16, head_rest}
use Rattle.lent_tables.proofs.Laws.Back.{Held, held_as, place_back, word_back, word_beside, place_beside, run_beside, place_same, run_back}

-- how many captures an effect has
-- a CreateFunction alone has any, and a record has room for sixteen
abbrev pub capture_count : AliasingEffect → ℕ
capture_count (Freeze p r) = 0
capture_count (Mutate p r) = 0
capture_count (MutateConditionally p) = 0
capture_count (MutateTransitive p) = 0
capture_count (MutateTransitiveConditionally p) = 0
capture_count (Capture f into) = 0
capture_count (Alias f into) = 0
capture_count (MaybeAlias f into) = 0
capture_count (Assign f into) = 0
capture_count (Create into k r) = 0
capture_count (CreateFrom f into) = 0
capture_count (ImmutableCapture f into) = 0
capture_count (CreateFunction cs f into) = length cs
capture_count (MutateFrozen p d) = 0
capture_count (MutateGlobal p d) = 0
capture_count (Impure p d) = 0
capture_count (Render p) = 0

module _ (t : Table) (c : List ℕ) (i : ℕ) (wide : t.width ≡ 98) (row : i < t.count) (held : Held t i c) where
  -- a list as long as c holds the record too
  fits : (d : List ℕ) → length d ≡ length c → Held t i d
  fits d e = held_as t i c d e held

  -- a word of the record that was written
  back : (d : List ℕ) (w x : ℕ) → length d ≡ length c → w < 98 → field t (put_field t d i w x) i w ≡ x
  back d w x e l = word_back t i d w x row (let z : w < t.width = omega arith in z) (fits d e)

  -- a place of the record that was written
  backs : (d : List ℕ) (w : ℕ) (p : Place) → length d ≡ length c → w + 5 ≤ 98 → place_in t (put_place t d i w p) i w ≡ p
  backs d w p e l = place_back t i d w p row (let z : w + 5 ≤ t.width = omega arith in z) (fits d e)

  -- a place that a write of a word passes by
  -- the word is none of its five
  passes : (d : List ℕ) (w x u : ℕ) → (u ≤ w → w < u + 5 → ⊥) → place_in t (put_field t d i w x) i u ≡ place_in t d i u
  passes d w x u n = place_same t i d (put_field t d i w x) u (λ v a b. word_beside t i d w x v (λ e. n (omega arith) (omega arith)))

  -- ---- the records with one place, with two, and with a diagnostic

  -- a code keeps the length
  coded_length : (n : ℕ) → length (put_field t c i 0 n) ≡ length c
  coded_length n = put_length t c i 0 n

  -- a code and a place keep the length
  one_length : (n : ℕ) (p : Place) → length (one_place t c i n p) ≡ length c
  one_length n p = place_length t (put_field t c i 0 n) i 1 p ∙ coded_length n

  -- the code of a record with one place
  one_code : (n : ℕ) (p : Place) → field t (one_place t c i n p) i 0 ≡ n
  one_code n p = place_beside t i (put_field t c i 0 n) 1 p 0 (λ a b. omega arith) ∙ back c 0 n refl (omega arith)

  -- its place
  -- five words from word 1 on
  one_place_is : (n : ℕ) (p : Place) → place_in t (one_place t c i n p) i 1 ≡ p
  one_place_is n p = backs (put_field t c i 0 n) 1 p (coded_length n) (omega arith)

  -- the code of a record with two places
  two_code : (n : ℕ) (p q : Place) → field t (two_places t c i n p q) i 0 ≡ n
  two_code n p q = place_beside t i (one_place t c i n p) 6 q 0 (λ a b. omega arith) ∙ one_code n p

  -- its first place
  two_first : (n : ℕ) (p q : Place) → place_in t (two_places t c i n p q) i 1 ≡ p
  two_first n p q = place_same t i (one_place t c i n p) (two_places t c i n p q) 1 (λ v a b. place_beside t i (one_place t c i n p) 6 q v (λ x y. omega arith)) ∙ one_place_is n p

  -- its second place
  -- five words from word 6 on
  two_second : (n : ℕ) (p q : Place) → place_in t (two_places t c i n p q) i 6 ≡ q
  two_second n p q = backs (one_place t c i n p) 6 q (one_length n p) (omega arith)

  -- a record with one place and a word after it
  word_code : (n w x : ℕ) (p : Place) → (w ≡ 0 → ⊥) → field t (put_field t (one_place t c i n p) i w x) i 0 ≡ n
  word_code n w x p d = word_beside t i (one_place t c i n p) w x 0 d ∙ one_code n p

  -- its place
  word_place : (n w x : ℕ) (p : Place) → 6 ≤ w → place_in t (put_field t (one_place t c i n p) i w x) i 1 ≡ p
  word_place n w x p l = passes (one_place t c i n p) w x 1 (λ a b. omega arith) ∙ one_place_is n p

  -- its word
  word_word : (n w x : ℕ) (p : Place) → w < 98 → field t (put_field t (one_place t c i n p) i w x) i w ≡ x
  word_word n w x p l = back (one_place t c i n p) w x (one_length n p) l

  -- a record with one place and a diagnostic
  told_length : (n : ℕ) (p : Place) (x : ℕ) → length (put_field t (one_place t c i n p) i 15 x) ≡ length c
  told_length n p x = put_length t (one_place t c i n p) i 15 x ∙ one_length n p

  -- its code
  told_code : (n : ℕ) (p : Place) (d : AliasingDiagnostic) → field t (reported t c i n p d) i 0 ≡ n
  told_code n p d = word_beside t i (put_field t (one_place t c i n p) i 15 d.identity) 16 d.instance 0 (λ e. omega arith) ∙ word_code n 15 d.identity p (λ e. omega arith)

  -- its place
  told_place : (n : ℕ) (p : Place) (d : AliasingDiagnostic) → place_in t (reported t c i n p d) i 1 ≡ p
  told_place n p d = passes (put_field t (one_place t c i n p) i 15 d.identity) 16 d.instance 1 (λ a b. omega arith) ∙ word_place n 15 d.identity p (omega arith)

  -- its diagnostic
  told_numbers : (n : ℕ) (p : Place) (d : AliasingDiagnostic) → diagnostic t (reported t c i n p d) i ≡ d
  told_numbers n p d = λ j. record {
    identity = (word_beside t i (put_field t (one_place t c i n p) i 15 d.identity) 16 d.instance 15 (λ e. omega arith) ∙ word_word n 15 d.identity p (omega arith)) j;
    instance = back (put_field t (one_place t c i n p) i 15 d.identity) 16 d.instance (told_length n p d.identity) (omega arith) j;
  }

  -- ---- Create and CreateFunction: a destination alone, then words

  -- a code and a destination keep the length
  into_length : (n : ℕ) (q : Place) → length (put_place t (put_field t c i 0 n) i 6 q) ≡ length c
  into_length n q = place_length t (put_field t c i 0 n) i 6 q ∙ coded_length n

  -- the code of a record with a destination alone
  into_code : (n : ℕ) (q : Place) → field t (put_place t (put_field t c i 0 n) i 6 q) i 0 ≡ n
  into_code n q = place_beside t i (put_field t c i 0 n) 6 q 0 (λ a b. omega arith) ∙ back c 0 n refl (omega arith)

  -- its destination
  -- five words from word 6 on
  into_place : (n : ℕ) (q : Place) → place_in t (put_place t (put_field t c i 0 n) i 6 q) i 6 ≡ q
  into_place n q = backs (put_field t c i 0 n) 6 q (coded_length n) (omega arith)

  -- two words after it
  module _ (n w x v y : ℕ) (q : Place) (lw : 11 ≤ w) (lv : w < v) (uv : v < 98) where
    -- the record with the first of the words
    abbrev into1 : List ℕ
    into1 = put_field t (put_place t (put_field t c i 0 n) i 6 q) i w x

    -- and with the second
    abbrev into2 : List ℕ
    into2 = put_field t into1 i v y

    -- the first keeps the length
    into1_length : length into1 ≡ length c
    into1_length = put_length t (put_place t (put_field t c i 0 n) i 6 q) i w x ∙ into_length n q

    -- and so does the second
    into2_length : length into2 ≡ length c
    into2_length = put_length t into1 i v y ∙ into1_length

    -- the code
    -- all else stands after it
    into2_code : field t into2 i 0 ≡ n
    into2_code =
        word_beside t i into1 v y 0 (λ e. omega arith) ∙ word_beside t i (put_place t (put_field t c i 0 n) i 6 q) w x 0 (λ e. omega arith) ∙ into_code n q

    -- the destination
    into2_place : place_in t into2 i 6 ≡ q
    into2_place = passes into1 v y 6 (λ a b. omega arith) ∙ passes (put_place t (put_field t c i 0 n) i 6 q) w x 6 (λ a b. omega arith) ∙ into_place n q

    -- the first word
    -- the second stands elsewhere
    into2_first : field t into2 i w ≡ x
    into2_first = word_beside t i into1 v y w (λ e. omega arith) ∙ back (put_place t (put_field t c i 0 n) i 6 q) w x (into_length n q) (omega arith)

    -- the second word
    into2_second : field t into2 i v ≡ y
    into2_second = back into1 v y into1_length uv

  -- an effect by its head
  by_head : (d : List ℕ) (h : Head) → h ≡ head_in t d i → effect_in t d i ≡ effect_with h (counted_places t d i 17)
  unfolding effect_in
  by_head d h e = ap (λ (x : Head). effect_with x (counted_places t d i 17)) (sym e)

  -- a CreateFunction with its captures
  creation_back : (cs : List Place) (f : ℕ) (q : Place) → length cs ≤ 16 → effect_in t (put_effect t c i (CreateFunction cs f q)) i ≡ CreateFunction cs f q
  unfolding put_effect effect_with counted_places
  creation_back cs f q l =
      by_head d (Head.CreateFunction f q)
      (head_13 t d i 13 (sym (run_beside t i b 18 0 cs 0 (omega arith) ∙ into2_code 13 14 f 17 (length cs) q (omega arith) (omega arith) (omega arith))) f q refl
      (sym (run_beside t i b 18 0 cs 14 (omega arith) ∙ into2_first 13 14 f 17 (length cs) q (omega arith) (omega arith) (omega arith)))
      (sym (place_same t i b d 6 (λ v a e. run_beside t i b 18 0 cs v (omega arith)) ∙ into2_place 13 14 f 17 (length cs) q (omega arith) (omega arith) (omega arith))))
      ∙ ap (λ (x : List Place). CreateFunction x f q)
      (ap (places_in t d i 18 0) (run_beside t i b 18 0 cs 17 (omega arith) ∙ into2_second 13 14 f 17 (length cs) q (omega arith) (omega arith) (omega arith))
      ∙ run_back t i b 18 0 cs row (let z : 18 + (0 + length cs) * 5 ≤ t.width = omega arith in z) (fits b (into2_length 13 14 f 17 (length cs) q (omega arith) (omega arith) (omega arith))))
    where
      b : List ℕ
      b = into2 13 14 f 17 (length cs) q (omega arith) (omega arith) (omega arith)

      d : List ℕ
      d = put_places t b i 18 0 cs

  -- an effect that was written is read back
  -- a CreateFunction of at most sixteen captures, any other whatever it holds
  pub effect_back : (e : AliasingEffect) → capture_count e ≤ 16 → effect_in t (put_effect t c i e) i ≡ e
  unfolding put_effect effect_with
  effect_back (Freeze p r) l =
      by_head _ (Head.Freeze p r) (head_0 t _ i 0 (sym (word_code 0 12 r p (λ e. omega arith))) p r refl (sym (word_place 0 12 r p (omega arith))) (sym (word_word 0 12 r p (omega arith))))
  effect_back (Mutate p r) l =
      by_head _ (Head.Mutate p r) (head_1 t _ i 1 (sym (word_code 1 13 r p (λ e. omega arith))) p r refl (sym (word_place 1 13 r p (omega arith))) (sym (word_word 1 13 r p (omega arith))))
  effect_back (MutateConditionally p) l = by_head _ (Head.MutateConditionally p) (head_2 t _ i 2 (sym (one_code 2 p)) p refl (sym (one_place_is 2 p)))
  effect_back (MutateTransitive p) l = by_head _ (Head.MutateTransitive p) (head_3 t _ i 3 (sym (one_code 3 p)) p refl (sym (one_place_is 3 p)))
  effect_back (MutateTransitiveConditionally p) l = by_head _ (Head.MutateTransitiveConditionally p) (head_4 t _ i 4 (sym (one_code 4 p)) p refl (sym (one_place_is 4 p)))
  effect_back (Capture f into) l = by_head _ (Head.Capture f into) (head_5 t _ i 5 (sym (two_code 5 f into)) f into refl (sym (two_first 5 f into)) (sym (two_second 5 f into)))
  effect_back (Alias f into) l = by_head _ (Head.Alias f into) (head_6 t _ i 6 (sym (two_code 6 f into)) f into refl (sym (two_first 6 f into)) (sym (two_second 6 f into)))
  effect_back (MaybeAlias f into) l = by_head _ (Head.MaybeAlias f into) (head_7 t _ i 7 (sym (two_code 7 f into)) f into refl (sym (two_first 7 f into)) (sym (two_second 7 f into)))
  effect_back (Assign f into) l = by_head _ (Head.Assign f into) (head_8 t _ i 8 (sym (two_code 8 f into)) f into refl (sym (two_first 8 f into)) (sym (two_second 8 f into)))
  effect_back (Create into k r) l =
      by_head _ (Head.Create into k r)
      (head_9 t _ i 9 (sym (into2_code 9 11 (Kinds.code_of k) 12 r into (omega arith) (omega arith) (omega arith))) into k r refl (sym (into2_place 9 11 (Kinds.code_of k) 12 r into (omega arith) (omega arith) (omega arith)))
      (sym (ap Kinds.kind_at (into2_first 9 11 (Kinds.code_of k) 12 r into (omega arith) (omega arith) (omega arith)) ∙ kind_at_code k))
      (sym (into2_second 9 11 (Kinds.code_of k) 12 r into (omega arith) (omega arith) (omega arith))))
  effect_back (CreateFrom f into) l = by_head _ (Head.CreateFrom f into) (head_10 t _ i 10 (sym (two_code 10 f into)) f into refl (sym (two_first 10 f into)) (sym (two_second 10 f into)))
  effect_back (ImmutableCapture f into) l = by_head _ (Head.ImmutableCapture f into) (head_11 t _ i 11 (sym (two_code 11 f into)) f into refl (sym (two_first 11 f into)) (sym (two_second 11 f into)))
  effect_back (CreateFunction cs f into) l = creation_back cs f into l
  effect_back (MutateFrozen p d) l = by_head _ (Head.MutateFrozen p d) (head_14 t _ i 14 (sym (told_code 14 p d)) p d refl (sym (told_place 14 p d)) (sym (told_numbers 14 p d)))
  effect_back (MutateGlobal p d) l = by_head _ (Head.MutateGlobal p d) (head_15 t _ i 15 (sym (told_code 15 p d)) p d refl (sym (told_place 15 p d)) (sym (told_numbers 15 p d)))
  effect_back (Impure p d) l = by_head _ (Head.Impure p d) (head_16 t _ i 16 (sym (told_code 16 p d)) p d refl (sym (told_place 16 p d)) (sym (told_numbers 16 p d)))
  effect_back (Render p) l =
      by_head _ (Head.Render p)
      (head_rest t _ i 17 (sym (one_code 17 p)) p (λ e. omega arith) (λ e. omega arith) (λ e. omega arith) (λ e. omega arith) (λ e. omega arith) (λ e. omega arith) (λ e. omega arith) (λ e. omega arith) (λ e. omega arith) (λ e. omega arith) (λ e. omega arith) (λ e. omega arith) (λ e. omega arith) (λ e. omega arith) (λ e. omega arith) (λ e. omega arith) (sym (one_place_is 17 p)))
