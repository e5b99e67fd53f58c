-- The instruction of an accepted image earns no class: each candidate is written as a right record, and lvalue and own function are in range. Assumes nothing.
use Prim.Native.Nat.{ℕ, zero, suc, ◌+◌, ◌-◌, ◌*◌, ◌≤◌, ◌<◌}
use Rattle.std.proofs.Common.{arith, sym, ◌∙◌, lt-ltb, le-ltb, le-leb}
use Rattle.std.specs.Prelude.{◌≡◌, true, eqb, ltb, leb, length, get_or, Option, Some}
use Rattle.std.proofs.Math.Path.{refl, ap, subst}
use Rattle.std.proofs.Math.Bool.{not}
use mathlib.Core.List.{List, [], ◌∷◌}
use Rattle.std.proofs.Math.Seq.{get_or-take}
use Rattle.base_tests.specs.Tests.{ite}
use Rattle.base_tests.proofs.Laws.Choice.{ite_ge, ite_ne}
use Rattle.def_kinds.specs.Kinds as Kinds
use Rattle.def_kinds.proofs.Laws.Kinds.{code_lt}
use Rattle.lent_copies.specs.Copies.{zeros}
use Rattle.lent_copies.proofs.Laws.Copy.{zeros_length}
use Rattle.def_effects.specs.declared.Place.{Place}
use Rattle.def_effects.specs.Effects.{Create, CreateFunction, Render}
use Rattle.lent_tables.specs.declared.Table.{Table}
use Rattle.lent_tables.specs.Words.{index, field, put_field, put_place, put_places}
use Rattle.lent_tables.proofs.Laws.Word.{put_length, place_length, field_cong, within_word}
use Rattle.lent_effects.specs.Records.{put_effect}
use Rattle.lent_effects.proofs.Laws.EffectFrames.{effect_length, effect_record}
use Rattle.def_transfer.specs.Instruction.{has}
use Rattle.lent_layout.specs.Context.{ContextWords}
use Rattle.lent_context.specs.Lent.{instance_count}
use Rattle.base_tests.proofs.Laws.Bool.{or_first, or_neither}
use Rattle.refuse_class.specs.Class.{lower}
use Rattle.refuse_words.specs.Classes.{lowest_below, word_class, any, used_if, place_limit, run_limit, words_below, record_class}
use Rattle.refuse_instruction.specs.EffectClasses.{used_parts, middle_limit, effect_limit, count_class, numbers_class, effect_class, place_class, instruction_class}
use Rattle.refuse_instruction.specs.EffectClasses as Classes
use Rattle.def_image.specs.Layout.{Image, word, identifiers, functions, candidates, count_of, cell, lvalue, own, code, first_place, second_place, detail, reason, function, captures_first, captures_count}
use Rattle.def_image.specs.Refusals.{used_words, details_of, uses, limit_of, refusal_of_words}
use Rattle.def_image.specs.Decode.{place_at, places_from, makers, effect_at}
use Rattle.image_decode.specs.Decoded.{decoded_candidate, decoded_candidates}
use Rattle.image_decode.proofs.Laws.Candidate.{run_length}
use Rattle.lent_copies.proofs.Laws.Copy.{zero_word}
use Rattle.lent_tables.proofs.Laws.Back.{word_back, word_beside, place_beside, run_beside}
use Rattle.laws_image_accepted.proofs.Laws.Facts.{few_candidates, few_captures, lvalue_place, own_most, code_range, word_range, capture_places, no_apply, some_identifier}
use Rattle.laws_image_accepted.proofs.Laws.Records.{lower_both, lowest_both, earns_not, Good, Zero, zero_record, record_good, Limits, Fine, zero_good, put_below, place_good, run_good, run_limits, each_done}
use Rattle.laws_image_accepted.proofs.Laws.Limits.{Pos, pos_some, pos_used, pos_ite, pos_at, pos_place, pos_run}
use Rattle.laws_image_accepted.proofs.Laws.Places.{place_fine, run_fine}
use Rattle.laws_image_accepted.proofs.Laws.Lengths.{lent_candidates}
use Rattle.lent_layout.specs.Layout.{candidate_table}

-- ---- limits of an effect

-- of a word of an effect, where its function and its diagnostic are
-- what else it uses has a limit that is not 0
pos_effect : (n f d c m v : ℕ) → 0 < n → Pos (used_if (Classes.uses c 5) (Some f)) → Pos (used_if (Classes.uses c 6) (Some d)) → Pos (effect_limit n f d c m v)
unfolding effect_limit middle_limit
pos_effect n f d c m v h p q =
    pos_ite (ltb v 18) _ (used_if (Classes.uses c 7) (run_limit n m (v - 18)))
    (pos_ite (eqb v 0) (Some 18) _ (pos_some 18 (omega arith))
    (pos_ite (ltb v 6) (used_if (Classes.uses c 0) (place_limit n (v - 1))) _ (pos_used (Classes.uses c 0) (place_limit n (v - 1)) (pos_place n (v - 1) h))
    (pos_ite (ltb v 11) (used_if (Classes.uses c 1) (place_limit n (v - 6))) _ (pos_used (Classes.uses c 1) (place_limit n (v - 6)) (pos_place n (v - 6) h))
    (pos_at
    (used_if (Classes.uses c 2) (Some 6) ∷ used_if (Classes.uses c 3) (Some 12) ∷ used_if (Classes.uses c 4) (Some 2) ∷ used_if (Classes.uses c 5) (Some f)
    ∷ used_if (Classes.uses c 6) (Some 256) ∷ used_if (Classes.uses c 6) (Some d) ∷ used_if (Classes.uses c 7) any ∷ [])
    (v - 11) (
      pos_used (Classes.uses c 2) (Some 6) (pos_some 6 (omega arith)),
      (
        pos_used (Classes.uses c 3) (Some 12) (pos_some 12 (omega arith)),
        (
          pos_used (Classes.uses c 4) (Some 2) (pos_some 2 (omega arith)),
          (
            p,
            (
              pos_used (Classes.uses c 6) (Some 256) (pos_some 256 (omega arith)),
              (
                q,
                (pos_used (Classes.uses c 7) any (pos_some 4294967296 (omega arith)), tt),
              ),
            ),
          ),
        ),
      ),
    )))))
    (pos_used (Classes.uses c 7) (run_limit n m (v - 18)) (pos_run n m (v - 18) h))

-- ---- the class of a record, by its words

module _ (n f : ℕ) (c : ContextWords) where
  -- records with the same words earn the same class
  class_same : (xs ys : List ℕ) (i : ℕ) → ((v : ℕ) → field candidate_table xs i v ≡ field candidate_table ys i v) → effect_class n f c 5 candidate_table xs i ≡ effect_class n f c 5 candidate_table ys i
  unfolding effect_class record_class words_below
  class_same xs ys i h = λ j.
      ite (eqb (h 0 j) 12) 5
      (lower (count_class (h 0 j) (h 17 j))
      (lower (lowest_below 98 (λ w. word_class (effect_limit n f (instance_count c) (h 0 j) (h 17 j) w) (h w j))) (numbers_class c (h 0 j) (h 15 j) (h 16 j))))

  -- a record earns nothing where none of its parts does
  class_none : (xs : List ℕ) (i a : ℕ) → field candidate_table xs i 0 ≡ a → (a ≡ 12 → ⊥) → count_class a (field candidate_table xs i 17) ≡ 0
      → Good candidate_table i (effect_limit n f (instance_count c) a (field candidate_table xs i 17)) xs → numbers_class c a (field candidate_table xs i 15) (field candidate_table xs i 16) ≡ 0
      → effect_class n f c 5 candidate_table xs i ≡ 0
  unfolding effect_class
  class_none xs i a e q p g r =
      ite_ne (field candidate_table xs i 0) 12 5 _ (λ z. q (sym e ∙ z))
      ∙ ap (λ (x : ℕ). lower (count_class x (field candidate_table xs i 17)) (lower (record_class candidate_table xs (effect_limit n f (instance_count c) x (field candidate_table xs i 17)) i) (numbers_class c x (field candidate_table xs i 15) (field candidate_table xs i 16)))) e
      ∙ lower_both _ _ p (lower_both _ _ (record_good candidate_table i (effect_limit n f (instance_count c) a (field candidate_table xs i 17)) xs g) r)

-- a candidate put keeps the length of the list
candidate_length : (im : Image) (k : ℕ) (xs : List ℕ) → length (decoded_candidate im k xs) ≡ length xs
unfolding decoded_candidate
candidate_length im k xs = effect_length candidate_table xs k (effect_at im k)

-- ---- candidates of an accepted image

module _ (im : Image) (small : (i : ℕ) → word im i < 4294967296) (ok : refusal_of_words im ≡ 0) where
  -- ---- one candidate

  -- candidate k, put into a list that holds its record, which is zero
  module _ (c : ContextWords) (k : ℕ) (here : k < count_of im candidates) (d : List ℕ) (long : length d ≡ 6272) (blank : Zero candidate_table k d) where
    -- how many identifiers there are
    abbrev n : ℕ
    n = count_of im identifiers

    -- how many functions there are
    abbrev f : ℕ
    f = count_of im functions

    -- the table of the candidates
    -- "candidates (64)"
    abbrev t : Table
    t = candidate_table

    -- the limits of a record by its code and count of captures
    abbrev lim : ℕ → ℕ → ℕ → Option ℕ
    lim a m v = effect_limit n f (instance_count c) a m v

    -- the record is one of 64
    -- "candidates (64)"
    row : k < 64
    row = let z = few_candidates im ok in omega arith

    -- a record that has its code, and whose words earn nothing so far
    abbrev Made : ℕ → ℕ → List ℕ → Type 0
    Made a m e = (field t e k 0 ≡ a) × Good t k (lim a m) e

    -- the code is written first
    made_code : (a m : ℕ) → a < 18 → lim a m 0 ≡ Some 18 → Pos (used_if (Classes.uses a 5) (Some f)) → Pos (used_if (Classes.uses a 6) (Some (instance_count c))) → Made a m (put_field t d k 0 a)
    made_code a m l e p q = (
      word_back t k d 0 a row (omega arith) (let z : 0 + k * 98 + 98 ≤ length d = (let y = row in omega arith) in z),
      put_below t k (lim a m) d 0 a 18 e l (zero_good t k (lim a m) d (λ v. pos_effect n f (instance_count c) a m v (some_identifier im ok) p q) blank),
    )

    -- then a word
    made_word : (a m : ℕ) (e : List ℕ) (w x l : ℕ) → 1 ≤ w → lim a m w ≡ Some l → x < l → Made a m e → Made a m (put_field t e k w x)
    made_word a m e w x l h q b g = (word_beside t k e w x 0 (λ z. omega arith) ∙ g.0, put_below t k (lim a m) e w x l q b g.1)

    -- or a place
    made_place : (a m : ℕ) (e : List ℕ) (w : ℕ) (p : Place) → 1 ≤ w → Limits (lim a m) w n → Fine n p → Made a m e → Made a m (put_place t e k w p)
    made_place a m e w p h q b g = (place_beside t k e w p 0 (λ y z. omega arith) ∙ g.0, place_good t k (lim a m) e w n p q b g.1)

    -- a word that the candidate uses is below its limit
    used : (a j : ℕ) → code im k ≡ a → j < 6 → has j (get_or used_words a []) ≡ true → cell im candidates k j < limit_of im a j
    unfolding uses
    used a j e l h =
        subst (λ (x : ℕ). cell im candidates k j < limit_of im x j) e
        (word_range im ok k here j l (or_first (has j (get_or used_words (code im k) [])) _ (ap (λ (x : ℕ). has j (get_or used_words x [])) e ∙ h)))

    -- its first place
    -- "a destination is the second, any other the first"
    first_fine : (a : ℕ) → code im k ≡ a → has 1 (get_or used_words a []) ≡ true → Fine n (place_at im (first_place im k))
    unfolding limit_of
    first_fine a e h = place_fine im small ok (first_place im k) (used a 1 e (omega arith) h)

    -- and its second
    second_fine : (a : ℕ) → code im k ≡ a → has 2 (get_or used_words a []) ≡ true → Fine n (place_at im (second_place im k))
    unfolding limit_of
    second_fine a e h = place_fine im small ok (second_place im k) (used a 2 e (omega arith) h)

    -- a candidate of one place
    one : (a : ℕ) → code im k ≡ a → a < 18 → has 1 (get_or used_words a []) ≡ true → Limits (lim a 0) 1 n → lim a 0 0 ≡ Some 18 → Pos (used_if (Classes.uses a 5) (Some f)) → Pos (used_if (Classes.uses a 6) (Some (instance_count c)))
        → Made a 0 (put_place t (put_field t d k 0 a) k 1 (place_at im (first_place im k)))
    one a e l h q z p r = made_place a 0 (put_field t d k 0 a) 1 (place_at im (first_place im k)) (omega arith) q (first_fine a e h) (made_code a 0 l z p r)

    -- a candidate of two places
    two : (a : ℕ) → code im k ≡ a → a < 18 → has 1 (get_or used_words a []) ≡ true → has 2 (get_or used_words a []) ≡ true → Limits (lim a 0) 1 n → Limits (lim a 0) 6 n → lim a 0 0 ≡ Some 18 → Pos (used_if (Classes.uses a 5) (Some f))
        → Pos (used_if (Classes.uses a 6) (Some (instance_count c)))
        → Made a 0 (put_place t (put_place t (put_field t d k 0 a) k 1 (place_at im (first_place im k))) k 6 (place_at im (second_place im k)))
    two a e l h i q u z p r =
        made_place a 0 (put_place t (put_field t d k 0 a) k 1 (place_at im (first_place im k))) 6 (place_at im (second_place im k)) (omega arith) u (second_fine a e i) (one a e l h q z p r)

    -- the class of what was made
    made_none : (a : ℕ) (e : List ℕ) → (a ≡ 12 → ⊥) → ((x : ℕ) → count_class a x ≡ 0) → ((x v : ℕ) → lim a x v ≡ lim a 0 v) → ((x y : ℕ) → numbers_class c a x y ≡ 0) → Made a 0 e → effect_class n f c 5 t e k ≡ 0
    made_none a e q p s r g =
        class_none n f c e k a g.0 q (p (field t e k 17)) (λ v. ap (λ (o : Option ℕ). word_class o (field t e k v)) (s (field t e k 17) v) ∙ g.1 v) (r (field t e k 15) (field t e k 16))

    -- a Create: destination, kind, reason
    create : code im k ≡ 9 → effect_class n f c 5 t (put_effect t d k (Create (place_at im (second_place im k)) (Kinds.kind_at (detail im k)) (reason im k))) k ≡ 0
    unfolding put_effect effect_limit middle_limit place_limit count_class numbers_class Classes.uses used_parts used_words has word_class limit_of
    create e =
        made_none 9 _ (λ z. omega arith) (λ x. refl) (λ x v. refl) (λ x y. refl)
        (made_word 9 0 _ 12 (reason im k) 12 (omega arith) refl (used 9 4 e (omega arith) refl)
        (made_word 9 0 _ 11 (Kinds.code_of (Kinds.kind_at (detail im k))) 6 (omega arith) refl (code_lt (Kinds.kind_at (detail im k)))
        (made_place 9 0 (put_field t d k 0 9) 6 (place_at im (second_place im k)) (omega arith) (refl, refl, refl, refl, refl) (second_fine 9 e refl) (made_code 9 0 (omega arith) refl refl refl))))

    -- a CreateFunction: destination, function, count and captures
    -- "first and count of captures (16)"
    creation : code im k ≡ 13 → effect_class n f c 5 t (put_effect t d k (CreateFunction (places_from im (captures_first im k) (captures_count im k)) (function im k) (place_at im (second_place im k)))) k ≡ 0
    unfolding put_effect effect_limit middle_limit place_limit count_class numbers_class Classes.uses used_parts used_words has word_class limit_of places_from
    creation e =
        class_none n f c b5 k 13 (run_beside t k b4 18 0 cs 0 (omega arith) ∙ g4.0) (λ z. omega arith)
        (earns_not 2 (ltb 16 (field t b5 k 17)) (le-ltb 16 (field t b5 k 17) (let z = count in let y = many in let x = few_captures im ok k here e in omega arith)))
        (λ v. ap (λ (x : ℕ). word_class (lim 13 x v) (field t b5 k v)) count ∙ g5 v)
        refl
      where
        cs : List Place
        cs = places_from im (captures_first im k) (captures_count im k)

        many : length cs ≡ captures_count im k
        many = run_length (captures_count im k) (captures_first im k) (place_at im)

        b3 : List ℕ
        b3 = put_field t (put_place t (put_field t d k 0 13) k 6 (place_at im (second_place im k))) k 14 (function im k)

        b4 : List ℕ
        b4 = put_field t b3 k 17 (length cs)

        b5 : List ℕ
        b5 = put_places t b4 k 18 0 cs

        known : function im k < f
        known = used 13 5 e (omega arith) refl

        g4 : Made 13 (length cs) b4
        g4 =
            made_word 13 (length cs) b3 17 (length cs) 4294967296 (omega arith) refl (let y = many in let x = few_captures im ok k here e in omega arith)
            (made_word 13 (length cs) _ 14 (function im k) f (omega arith) refl known
            (made_place 13 (length cs) (put_field t d k 0 13) 6 (place_at im (second_place im k)) (omega arith) (refl, refl, refl, refl, refl) (second_fine 13 e refl)
            (made_code 13 (length cs) (omega arith) refl (pos_some f (let z = known in omega arith)) refl)))

        g5 : Good t k (lim 13 (length cs)) b5
        g5 =
            run_good t k (lim 13 (length cs)) b4 18 0 n cs
            (λ m h. run_limits (lim 13 (length cs)) 18 n (length cs) (λ v l. ite_ge v 18 _ (run_limit n (length cs) (v - 18)) l) m (let z : m < 0 + length cs = h in omega arith))
            (run_fine im small ok (captures_first im k) (captures_count im k) (capture_places im ok k here e))
            g4.1

        long3 : length b3 ≡ length d
        long3 = put_length t _ k 14 (function im k) ∙ place_length t (put_field t d k 0 13) k 6 (place_at im (second_place im k)) ∙ put_length t d k 0 13

        count : field t b5 k 17 ≡ length cs
        count =
            run_beside t k b4 18 0 cs 17 (omega arith)
            ∙ word_back t k b3 17 (length cs) row (omega arith) (let y = long3 in let x = row in let z : 0 + k * 98 + 98 ≤ length b3 = omega arith in z)

    -- the candidate of each code
    -- "code (order of `AliasingEffect`, Freeze 0, Apply 12, Render 17)"
    by_code : (a : ℕ) → code im k ≡ a → effect_class n f c 5 t (put_effect t d k (get_or (makers im) a (λ j. Render (place_at im (first_place im j))) k)) k ≡ 0
    unfolding makers put_effect effect_limit middle_limit place_limit count_class numbers_class Classes.uses used_parts used_words has word_class limit_of details_of
    by_code zero e = made_none 0 _ (λ z. omega arith) (λ x. refl) (λ x v. refl) (λ x y. refl) (made_word 0 0 _ 12 (reason im k) 12 (omega arith) refl (used 0 4 e (omega arith) refl) (one 0 e (omega arith) refl (refl, refl, refl, refl, refl) refl refl refl))
    by_code (suc zero) e = made_none 1 _ (λ z. omega arith) (λ x. refl) (λ x v. refl) (λ x y. refl) (made_word 1 0 _ 13 (detail im k) 2 (omega arith) refl (used 1 3 e (omega arith) refl) (one 1 e (omega arith) refl (refl, refl, refl, refl, refl) refl refl refl))
    by_code (suc (suc zero)) e = made_none 2 _ (λ z. omega arith) (λ x. refl) (λ x v. refl) (λ x y. refl) (one 2 e (omega arith) refl (refl, refl, refl, refl, refl) refl refl refl)
    by_code (suc (suc (suc zero))) e = made_none 3 _ (λ z. omega arith) (λ x. refl) (λ x v. refl) (λ x y. refl) (one 3 e (omega arith) refl (refl, refl, refl, refl, refl) refl refl refl)
    by_code (suc (suc (suc (suc zero)))) e = made_none 4 _ (λ z. omega arith) (λ x. refl) (λ x v. refl) (λ x y. refl) (one 4 e (omega arith) refl (refl, refl, refl, refl, refl) refl refl refl)
    by_code (suc (suc (suc (suc (suc zero))))) e = made_none 5 _ (λ z. omega arith) (λ x. refl) (λ x v. refl) (λ x y. refl) (two 5 e (omega arith) refl refl (refl, refl, refl, refl, refl) (refl, refl, refl, refl, refl) refl refl refl)
    by_code (suc (suc (suc (suc (suc (suc zero)))))) e = made_none 6 _ (λ z. omega arith) (λ x. refl) (λ x v. refl) (λ x y. refl) (two 6 e (omega arith) refl refl (refl, refl, refl, refl, refl) (refl, refl, refl, refl, refl) refl refl refl)
    by_code (suc (suc (suc (suc (suc (suc (suc zero))))))) e = made_none 7 _ (λ z. omega arith) (λ x. refl) (λ x v. refl) (λ x y. refl) (two 7 e (omega arith) refl refl (refl, refl, refl, refl, refl) (refl, refl, refl, refl, refl) refl refl refl)
    by_code (suc (suc (suc (suc (suc (suc (suc (suc zero)))))))) e = made_none 8 _ (λ z. omega arith) (λ x. refl) (λ x v. refl) (λ x y. refl) (two 8 e (omega arith) refl refl (refl, refl, refl, refl, refl) (refl, refl, refl, refl, refl) refl refl refl)
    by_code (suc (suc (suc (suc (suc (suc (suc (suc (suc zero))))))))) e = create e
    by_code (suc (suc (suc (suc (suc (suc (suc (suc (suc (suc zero)))))))))) e = made_none 10 _ (λ z. omega arith) (λ x. refl) (λ x v. refl) (λ x y. refl) (two 10 e (omega arith) refl refl (refl, refl, refl, refl, refl) (refl, refl, refl, refl, refl) refl refl refl)
    by_code (suc (suc (suc (suc (suc (suc (suc (suc (suc (suc (suc zero))))))))))) e = made_none 11 _ (λ z. omega arith) (λ x. refl) (λ x v. refl) (λ x y. refl) (two 11 e (omega arith) refl refl (refl, refl, refl, refl, refl) (refl, refl, refl, refl, refl) refl refl refl)
    by_code (suc (suc (suc (suc (suc (suc (suc (suc (suc (suc (suc (suc zero)))))))))))) e = absurd (no_apply im ok k here e)
    by_code (suc (suc (suc (suc (suc (suc (suc (suc (suc (suc (suc (suc (suc zero))))))))))))) e = creation e
    by_code (suc (suc (suc (suc (suc (suc (suc (suc (suc (suc (suc (suc (suc (suc zero)))))))))))))) e = absurd (let z = used 14 3 e (omega arith) refl in omega arith)
    by_code (suc (suc (suc (suc (suc (suc (suc (suc (suc (suc (suc (suc (suc (suc (suc zero))))))))))))))) e = absurd (let z = used 15 3 e (omega arith) refl in omega arith)
    by_code (suc (suc (suc (suc (suc (suc (suc (suc (suc (suc (suc (suc (suc (suc (suc (suc zero)))))))))))))))) e = absurd (let z = used 16 3 e (omega arith) refl in omega arith)
    by_code (suc (suc (suc (suc (suc (suc (suc (suc (suc (suc (suc (suc (suc (suc (suc (suc (suc zero))))))))))))))))) e = made_none 17 _ (λ z. omega arith) (λ x. refl) (λ x v. refl) (λ x y. refl) (one 17 e (omega arith) refl (refl, refl, refl, refl, refl) refl refl refl)
    by_code (suc (suc (suc (suc (suc (suc (suc (suc (suc (suc (suc (suc (suc (suc (suc (suc (suc (suc a)))))))))))))))))) e = absurd (let z = code_range im ok k here in omega arith)

    -- so of its own
    pub candidate_right : effect_class n f c 5 t (decoded_candidate im k d) k ≡ 0
    unfolding decoded_candidate effect_at
    candidate_right = by_code (code im k) refl

  -- ---- the instruction

  -- a candidate leaves the records of the others
  others : (k j : ℕ) (d : List ℕ) → (k ≡ j → ⊥) → (v : ℕ) → field candidate_table (decoded_candidate im k d) j v ≡ field candidate_table d j v
  unfolding decoded_candidate
  others k j d e v = effect_record candidate_table d k (effect_at im k) j v e

  -- each candidate's record earns nothing, once all are written
  written_right : (c : ContextWords) (j : ℕ) → j < count_of im candidates → effect_class (count_of im identifiers) (count_of im functions) c 5 candidate_table (decoded_candidates im (count_of im candidates) (zeros 6272)) j ≡ 0
  unfolding decoded_candidates
  written_right c =
      each_done (decoded_candidate im) (λ j d. Zero candidate_table j d) (λ k j d e z v. others k j d e v ∙ z v) (zeros 6272) (λ j. zero_record candidate_table j (zeros 6272) (zero_word 6272))
      (λ j d. effect_class (count_of im identifiers) (count_of im functions) c 5 candidate_table d j ≡ 0)
      (λ k j d e p. class_same (count_of im identifiers) (count_of im functions) c (decoded_candidate im k d) d j (others k j d e) ∙ p)
      (candidate_length im) (count_of im candidates)
      (λ k d l e z. candidate_right c k l d (e ∙ zeros_length 6272) z)

  -- so it does in the records that the call is lent
  -- those of the candidates are cut off, with all their words
  lent_right : (c : ContextWords) (j : ℕ) → j < count_of im candidates → effect_class (count_of im identifiers) (count_of im functions) c 5 candidate_table (lent_candidates im) j ≡ 0
  unfolding index
  lent_right c j l =
      class_same (count_of im identifiers) (count_of im functions) c (lent_candidates im) (decoded_candidates im (count_of im candidates) (zeros 6272)) j
      (λ v. field_cong candidate_table (decoded_candidates im (count_of im candidates) (zeros 6272)) (lent_candidates im) j v
      (λ e. get_or-take (98 * count_of im candidates) (decoded_candidates im (count_of im candidates) (zeros 6272)) (0 + j * 98 + v) 0 (let w : v < 98 = within_word candidate_table j v e in omega arith)))
      ∙ written_right c j l

  -- a place in its ranges earns nothing
  place_right : (n : ℕ) (p : Place) → Fine n p → place_class n p ≡ 0
  unfolding place_class
  place_right n p g =
      earns_not 3 _
      (or_neither (not (ltb p.identifier n)) _ (ap not (lt-ltb p.identifier n g.0))
      (or_neither (not (ltb p.effect 8)) _ (ap not (lt-ltb p.effect 8 g.1)) (ap not (lt-ltb p.reactive 2 g.2))))

  -- the instruction of an accepted image earns no class, whatever the context
  -- "An instruction is its candidates with their places and captures, its lvalue, and its own function if it has one."
  pub instruction_right : (c : ContextWords) → instruction_class (count_of im identifiers) (count_of im functions) c (lent_candidates im) (count_of im candidates) (place_at im (lvalue im)) (own im) ≡ 0
  unfolding instruction_class
  instruction_right c =
      lower_both _ _ (earns_not 2 (ltb 64 (count_of im candidates)) (le-ltb 64 (count_of im candidates) (few_candidates im ok)))
      (lower_both _ _ (lowest_both (count_of im candidates) (effect_class (count_of im identifiers) (count_of im functions) c 5 candidate_table (lent_candidates im)) (lent_right c))
      (lower_both _ _ (place_right (count_of im identifiers) (place_at im (lvalue im)) (place_fine im small ok (lvalue im) (lvalue_place im ok)))
      (earns_not 3 (not (leb (own im) (count_of im functions))) (ap not (le-leb (own im) (count_of im functions) (own_most im ok))))))
