-- What acceptance says of the candidates: each names identifiers of the list, and has at most 16 captures. Assumes nothing.
use Prim.Native.Nat.{ℕ, zero, suc, ◌+◌, ◌-◌, ◌*◌, ◌%◌, ◌≤◌, ◌<◌}
use native.Mathlib.Omega.{arith}
use Rattle.std.specs.Prelude.{◌≡◌, ◌&&◌, List, [], ◌∷◌, eqb, ltb, length, get_or, Option, None, Some}
use Rattle.std.proofs.Math.Path.{refl, sym, ap}
use Rattle.std.proofs.Common.{◌∙◌, le→leb}
use borrow.Author.Tests.{ltb-true, ltb-false, not-false}
use Rattle.base_tests.specs.Tests.{All}
use Rattle.base_tests.proofs.Laws.Choice.{ite_eq, ite_ne, ite_ge}
use Rattle.def_effects.specs.declared.Place.{Place}
use Rattle.def_effects.specs.Places as Places
use Rattle.def_effects.specs.Effects.{AliasingEffect}
use Rattle.def_effects.specs.Keys.{effect_key, names}
use Rattle.lent_tables.specs.declared.Table.{Table}
use Rattle.lent_tables.specs.Words.{field, place_in, places_in}
use Rattle.lent_effects.specs.declared.AliasingEffect.{AliasingEffect as Head}
use Rattle.lent_effects.specs.Records.{counted_places, effect_with, heads, head_in, effect_in}
use Rattle.lent_layout.specs.Context.{ContextWords}
use Rattle.lent_context.specs.Lent.{effects_in, instance_count}
use Rattle.base_tests.proofs.Laws.Bool.{or_no_first}
use Rattle.refuse_class.proofs.Laws.Class.{lower_0}
use Rattle.refuse_words.specs.Classes.{earns, word_class, used_if, place_limit, run_limit, words_below, record_class}
use Rattle.refuse_words.proofs.Laws.Class.{run_used, earns_none, lowest_0}
use Rattle.refuse_instruction.specs.EffectClasses.{uses, used_parts, count_class, effect_limit, effect_class, place_class, instruction_class}
use Rattle.def_faithful.proofs.Laws.Steps.{Fine}
use Rattle.lent_layout.specs.Layout.{candidate_table}

-- a word with a limit lies below it
word_limit : (o : Option ℕ) (x b : ℕ) → word_class o x ≡ 0 → o ≡ Some b → x < b
unfolding word_class
word_limit None x b e q = let z : ◌≡◌ {A = ℕ} 0 1 = cc in absurd (omega arith)
word_limit (Some c) x b e q = let z : c ≡ b = cc in let l = ltb-true x c (not-false (ltb x c) (earns_none 2 _ e)) in omega arith

limit_lt : (t : Table) (xs : List ℕ) (limit : ℕ → Option ℕ) (i w b : ℕ) → record_class t xs limit i ≡ 0 → w < t.width → limit w ≡ Some b → field t xs i w < b
unfolding record_class words_below
limit_lt t xs limit i w b e l q = word_limit (limit w) (field t xs i w) b (lowest_0 t.width (λ w. word_class (limit w) (field t xs i w)) e w l) q

module _ (n f d code m : ℕ) where
  code_limit : effect_limit n f d code m 0 ≡ Some 18
  unfolding effect_limit
  code_limit = refl

  first_limit : uses code 0 ≡ 1 → effect_limit n f d code m 1 ≡ Some n
  unfolding effect_limit place_limit
  first_limit e = ap (λ (u : ℕ). used_if u (Some n)) e

  second_limit : uses code 1 ≡ 1 → effect_limit n f d code m 6 ≡ Some n
  unfolding effect_limit place_limit
  second_limit e = ap (λ (u : ℕ). used_if u (Some n)) e

  capture_limit : uses code 7 ≡ 1 → (k : ℕ) → k < m → effect_limit n f d code m (18 + k * 5) ≡ Some n
  unfolding effect_limit place_limit
  capture_limit e k l =
      ite_ge (18 + k * 5) 18 _ _ (omega arith) ∙ ap (λ (u : ℕ). used_if u (run_limit n m (18 + k * 5 - 18))) e
      ∙ sym (run_used n m (18 + k * 5 - 18) m (Some n) refl (omega arith) (ap (place_limit n) (let z : 0 ≡ (18 + k * 5 - 18) % 5 = omega arith in z)))

module _ (t : Table) (xs : List ℕ) (i n : ℕ) where
  places_below : (k m : ℕ) → ((j : ℕ) → j < k + m → field t xs i (18 + j * 5) < n) → All (λ x. x < n) (Places.identifiers (places_in t xs i 18 k m))
  unfolding places_in place_in
  places_below k zero h = tt
  places_below k (suc m) h = (h k (omega arith), places_below (suc k) m (λ j l. h j (omega arith)))

  -- the identifiers that an effect names, by its code
  module _ (cs : List Place) where
    named_at : (code : ℕ) → code < 18 → (code ≡ 12 → ⊥) → (uses code 0 ≡ 1 → field t xs i 1 < n) → (uses code 1 ≡ 1 → field t xs i 6 < n) → (uses code 7 ≡ 1 → All (λ x. x < n) (Places.identifiers cs))
        → All (λ x. x < n) (names (effect_with (get_or (heads t xs i) code (Head.Render (place_in t xs i 1))) cs))
    unfolding heads effect_with place_in uses used_parts
    named_at zero l z p q r = (p refl, tt)
    named_at (suc zero) l z p q r = (p refl, tt)
    named_at (suc (suc zero)) l z p q r = (p refl, tt)
    named_at (suc (suc (suc zero))) l z p q r = (p refl, tt)
    named_at (suc (suc (suc (suc zero)))) l z p q r = (p refl, tt)
    named_at (suc (suc (suc (suc (suc zero))))) l z p q r = (p refl, (q refl, tt))
    named_at (suc (suc (suc (suc (suc (suc zero)))))) l z p q r = (p refl, (q refl, tt))
    named_at (suc (suc (suc (suc (suc (suc (suc zero))))))) l z p q r = (p refl, (q refl, tt))
    named_at (suc (suc (suc (suc (suc (suc (suc (suc zero)))))))) l z p q r = (p refl, (q refl, tt))
    named_at (suc (suc (suc (suc (suc (suc (suc (suc (suc zero))))))))) l z p q r = (q refl, tt)
    named_at (suc (suc (suc (suc (suc (suc (suc (suc (suc (suc zero)))))))))) l z p q r = (p refl, (q refl, tt))
    named_at (suc (suc (suc (suc (suc (suc (suc (suc (suc (suc (suc zero))))))))))) l z p q r = (p refl, (q refl, tt))
    named_at (suc (suc (suc (suc (suc (suc (suc (suc (suc (suc (suc (suc zero)))))))))))) l z p q r = absurd (z refl)
    named_at (suc (suc (suc (suc (suc (suc (suc (suc (suc (suc (suc (suc (suc zero))))))))))))) l z p q r = (q refl, r refl)
    named_at (suc (suc (suc (suc (suc (suc (suc (suc (suc (suc (suc (suc (suc (suc zero)))))))))))))) l z p q r = (p refl, tt)
    named_at (suc (suc (suc (suc (suc (suc (suc (suc (suc (suc (suc (suc (suc (suc (suc zero))))))))))))))) l z p q r = (p refl, tt)
    named_at (suc (suc (suc (suc (suc (suc (suc (suc (suc (suc (suc (suc (suc (suc (suc (suc zero)))))))))))))))) l z p q r = (p refl, tt)
    named_at (suc (suc (suc (suc (suc (suc (suc (suc (suc (suc (suc (suc (suc (suc (suc (suc (suc zero))))))))))))))))) l z p q r = (p refl, tt)
    named_at (suc (suc (suc (suc (suc (suc (suc (suc (suc (suc (suc (suc (suc (suc (suc (suc (suc (suc k)))))))))))))))))) l z p q r = absurd (omega arith)

few : (code m : ℕ) → count_class code m ≡ 0 → uses code 7 ≡ 1 → m ≤ 16
unfolding count_class
few code m e u = ltb-false 16 m (earns_none 1 (ltb 16 m) (sym (ap (λ (x : ℕ). earns 2 (eqb x 1 && ltb 16 m)) u) ∙ e))

-- a candidate that earns no class names identifiers of the list
record_named : (n f : ℕ) (c : ContextWords) (xs : List ℕ) (i : ℕ) → effect_class n f c 5 candidate_table xs i ≡ 0 → All (λ x. x < n) (names (effect_in candidate_table xs i))
unfolding effect_class effect_in head_in counted_places
record_named n f c xs i e =
    let z : field candidate_table xs i 0 ≡ 12 → ⊥ = λ q. let y : ◌≡◌ {A = ℕ} 5 0 = sym (ite_eq (field candidate_table xs i 0) 12 5 _ q) ∙ e in omega arith in
    let code : ℕ = field candidate_table xs i 0 in
    let m : ℕ = field candidate_table xs i 17 in
    let g : count_class code m ≡ 0 = (lower_0 _ _ (sym (ite_ne (field candidate_table xs i 0) 12 5 _ z) ∙ e)).0 in
    let k : record_class candidate_table xs (effect_limit n f (instance_count c) code m) i ≡ 0 = (lower_0 _ _ (lower_0 _ _ (sym (ite_ne (field candidate_table xs i 0) 12 5 _ z) ∙ e)).1).0 in
    named_at candidate_table xs i n (places_in candidate_table xs i 18 0 m) code
    (limit_lt candidate_table xs _ i 0 18 k (omega arith) (code_limit n f (instance_count c) code m)) z
    (λ u. limit_lt candidate_table xs _ i 1 n k (omega arith) (first_limit n f (instance_count c) code m u))
    (λ u. limit_lt candidate_table xs _ i 6 n k (omega arith) (second_limit n f (instance_count c) code m u))
    (λ u. places_below candidate_table xs i n 0 m (λ j l. limit_lt candidate_table xs _ i (18 + j * 5) n k (let y : m ≤ 16 = few code m g u in omega arith) (capture_limit n f (instance_count c) code m u j (omega arith))))

-- ---- all candidates, and the lvalue

effects_all : (P : AliasingEffect → Type 0) (t : Table) (c : List ℕ) (k n : ℕ) → ((j : ℕ) → j < k + n → P (effect_in t c j)) → All P (effects_in t c k n)
unfolding effects_in
effects_all P t c k zero h = tt
effects_all P t c k (suc n) h = (h k (omega arith), effects_all P t c (suc k) n (λ j l. h j (omega arith)))

all_fine : (n : ℕ) (l : List AliasingEffect) → All (λ e. All (λ x. x < n) (names e)) l → All (λ e. length (effect_key e).captures ≤ 16) l → All (λ e. Fine n (effect_key e)) l
all_fine n [] a b = tt
all_fine n (e ∷ l) a b = (record { named = a.0; short = le→leb (length (effect_key e).captures) 16 b.0 }, all_fine n l a.1 b.1)

module _ (n functions : ℕ) (c : ContextWords) (xs : List ℕ) (count : ℕ) (p : Place) (own : ℕ) (e : instruction_class n functions c xs count p own ≡ 0) where
  pub candidates_fine : All (λ e. length (effect_key e).captures ≤ 16) (effects_in candidate_table xs 0 count) → All (λ e. Fine n (effect_key e)) (effects_in candidate_table xs 0 count)
  unfolding instruction_class
  candidates_fine h =
      all_fine n (effects_in candidate_table xs 0 count)
      (effects_all (λ x. All (λ y. y < n) (names x)) candidate_table xs 0 count (λ j l. record_named n functions c xs j (lowest_0 count (effect_class n functions c 5 candidate_table xs) (lower_0 _ _ (lower_0 _ _ e).1).0 j (omega arith)))) h

  pub lvalue_named : p.identifier < n
  unfolding instruction_class place_class
  lvalue_named = ltb-true p.identifier n (not-false (ltb p.identifier n) (or_no_first _ _ (earns_none 2 _ (lower_0 _ _ (lower_0 _ _ (lower_0 _ _ e).1).1).0)))
