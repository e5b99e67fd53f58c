-- Laws by which the code of the room meets the definition: a law for each way through a function. Assumes nothing.
use Rattle.std.specs.Prelude.{ℕ, suc, ◌+◌, ◌*◌, ◌-◌, ◌≤◌, ◌<◌, ◌≡◌, refl, Bool, true, false, ◌||◌, eqb, ltb, min, not, length}
use native.Mathlib.Omega.{arith}
use Rattle.std.proofs.Math.Path.{sym, ap, ap₂}
use Rattle.std.proofs.Common.{◌∙◌, ⊎_elim}
use mathlib.Core.List.{List}
use Rattle.base_tests.specs.Tests.{ite}
use Rattle.base_tests.proofs.Laws.Choice.{ite_lt, ite_ge}
use Rattle.base_tests.proofs.Laws.Order.{lt_or_ge}
use Rattle.def_effects.specs.declared.Place.{Place}
use Rattle.def_effects.specs.Places.{identifiers}
use Rattle.def_effects.specs.Effects.{AliasingEffect, code_of}
use Rattle.def_effects.specs.Keys.{effect_key}
use Rattle.lent_tables.specs.Words.{field}
use Rattle.lent_effects.specs.declared.AliasingEffect.{AliasingEffect as Head}
use Rattle.lent_effects.specs.Records.{counted_places, effect_with, head_in, effect_in}
use Rattle.lent_layout.specs.Layout as Layout
use Rattle.lent_layout.specs.Context.{ContextWords}
use Rattle.lent_context.specs.Lent.{effects_in, interned_count}
use Rattle.lent_context.proofs.Laws.Search.{effects_more, effects_none}
use Rattle.lent_keys.proofs.Laws.Number.{places_numbers, numbers_count}
use Rattle.laws_room.specs.Room.{derives, need, needs}
use Rattle.call_outcome.specs.Attempts.{at_most}
use Rattle.call_outcome.proofs.Laws.Class as Class
use Rattle.call_outcome.specs.Calls.{candidate_count, room_for, table_wrong, context_wrong}

-- ---- what an effect of a code derives

-- no more than two
pub derives_few : (code : ℕ) → derives code ≤ 2
derives_few code = choice (eqb code 0) (omega arith) (choice (ltb code 5) (omega arith) (choice (ltb code 7) (omega arith) (choice (ltb code 9) (omega arith) (choice (eqb code 10) (omega arith) (omega arith)))))
  where
    choice : (b : Bool) {x y : ℕ} → x ≤ 2 → y ≤ 2 → ite b x y ≤ 2
    choice true p q = p
    choice false p q = q

-- ---- the captures of a candidate

places_length : (xs : List ℕ) (i : ℕ) → length (identifiers (counted_places Layout.candidate_table xs i 17)) ≡ field Layout.candidate_table xs i 17
unfolding counted_places
places_length xs i = ap length (places_numbers Layout.candidate_table xs i 18 0 (field Layout.candidate_table xs i 17)) ∙ numbers_count Layout.candidate_table xs i 18 5 0 (field Layout.candidate_table xs i 17)

-- a key has the code of its effect
code_of_key : (h : Head) (cs : List Place) → (effect_key (effect_with h cs)).code ≡ code_of (effect_with h cs)
unfolding effect_with
code_of_key (Head.Freeze p r) cs = refl
code_of_key (Head.Mutate p r) cs = refl
code_of_key (Head.MutateConditionally p) cs = refl
code_of_key (Head.MutateTransitive p) cs = refl
code_of_key (Head.MutateTransitiveConditionally p) cs = refl
code_of_key (Head.Capture f i) cs = refl
code_of_key (Head.Alias f i) cs = refl
code_of_key (Head.MaybeAlias f i) cs = refl
code_of_key (Head.Assign f i) cs = refl
code_of_key (Head.Create i k r) cs = refl
code_of_key (Head.CreateFrom f i) cs = refl
code_of_key (Head.ImmutableCapture f i) cs = refl
code_of_key (Head.CreateFunction f i) cs = refl
code_of_key (Head.MutateFrozen p d) cs = refl
code_of_key (Head.MutateGlobal p d) cs = refl
code_of_key (Head.Impure p d) cs = refl
code_of_key (Head.Render p) cs = refl

-- and captures only where it is that of a CreateFunction
captures_of_key : (h : Head) (cs : List Place) → length (effect_key (effect_with h cs)).captures ≡ ite (eqb (code_of (effect_with h cs)) 13) (length (identifiers cs)) 0
unfolding effect_with
captures_of_key (Head.Freeze p r) cs = refl
captures_of_key (Head.Mutate p r) cs = refl
captures_of_key (Head.MutateConditionally p) cs = refl
captures_of_key (Head.MutateTransitive p) cs = refl
captures_of_key (Head.MutateTransitiveConditionally p) cs = refl
captures_of_key (Head.Capture f i) cs = refl
captures_of_key (Head.Alias f i) cs = refl
captures_of_key (Head.MaybeAlias f i) cs = refl
captures_of_key (Head.Assign f i) cs = refl
captures_of_key (Head.Create i k r) cs = refl
captures_of_key (Head.CreateFrom f i) cs = refl
captures_of_key (Head.ImmutableCapture f i) cs = refl
captures_of_key (Head.CreateFunction f i) cs = refl
captures_of_key (Head.MutateFrozen p d) cs = refl
captures_of_key (Head.MutateGlobal p d) cs = refl
captures_of_key (Head.Impure p d) cs = refl
captures_of_key (Head.Render p) cs = refl

-- what a candidate needs, from its code and its count of captures
pub need_is : (xs : List ℕ) (i code n d m r : ℕ) → code ≡ code_of (effect_in Layout.candidate_table xs i) → n ≡ ite (eqb code 13) (field Layout.candidate_table xs i 17) 0 → d ≡ derives code → m ≡ n → r ≡ 1 + d + 4 * m
    → r ≡ need (effect_key (effect_in Layout.candidate_table xs i))
unfolding effect_in
need_is xs i code n d m r hc hn hd hm hr =
    let h : Head = head_in Layout.candidate_table xs i in
    let cs : List Place = counted_places Layout.candidate_table xs i 17 in
    let a : n ≡ length (effect_key (effect_with h cs)).captures = hn ∙ ap₂ (λ (x y : ℕ). ite (eqb x 13) y 0) hc (sym (places_length xs i)) ∙ sym (captures_of_key h cs) in
    let b : d ≡ derives (effect_key (effect_with h cs)).code = hd ∙ ap derives (hc ∙ sym (code_of_key h cs)) in
    let z : r ≡ suc (length (effect_key (effect_with h cs)).captures) + (derives (effect_key (effect_with h cs)).code + 3 * length (effect_key (effect_with h cs)).captures) = omega arith in z

-- ---- a sum with a limit

most_at : (n : ℕ) → 2048 ≤ n → 2048 ≡ at_most 2048 n
most_at n h = ⊎_elim (λ l. sym (ite_lt 2048 n 2048 n l)) (λ l. (let z : 2048 ≡ n = omega arith in z) ∙ sym (ite_ge 2048 n 2048 n l)) (lt_or_ge 2048 n)

-- what was left out does not count
capped_twice : (a b : ℕ) → at_most 2048 (at_most 2048 a + b) ≡ at_most 2048 (a + b)
capped_twice a b = ⊎_elim
    (λ h. ap (λ (x : ℕ). at_most 2048 (x + b)) (ite_lt 2048 a 2048 a h) ∙ sym (most_at (2048 + b) (omega arith)) ∙ most_at (a + b) (omega arith))
    (λ h. ap (λ (x : ℕ). at_most 2048 (x + b)) (ite_ge 2048 a 2048 a h))
    (lt_or_ge 2048 a)

-- ---- the sum over the candidates

module _ (cs : ContextWords) (xs : List ℕ) (n : ℕ) (e : n ≡ candidate_count xs) where
  -- what is left to count from candidate k on, with what was counted
  abbrev pub left : ℕ → ℕ → ℕ
  left total k = at_most 2048 (total + needs (effects_in Layout.candidate_table xs k (n - k)))

  pub room_starts : (total : ℕ) → total ≡ at_most 2048 (interned_count cs + 0) → room_for cs xs ≡ left total 0
  unfolding room_for
  room_starts total ht =
      ap₂ (λ (x y : ℕ). at_most 2048 (x + needs (effects_in Layout.candidate_table xs 0 y))) (let z : interned_count cs ≡ interned_count cs + 0 = omega arith in z) (sym e ∙ (let z : n ≡ n - 0 = omega arith in z))
      ∙ sym (capped_twice (interned_count cs + 0) (needs (effects_in Layout.candidate_table xs 0 (n - 0))))
      ∙ ap (λ (x : ℕ). at_most 2048 (x + needs (effects_in Layout.candidate_table xs 0 (n - 0)))) (sym ht)

  pub room_more : (total total' more k : ℕ) → k < n → more ≡ need (effect_key (effect_in Layout.candidate_table xs k)) → total' ≡ at_most 2048 (total + more) → room_for cs xs ≡ left total k → room_for cs xs ≡ left total' (k + 1)
  unfolding needs
  room_more total total' more k l hm ht inv =
      inv
      ∙ ap (λ (es : List AliasingEffect). at_most 2048 (total + needs es)) (effects_more Layout.candidate_table xs k n l)
      ∙ ap (at_most 2048) (let z : total + (need (effect_key (effect_in Layout.candidate_table xs k)) + needs (effects_in Layout.candidate_table xs (k + 1) (n - (k + 1)))) ≡ total + more + needs (effects_in Layout.candidate_table xs (k + 1) (n - (k + 1))) = omega arith in z)
      ∙ sym (capped_twice (total + more) (needs (effects_in Layout.candidate_table xs (k + 1) (n - (k + 1)))))
      ∙ ap (λ (x : ℕ). at_most 2048 (x + needs (effects_in Layout.candidate_table xs (k + 1) (n - (k + 1))))) (sym ht)

  pub room_ends : (total k : ℕ) → n ≤ k → total ≤ 2048 → room_for cs xs ≡ left total k → total ≡ room_for cs xs
  unfolding needs
  room_ends total k l h inv =
      sym (inv
      ∙ ap (λ (es : List AliasingEffect). at_most 2048 (total + needs es)) (effects_none Layout.candidate_table xs k n l)
      ∙ ite_ge 2048 (total + 0) 2048 (total + 0) (omega arith) ∙ (let z : total + 0 ≡ total = omega arith in z))

pub most_limit : (x n : ℕ) → x ≡ at_most 2048 n → x ≤ 2048
most_limit x n e = let z = Class.most_limit 2048 n in omega arith

-- ---- a chain of tests

-- a test, or else another
pub or_then : (a b v : Bool) → a ≡ true → v ≡ a → v ≡ (a || b)
or_then a b v h e = e ∙ h ∙ sym (ap (λ (x : Bool). x || b) h)

pub or_else : (a b v r : Bool) → a ≡ false → r ≡ b → v ≡ r → v ≡ (a || b)
or_else a b v r h g e = e ∙ g ∙ sym (ap (λ (x : Bool). x || b) h)

pub or_assoc : (a b c : Bool) → ((a || b) || c) ≡ (a || (b || c))
or_assoc true b c = refl
or_assoc false b c = refl

least_is : (n limit : ℕ) → min n limit ≡ at_most limit n
least_is n limit = ⊎_elim
    (λ h. (let z : min n limit ≡ limit = omega arith in z) ∙ Class.most_past limit n h)
    (λ h. (let z : min n limit ≡ n = omega arith in z) ∙ Class.most_within limit n h)
    (lt_or_ge limit n)

-- the tests of a context's slices, of which one of the first eight holds
-- the code makes them from the left
pub context_wrong_is : (n room f : ℕ) (c : ContextWords) (v2 v3 v4 v5 v6 v7 v8 : Bool) → f ≡ min c.function_count 64
    → v2 ≡ (table_wrong Layout.identifiers n (length c.identifiers) || table_wrong Layout.functions f (length c.functions))
    → v3 ≡ (v2 || table_wrong Layout.contexts f (length c.contexts)) → v4 ≡ (v3 || table_wrong Layout.links 512 (length c.links))
    → v5 ≡ (v4 || table_wrong Layout.cached 512 (length c.keys)) → v6 ≡ (v5 || table_wrong Layout.key_order 512 (length c.key_order))
    → v7 ≡ (v6 || table_wrong Layout.interned room (length c.effects)) → v8 ≡ (v7 || table_wrong Layout.effect_order room (length c.effect_order)) → v8 ≡ true
    → v8 ≡ context_wrong n room c
unfolding context_wrong
context_wrong_is n room f c v2 v3 v4 v5 v6 v7 v8 hf e2 e3 e4 e5 e6 e7 e8 h =
    or_then v8 t9 v8 h refl
    ∙ (let e : (v8 || t9) ≡ ((((((((t1 || t2 f) || t3 f) || t4) || t5) || t6) || t7) || t8) || t9) = cc in e)
    ∙ ap (λ (x : ℕ). ((((((((t1 || t2 x) || t3 x) || t4) || t5) || t6) || t7) || t8) || t9)) (hf ∙ least_is c.function_count 64)
    ∙ simp or_assoc
  where
    t1 : Bool
    t1 = table_wrong Layout.identifiers n (length c.identifiers)

    t2 : ℕ → Bool
    t2 x = table_wrong Layout.functions x (length c.functions)

    t3 : ℕ → Bool
    t3 x = table_wrong Layout.contexts x (length c.contexts)

    t4 : Bool
    t4 = table_wrong Layout.links 512 (length c.links)

    t5 : Bool
    t5 = table_wrong Layout.cached 512 (length c.keys)

    t6 : Bool
    t6 = table_wrong Layout.key_order 512 (length c.key_order)

    t7 : Bool
    t7 = table_wrong Layout.interned room (length c.effects)

    t8 : Bool
    t8 = table_wrong Layout.effect_order room (length c.effect_order)

    t9 : Bool
    t9 = not (eqb (length c.diagnostics) 256)
