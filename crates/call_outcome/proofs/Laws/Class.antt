-- The ways through the tests of a call, and what holds of lists that no class refuses. Assumes nothing.
use Rattle.std.specs.Prelude.{ℕ, zero, suc, ◌+◌, ◌-◌, ◌*◌, ◌/◌, ◌%◌, ◌≤◌, ◌<◌, ◌≡◌, Bool, true, ◌&&◌, ◌||◌, List, eqb, ltb, length, get_or, None}
use Rattle.std.proofs.Common.{arith, ◌∙◌, subst, ⊎_elim}
use Rattle.std.proofs.Math.Path.{refl, sym, ap, ap₂}
use Rattle.std.proofs.Math.Bool.{false, not}
use Rattle.std.proofs.Math.ListN.{get_or-eq_default}
use Rattle.std.proofs.Math.Nat.{mul-le-mul_right}
use borrow.Author.Tests.{le-ltb, eq-eqb, ne_eqb, eqb-true, ltb-false}
use Rattle.base_tests.proofs.Laws.Bool.{not-false, or_neither, or_no_first, or_no_second}
use Rattle.base_tests.proofs.Laws.Choice.{ite_lt, ite_ge, ite_yes, ite_no}
use Rattle.base_tests.proofs.Laws.Order.{lt_or_ge, same_or_not}
use Rattle.def_effects.specs.declared.Place.{Place}
use Rattle.def_effects.specs.declared.Session.{Session}
use Rattle.lent_tables.specs.declared.Table.{Table}
use Rattle.lent_tables.specs.Words.{index}
use Rattle.lent_layout.specs.Layout as Layout
use Rattle.lent_layout.specs.declared.Numbered.{Numbered}
use Rattle.lent_layout.specs.Context.{ContextWords, interned_of, unused, is_full}
use Rattle.lent_context.specs.Lent.{interned_count, instance_count, effects_in, diagnostic_in}
use Rattle.laws_room.specs.Room.{needs}
use Rattle.refuse_entries.specs.Words.{identifiers, state_refusal}
use Rattle.refuse_class.specs.Class.{lower}
use Rattle.refuse_class.proofs.Laws.Class.{lower_none, lower_alone, lower_first, lower_0}
use Rattle.refuse_words.specs.Classes.{earns, word_class, stray_from, stray_after}
use Rattle.refuse_words.proofs.Laws.Class.{earns_none, lowest_0}
use Rattle.refuse_instruction.specs.EffectClasses.{instruction_class}
use Rattle.refuse_tables.specs.TableClasses.{numbers_of, numbered_class, unused_class}
use Rattle.refuse_order.specs.Order.{order_class}
use Rattle.refuse_records.specs.Accepting.{counts_wrong, unused_from, diagnostics_class, effects_class, tables_class, context_class}
use Rattle.call_undo.specs.Saves.{saved_words}
use Rattle.call_outcome.specs.Calls.{Call, call, room_for, table_wrong, context_wrong, lengths_wrong, candidate_count, call_class}
use Rattle.call_outcome.specs.Attempts.{at_most, lengths_of}

-- ---- a length with a limit

-- within its limit, and past it
pub most_past : (limit n : ℕ) → limit < n → limit ≡ at_most limit n
most_past limit n l = sym (ite_lt limit n limit n l)

pub most_within : (limit n : ℕ) → n ≤ limit → n ≡ at_most limit n
most_within limit n l = sym (ite_ge limit n limit n l)

-- never past it
pub most_limit : (limit n : ℕ) → at_most limit n ≤ limit
most_limit limit n = ⊎_elim
    (λ h. subst (λ (x : ℕ). x ≤ limit) (most_past limit n h) (omega arith))
    (λ h. subst (λ (x : ℕ). x ≤ limit) (most_within limit n h) h)
    (lt_or_ge limit n)

-- ---- lengths

-- a test that two numbers are not the same fails where they are
same_if : (m n : ℕ) → not (eqb m n) ≡ false → m ≡ n
same_if m n h = eqb-true m n (not-false (eqb m n) h)

if_same : (m n : ℕ) → m ≡ n → not (eqb m n) ≡ false
if_same m n h = ap not (eq-eqb m n h)

-- a slice of a right length has the records that are asked of its table, not more than it can have, and whole ones
pub record RightTable (t : Table) (n words : ℕ) : Type 0 where
  pub room_there : n * t.width ≤ words
  pub most : words ≤ t.count * t.width
  pub whole : words % t.width ≡ 0

pub right_table : (t : Table) (n words : ℕ) → table_wrong t n words ≡ false → RightTable t n words
unfolding table_wrong
right_table t n words e = record {
  room_there = ltb-false words (n * t.width) (or_no_first (ltb words (n * t.width)) _ e);
  most = ltb-false (t.count * t.width) words (or_no_first (ltb (t.count * t.width) words) _ r);
  whole = same_if (words % t.width) 0 (or_no_second (ltb (t.count * t.width) words) _ r);
}
  where
    r : (ltb (t.count * t.width) words || not (eqb (words % t.width) 0)) ≡ false
    r = or_no_second (ltb words (n * t.width)) _ e

table_right : (t : Table) (n words : ℕ) → RightTable t n words → table_wrong t n words ≡ false
unfolding table_wrong
table_right t n words r =
    or_neither (ltb words (n * t.width)) _ (le-ltb words (n * t.width) r.room_there)
    (or_neither (ltb (t.count * t.width) words) _ (le-ltb (t.count * t.width) words r.most) (if_same (words % t.width) 0 r.whole))

-- a context of right lengths, for so many identifiers and room for so many interned effects: a slice of a right length for each table
pub record RightLength (n room : ℕ) (c : ContextWords) : Type 0 where
  pub identifiers : RightTable Layout.identifiers n (length c.identifiers)
  pub functions : RightTable Layout.functions (at_most 64 c.function_count) (length c.functions)
  pub contexts : RightTable Layout.contexts (at_most 64 c.function_count) (length c.contexts)
  pub links : RightTable Layout.links 512 (length c.links)
  pub keys : RightTable Layout.cached 512 (length c.keys)
  pub key_order : RightTable Layout.key_order 512 (length c.key_order)
  pub effects : RightTable Layout.interned room (length c.effects)
  pub effect_order : RightTable Layout.effect_order room (length c.effect_order)
  pub diagnostics : length c.diagnostics ≡ 256

-- the tests of a context's slices, from one on
module _ (n room : ℕ) (c : ContextWords) where
  abbrev wrong9 : Bool
  wrong9 = not (eqb (length c.diagnostics) 256)

  abbrev wrong8 : Bool
  wrong8 = table_wrong Layout.effect_order room (length c.effect_order) || wrong9

  abbrev wrong7 : Bool
  wrong7 = table_wrong Layout.interned room (length c.effects) || wrong8

  abbrev wrong6 : Bool
  wrong6 = table_wrong Layout.key_order 512 (length c.key_order) || wrong7

  abbrev wrong5 : Bool
  wrong5 = table_wrong Layout.cached 512 (length c.keys) || wrong6

  abbrev wrong4 : Bool
  wrong4 = table_wrong Layout.links 512 (length c.links) || wrong5

  abbrev wrong3 : Bool
  wrong3 = table_wrong Layout.contexts (at_most 64 c.function_count) (length c.contexts) || wrong4

  abbrev wrong2 : Bool
  wrong2 = table_wrong Layout.functions (at_most 64 c.function_count) (length c.functions) || wrong3

  -- none of them fails
  pub right_length : context_wrong n room c ≡ false → RightLength n room c
  unfolding context_wrong
  right_length e = record {
    identifiers = right_table Layout.identifiers n (length c.identifiers) (or_no_first (table_wrong Layout.identifiers n (length c.identifiers)) wrong2 e);
    functions = right_table Layout.functions (at_most 64 c.function_count) (length c.functions) (or_no_first (table_wrong Layout.functions (at_most 64 c.function_count) (length c.functions)) wrong3 e2);
    contexts = right_table Layout.contexts (at_most 64 c.function_count) (length c.contexts) (or_no_first (table_wrong Layout.contexts (at_most 64 c.function_count) (length c.contexts)) wrong4 e3);
    links = right_table Layout.links 512 (length c.links) (or_no_first (table_wrong Layout.links 512 (length c.links)) wrong5 e4);
    keys = right_table Layout.cached 512 (length c.keys) (or_no_first (table_wrong Layout.cached 512 (length c.keys)) wrong6 e5);
    key_order = right_table Layout.key_order 512 (length c.key_order) (or_no_first (table_wrong Layout.key_order 512 (length c.key_order)) wrong7 e6);
    effects = right_table Layout.interned room (length c.effects) (or_no_first (table_wrong Layout.interned room (length c.effects)) wrong8 e7);
    effect_order = right_table Layout.effect_order room (length c.effect_order) (or_no_first (table_wrong Layout.effect_order room (length c.effect_order)) wrong9 e8);
    diagnostics = same_if (length c.diagnostics) 256 e9;
  }
    where
      e2 : wrong2 ≡ false
      e2 = or_no_second (table_wrong Layout.identifiers n (length c.identifiers)) wrong2 e

      e3 : wrong3 ≡ false
      e3 = or_no_second (table_wrong Layout.functions (at_most 64 c.function_count) (length c.functions)) wrong3 e2

      e4 : wrong4 ≡ false
      e4 = or_no_second (table_wrong Layout.contexts (at_most 64 c.function_count) (length c.contexts)) wrong4 e3

      e5 : wrong5 ≡ false
      e5 = or_no_second (table_wrong Layout.links 512 (length c.links)) wrong5 e4

      e6 : wrong6 ≡ false
      e6 = or_no_second (table_wrong Layout.cached 512 (length c.keys)) wrong6 e5

      e7 : wrong7 ≡ false
      e7 = or_no_second (table_wrong Layout.key_order 512 (length c.key_order)) wrong7 e6

      e8 : wrong8 ≡ false
      e8 = or_no_second (table_wrong Layout.interned room (length c.effects)) wrong8 e7

      e9 : wrong9 ≡ false
      e9 = or_no_second (table_wrong Layout.effect_order room (length c.effect_order)) wrong9 e8

  -- lengths that are right pass them
  length_right : RightLength n room c → context_wrong n room c ≡ false
  unfolding context_wrong
  length_right r =
      or_neither (table_wrong Layout.identifiers n (length c.identifiers)) wrong2 (table_right Layout.identifiers n (length c.identifiers) r.identifiers)
      (or_neither (table_wrong Layout.functions (at_most 64 c.function_count) (length c.functions)) wrong3 (table_right Layout.functions (at_most 64 c.function_count) (length c.functions) r.functions)
      (or_neither (table_wrong Layout.contexts (at_most 64 c.function_count) (length c.contexts)) wrong4 (table_right Layout.contexts (at_most 64 c.function_count) (length c.contexts) r.contexts)
      (or_neither (table_wrong Layout.links 512 (length c.links)) wrong5 (table_right Layout.links 512 (length c.links) r.links)
      (or_neither (table_wrong Layout.cached 512 (length c.keys)) wrong6 (table_right Layout.cached 512 (length c.keys) r.keys)
      (or_neither (table_wrong Layout.key_order 512 (length c.key_order)) wrong7 (table_right Layout.key_order 512 (length c.key_order) r.key_order)
      (or_neither (table_wrong Layout.interned room (length c.effects)) wrong8 (table_right Layout.interned room (length c.effects) r.effects)
      (or_neither (table_wrong Layout.effect_order room (length c.effect_order)) wrong9 (table_right Layout.effect_order room (length c.effect_order) r.effect_order)
      (if_same (length c.diagnostics) 256 r.diagnostics))))))))

-- both of two tests hold
both_hold : (a b : Bool) → (a && b) ≡ true → (a ≡ true) × (b ≡ true)
both_hold true b e = (refl, e)
both_hold false b e = absurd (let z : false ≡ true = e in cc)

-- of a slice with all its records
whole_table : (t : Table) (n words : ℕ) → words ≡ t.count * t.width → n ≤ t.count → (t.count * t.width) % t.width ≡ 0 → RightTable t n words
whole_table t n words e l w = record {
  room_there = subst (λ (x : ℕ). n * t.width ≤ x) (sym e) (mul-le-mul_right t.width l);
  most = omega arith;
  whole = ap (λ (x : ℕ). x % t.width) e ∙ w;
}

-- a context with room for all is right for any candidates
pub full_right : (n : ℕ) (c : ContextWords) (xs : List ℕ) → n ≤ 512 → is_full c ≡ true → context_wrong n (room_for c xs) c ≡ false
unfolding is_full room_for
full_right n c xs few e =
    let f1 = both_hold (eqb (length c.identifiers) 2048) _ e in
    let f2 = both_hold (eqb (length c.functions) 10432) _ f1.1 in
    let f3 = both_hold (eqb (length c.contexts) 5120) _ f2.1 in
    let f4 = both_hold (eqb (length c.links) 1024) _ f3.1 in
    let f5 = both_hold (eqb (length c.keys) 14336) _ f4.1 in
    let f6 = both_hold (eqb (length c.key_order) 512) _ f5.1 in
    let f7 = both_hold (eqb (length c.effects) 200704) _ f6.1 in
    let f8 = both_hold (eqb (length c.effect_order) 2048) (eqb (length c.diagnostics) 256) f7.1 in
    let room = most_limit 2048 (interned_count c + needs (effects_in Layout.candidate_table xs 0 (candidate_count xs))) in
    let known = most_limit 64 c.function_count in
    length_right n (room_for c xs) c (record {
      identifiers = whole_table Layout.identifiers n (length c.identifiers) (eqb-true _ _ f1.0) few refl;
      functions = whole_table Layout.functions (at_most 64 c.function_count) (length c.functions) (eqb-true _ _ f2.0) known refl;
      contexts = whole_table Layout.contexts (at_most 64 c.function_count) (length c.contexts) (eqb-true _ _ f3.0) known refl;
      links = whole_table Layout.links 512 (length c.links) (eqb-true _ _ f4.0) (omega arith) refl;
      keys = whole_table Layout.cached 512 (length c.keys) (eqb-true _ _ f5.0) (omega arith) refl;
      key_order = whole_table Layout.key_order 512 (length c.key_order) (eqb-true _ _ f6.0) (omega arith) refl;
      effects = whole_table Layout.interned (room_for c xs) (length c.effects) (eqb-true _ _ f7.0) room refl;
      effect_order = whole_table Layout.effect_order (room_for c xs) (length c.effect_order) (eqb-true _ _ f8.0) room refl;
      diagnostics = eqb-true _ _ f8.1;
    })

-- all lengths of a call are right
pub lengths_right : (c : Call) → lengths_wrong c ≡ false
    → (context_wrong (identifiers c.sets) (room_for c.context c.candidates) c.context ≡ false) × (length c.candidates % 98 ≡ 0) × (length c.output ≡ 109760)
    × (length c.scratch32 ≡ saved_words (lengths_of c.context)) × (length c.scratch64 ≡ 1024 + length c.sets)
unfolding lengths_wrong
lengths_right c e =
    (or_no_first wrong _ e, same_if (length c.candidates % 98) 0 (or_no_first t2 _ r1), same_if (length c.output) 109760 (or_no_first t3 _ r2), same_if (length c.scratch32) (saved_words (lengths_of c.context)) (or_no_first t4 _ r3), same_if (length c.scratch64) (1024 + length c.sets) (or_no_second t4 _ r3))
  where
    wrong : Bool
    wrong = context_wrong (identifiers c.sets) (room_for c.context c.candidates) c.context

    t2 : Bool
    t2 = not (eqb (length c.candidates % 98) 0)

    t3 : Bool
    t3 = not (eqb (length c.output) 109760)

    t4 : Bool
    t4 = not (eqb (length c.scratch32) (saved_words (lengths_of c.context)))

    t5 : Bool
    t5 = not (eqb (length c.scratch64) (1024 + length c.sets))

    r1 : (t2 || (t3 || (t4 || t5))) ≡ false
    r1 = or_no_second wrong _ e

    r2 : (t3 || (t4 || t5)) ≡ false
    r2 = or_no_second t2 _ r1

    r3 : (t4 || t5) ≡ false
    r3 = or_no_second t3 _ r2

-- ---- the lowest class

-- class 1 is the lowest
-- whatever else is earned
lower_1 : (x : ℕ) → 1 ≡ lower 1 x
lower_1 zero = lower_alone 1 0 (λ z. omega arith) refl
lower_1 (suc x) = lower_first 1 (suc x) (λ z. omega arith) (λ z. omega arith) (omega arith)

-- the class of a call, from the tests that it is made of
-- each law is one way through the code
module _ (vs ss : List ℕ) (flag : Bool) (cs : ContextWords) (s : Session) (xs : List ℕ) (p : Place) (own : ℕ) (os s64 s32 : List ℕ) where
  -- the lengths, the context, the instruction
  abbrev lengths : Bool
  lengths = lengths_wrong (call vs ss flag cs s xs p own os s64 s32)

  abbrev tables : ℕ
  tables = context_class (identifiers ss) cs s.next

  abbrev instruction : ℕ
  instruction = instruction_class (identifiers ss) cs.function_count cs xs (candidate_count xs) p own

  -- a length is wrong
  -- 1 at once
  pub class_lengths : (b : Bool) → b ≡ lengths → b ≡ true → 1 ≡ call_class (call vs ss flag cs s xs p own os s64 s32)
  unfolding call_class
  class_lengths b e h =
      lower_1 (lower (state_refusal vs ss s.next s.access) (lower tables instruction))
      ∙ sym (ap (λ (x : Bool). lower (earns 1 x) (lower (state_refusal vs ss s.next s.access) (lower tables instruction))) (sym e ∙ h))

  -- no length is wrong: the rest decides
  -- 0 is no class
  class_rest : (b : Bool) → b ≡ lengths → b ≡ false → lower (state_refusal vs ss s.next s.access) (lower tables instruction) ≡ call_class (call vs ss flag cs s xs p own os s64 s32)
  unfolding call_class
  class_rest b e h =
      lower_none 0 (lower (state_refusal vs ss s.next s.access) (lower tables instruction)) refl
      ∙ sym (ap (λ (x : Bool). lower (earns 1 x) (lower (state_refusal vs ss s.next s.access) (lower tables instruction))) (sym e ∙ h))

  -- a length of the state is wrong
  -- 1 at once
  pub class_state : (b : Bool) (r : ℕ) → b ≡ lengths → b ≡ false → r ≡ state_refusal vs ss s.next s.access → r ≡ 1 → 1 ≡ call_class (call vs ss flag cs s xs p own os s64 s32)
  class_state b r e h g q = lower_1 (lower tables instruction) ∙ sym (ap (λ (x : ℕ). lower x (lower tables instruction)) (sym g ∙ q)) ∙ class_rest b e h

  -- all are tested
  pub class_lowest : (b : Bool) (r n t u v q : ℕ) → b ≡ lengths → b ≡ false → r ≡ state_refusal vs ss s.next s.access → n ≡ length ss / 16
      → t ≡ context_class n cs s.next → u ≡ instruction_class n cs.function_count cs xs (length xs / 98) p own → v ≡ lower t u → q ≡ lower r v
      → q ≡ call_class (call vs ss flag cs s xs p own os s64 s32)
  unfolding identifiers
  class_lowest b r n t u v q e h g i ht hu hv hq =
      hq
      ∙ ap₂ lower g
      (hv
      ∙ ap₂ lower
      (ht ∙ ap (λ (x : ℕ). context_class x cs s.next) i)
      (hu ∙ ap (λ (x : ℕ). instruction_class x cs.function_count cs xs (candidate_count xs) p own) i))
      ∙ class_rest b e h

  -- ---- what no class refuses

  -- none of the tests earns a class
  pub class_0 : call_class (call vs ss flag cs s xs p own os s64 s32) ≡ 0 → (lengths ≡ false) × (state_refusal vs ss s.next s.access ≡ 0) × (tables ≡ 0) × (instruction ≡ 0)
  unfolding call_class
  class_0 e =
      let a = lower_0 (earns 1 lengths) (lower (state_refusal vs ss s.next s.access) (lower tables instruction)) e in
      let b = lower_0 (state_refusal vs ss s.next s.access) (lower tables instruction) a.1 in
      let d = lower_0 tables instruction b.1 in
      (earns_none 0 lengths a.0, b.0, d.0, d.1)

-- a word without use that earns no class is zero
-- 4 is what it would earn
pub word_0 : (x : ℕ) → word_class None x ≡ 0 → x ≡ 0
unfolding word_class
word_0 x e = ⊎_elim (λ z. z) (λ n. absurd (let y : ◌≡◌ {A = ℕ} 4 0 = sym (ap (λ (b : Bool). earns 4 (not b)) (ne_eqb x 0 n)) ∙ e in omega arith)) (same_or_not x 0)

-- a record without use that earns no class is an unused one
unused_0 : (x : Numbered) → unused_class (interned_of x) ≡ 0 → x ≡ unused
unfolding unused_class numbered_class numbers_of
unused_0 x e = λ j. record {
  identity = zero_at 0 (omega arith) j;
  diagnostic = record {
    identifier = zero_at 1 (omega arith) j;
    case = zero_at 2 (omega arith) j;
    sentence = zero_at 3 (omega arith) j;
    name = zero_at 4 (omega arith) j;
    access = record { start = zero_at 5 (omega arith) j; end = zero_at 6 (omega arith) j };
    own = record { start = zero_at 7 (omega arith) j; end = zero_at 8 (omega arith) j };
  };
}
  where
    zero_at : (w : ℕ) → w < 9 → get_or (numbers_of (interned_of x)) w 0 ≡ 0
    zero_at w l = word_0 (get_or (numbers_of (interned_of x)) w 0) (lowest_0 9 (λ w. word_class None (get_or (numbers_of (interned_of x)) w 0)) e w l)

-- what holds of the tables of an accepted context, by the class of each
module _ (n : ℕ) (c : ContextWords) (next : ℕ) (e : context_class n c next ≡ 0) where
  -- no count is above its limit, and the tables earn no class
  counts_right : counts_wrong c ≡ false
  unfolding context_class
  counts_right = go (counts_wrong c) refl
    where
      go : (b : Bool) → counts_wrong c ≡ b → counts_wrong c ≡ false
      go true h = absurd (let z : ◌≡◌ {A = ℕ} 2 0 = sym (ite_yes (counts_wrong c) 2 (tables_class n c next) h) ∙ e in omega arith)
      go false h = h

  pub tables_right : tables_class n c next ≡ 0
  unfolding context_class
  tables_right = sym (ite_no (counts_wrong c) 2 (tables_class n c next) counts_right) ∙ e

  -- no more effects are interned than there can be, and no more diagnostics
  few_effects : interned_count c ≤ 2048
  unfolding counts_wrong
  few_effects = ltb-false 2048 (interned_count c) (or_no_first (ltb 2048 (interned_count c)) _ (or_no_second (ltb 64 c.function_count) _ counts_right))

  -- the diagnostics, then the effects
  last_two : (diagnostics_class n c ≡ 0) × (effects_class n c.function_count c ≡ 0)
  unfolding tables_class
  last_two = lower_0 _ _ (lower_0 _ _ (lower_0 _ _ (lower_0 _ _ (lower_0 _ _ (lower_0 _ _ tables_right).1).1).1).1).1

  -- the order of the interned effects earns no class
  pub order_right : order_class c ≡ 0
  unfolding effects_class
  order_right = (lower_0 _ _ (lower_0 _ _ last_two.1).1).1

  -- after the last interned effect every word is zero
  -- the words of its table, and past the end of the slice
  pub effects_after : length c.effects ≤ 200704 → (k : ℕ) → interned_count c * 98 ≤ k → get_or c.effects k 0 ≡ 0
  unfolding effects_class stray_after stray_from index
  effects_after long k l = ⊎_elim inside (λ p. get_or-eq_default c.effects 0 {n = k} (omega arith)) (lt_or_ge k 200704)
    where
      m : ℕ
      m = interned_count c

      inside : k < 200704 → get_or c.effects k 0 ≡ 0
      inside p =
          let few = few_effects in
          let z : k ≡ 0 + m * 98 + 0 + (k - m * 98) = omega arith in
          ap (λ (x : ℕ). get_or c.effects x 0) z
          ∙ word_0 (get_or c.effects (0 + m * 98 + 0 + (k - m * 98)) 0) (lowest_0 ((2048 - m) * 98) (λ j. word_class None (get_or c.effects (0 + m * 98 + 0 + j) 0)) (lower_0 _ _ (lower_0 _ _ last_two.1).1).0 (k - m * 98) (omega arith))

  -- after the last diagnostic every record is an unused one
  pub diagnostics_after : length c.diagnostics ≡ 256 → (k : ℕ) → instance_count c ≤ k → get_or c.diagnostics k unused ≡ unused
  unfolding diagnostics_class unused_from diagnostic_in
  diagnostics_after long k l = ⊎_elim inside (λ p. get_or-eq_default c.diagnostics unused {n = k} (omega arith)) (lt_or_ge k 256)
    where
      m : ℕ
      m = instance_count c

      inside : k < 256 → get_or c.diagnostics k unused ≡ unused
      inside p =
          let z : k ≡ m + (k - m) = omega arith in
          ap (λ (x : ℕ). get_or c.diagnostics x unused) z
          ∙ unused_0 (get_or c.diagnostics (m + (k - m)) unused) (lowest_0 (256 - m) (λ j. unused_class (diagnostic_in c.diagnostics (m + j))) (lower_0 _ _ last_two.0).1 (k - m) (omega arith))
