-- An instruction that the call accepts has the document's sizes, so that nothing of it is lost. Assumes nothing.
use Prim.Native.Nat.{ℕ, zero, suc, ◌+◌, ◌≤◌, ◌<◌}
use native.Mathlib.Omega.{arith}
use Rattle.std.specs.Prelude.{◌≡◌, refl, Bool, true, false, List, leb, ltb}
use Rattle.std.proofs.Common.{sym, ap, ◌∙◌, ⊎_elim}
use Rattle.std.proofs.Math.ListN.{length}
use borrow.Author.Tests.{ltb-false, leb-true}
use Rattle.base_tests.proofs.Laws.Bool.{not-false, or_no_second}
use Rattle.base_tests.proofs.Laws.Choice.{ite_ne, ite_yes, ite_no}
use Rattle.base_tests.specs.Tests.{All}
use Rattle.base_tests.proofs.Laws.Order.{lt_or_ge, same_or_not}
use Rattle.def_effects.specs.declared.Place.{Place}
use Rattle.def_effects.specs.Places as Places
use Rattle.def_effects.specs.Effects.{AliasingEffect, code_of}
use Rattle.def_effects.specs.Keys.{effect_key}
use Rattle.lent_tables.specs.declared.Table.{Table}
use Rattle.lent_tables.specs.Words.{field, places_in}
use Rattle.lent_effects.specs.declared.AliasingEffect.{AliasingEffect as Head}
use Rattle.lent_effects.specs.Records.{counted_places, effect_with, head_in, effect_in}
use Rattle.lent_effects.proofs.Laws.Head.{code_past, code_apply, code_known}
use Rattle.lent_keys.proofs.Laws.Number.{numbers_count, places_numbers}
use Rattle.lent_layout.specs.Layout as Layout
use Rattle.lent_layout.specs.Context.{ContextWords}
use Rattle.lent_context.specs.Lent.{effects_in, mutated_inside}
use Rattle.def_transfer.specs.Instruction.{own_of}
use Rattle.lent_world.specs.World.{lent}
use Rattle.refuse_entries.specs.Words.{identifiers}
use Rattle.refuse_class.proofs.Laws.Class.{lower_0}
use Rattle.refuse_words.proofs.Laws.Class.{earns_none, lowest_0}
use Rattle.refuse_instruction.specs.EffectClasses.{uses, used_parts, count_class, effect_class, instruction_class}
use Rattle.refuse_tables.specs.TableClasses.{places_class, function_class}
use Rattle.refuse_records.specs.Accepting.{counts_wrong, functions_class, tables_class, context_class}
use Rattle.call_parts.specs.Instructions.{instruction_of}
use Rattle.laws_counts.proofs.Laws.Steps.{mutated}
use Rattle.laws_counts.proofs.Laws.Counts.{Fits}
use Rattle.call_outcome.specs.Calls.{Call, candidate_count, call_class, lent_instruction}
use Rattle.call_outcome.proofs.Laws.Class.{class_0}
use Rattle.lent_layout.specs.Layout.{candidate_table}

-- ---- candidates

-- as many effects are read as are asked for
effects_count : (t : Table) (c : List ℕ) (k n : ℕ) → length (effects_in t c k n) ≡ n
unfolding effects_in
effects_count t c k zero = refl
effects_count t c k (suc n) = ap suc (effects_count t c (suc k) n)

-- what holds of the effect of each record holds of all that are read
effects_all : (P : AliasingEffect → Type 0) (t : Table) (c : List ℕ) (k n : ℕ) → ((j : ℕ) → j < k + n → P (effect_in t c j)) → All P (effects_in t c k n)
unfolding effects_in
effects_all P t c k zero h = tt
effects_all P t c k (suc n) h = (h k (omega arith), effects_all P t c (suc k) n (λ j l. h j (omega arith)))

-- as many identifiers are read as places are asked for
identifiers_count : (t : Table) (c : List ℕ) (i w k n : ℕ) → length (Places.identifiers (places_in t c i w k n)) ≡ n
identifiers_count t c i w k n = ap length (places_numbers t c i w k n) ∙ numbers_count t c i w 5 k n

-- as many places are read as are asked for
places_count : (t : Table) (c : List ℕ) (i w k n : ℕ) → length (places_in t c i w k n) ≡ n
unfolding places_in
places_count t c i w k zero = refl
places_count t c i w k (suc n) = ap suc (places_count t c i w (suc k) n)

-- an effect has at most sixteen captures in its key if a CreateFunction has
captures_of_is : (h : Head) (cs : List Place) → (code_of (effect_with h cs) ≡ 13 → length (Places.identifiers cs) ≤ 16) → length (effect_key (effect_with h cs)).captures ≤ 16
unfolding effect_with
captures_of_is (Head.Freeze p r) cs k = omega arith
captures_of_is (Head.Mutate p r) cs k = omega arith
captures_of_is (Head.MutateConditionally p) cs k = omega arith
captures_of_is (Head.MutateTransitive p) cs k = omega arith
captures_of_is (Head.MutateTransitiveConditionally p) cs k = omega arith
captures_of_is (Head.Capture f i) cs k = omega arith
captures_of_is (Head.Alias f i) cs k = omega arith
captures_of_is (Head.MaybeAlias f i) cs k = omega arith
captures_of_is (Head.Assign f i) cs k = omega arith
captures_of_is (Head.Create i v r) cs k = omega arith
captures_of_is (Head.CreateFrom f i) cs k = omega arith
captures_of_is (Head.ImmutableCapture f i) cs k = omega arith
captures_of_is (Head.CreateFunction f i) cs k = k refl
captures_of_is (Head.MutateFrozen p d) cs k = omega arith
captures_of_is (Head.MutateGlobal p d) cs k = omega arith
captures_of_is (Head.Impure p d) cs k = omega arith
captures_of_is (Head.Render p) cs k = omega arith

-- a CreateFunction whose count earns no class has at most sixteen captures
-- "captures (16)"
count_16 : (n : ℕ) → count_class 13 n ≡ 0 → n ≤ 16
unfolding count_class uses used_parts
count_16 n e = ltb-false 16 n (earns_none 1 (ltb 16 n) e)

-- one record of a list of words
module _ (t : Table) (xs : List ℕ) (i : ℕ) where
  -- the effect of a record is a CreateFunction only where the record's code is that of one
  -- an Apply and what is past the last code read as Render
  code_13 : code_of (effect_in t xs i) ≡ 13 → field t xs i 0 ≡ 13
  code_13 e = ⊎_elim past known (lt_or_ge 17 (field t xs i 0))
    where
      past : 17 < field t xs i 0 → field t xs i 0 ≡ 13
      past l = absurd (let z = code_past t xs i (field t xs i 0) refl l in omega arith)

      known : field t xs i 0 ≤ 17 → field t xs i 0 ≡ 13
      known l = ⊎_elim
          (λ q. absurd (let z = code_apply t xs i (field t xs i 0) refl q in omega arith))
          (λ q. code_known t xs i (field t xs i 0) refl l q ∙ e)
          (same_or_not (field t xs i 0) 12)

  -- a record that earns no class has at most sixteen captures in its effect's key
  -- its count is tested where its code is that of a CreateFunction
  record_captures : (n f : ℕ) (c : ContextWords) (apply : ℕ) → effect_class n f c apply t xs i ≡ 0 → length (effect_key (effect_in t xs i)).captures ≤ 16
  unfolding effect_class effect_in counted_places
  record_captures n f c apply e = captures_of_is (head_in t xs i) (places_in t xs i 18 0 (field t xs i 17)) few
    where
      few : code_of (effect_in t xs i) ≡ 13 → length (Places.identifiers (places_in t xs i 18 0 (field t xs i 17))) ≤ 16
      few g =
          let z = code_13 g in
          let q : count_class (field t xs i 0) (field t xs i 17) ≡ 0 = (lower_0 _ _ (sym (ite_ne (field t xs i 0) 12 apply _ (λ y. omega arith)) ∙ e)).0 in
          let m = count_16 (field t xs i 17) (ap (λ (x : ℕ). count_class x (field t xs i 17)) (sym z) ∙ q) in
          let l = identifiers_count t xs i 18 0 (field t xs i 17) in
          omega arith

-- ---- the own function

-- a function that earns no class mutates at most 32 places inside
-- "count of places mutated inside (32)"
function_inside : (n : ℕ) (c : ContextWords) (f : ℕ) → function_class n c.functions c.contexts f ≡ 0 → length (mutated_inside c f) ≤ 32
unfolding function_class places_class mutated_inside
function_inside n c f e =
    let a : places_class (field Layout.functions c.functions f 1) (field Layout.functions c.functions f 2) ≡ 0 = (lower_0 _ _ e).0 in
    let b = ltb-false 32 (field Layout.functions c.functions f 2) (or_no_second (ltb 16 (field Layout.functions c.functions f 1)) _ (earns_none 1 _ a)) in
    let l = places_count Layout.functions c.functions f 3 0 (field Layout.functions c.functions f 2) in
    omega arith

-- no function of a context that earns no class earns one
context_function : (n : ℕ) (c : ContextWords) (next : ℕ) → context_class n c next ≡ 0 → (f : ℕ) → f < c.function_count → function_class n c.functions c.contexts f ≡ 0
unfolding context_class tables_class functions_class
context_function n c next e f l = go (counts_wrong c) refl
  where
    go : (b : Bool) → counts_wrong c ≡ b → function_class n c.functions c.contexts f ≡ 0
    go true h = absurd (let z : 2 ≡ 0 = sym (ite_yes (counts_wrong c) 2 (tables_class n c next) h) ∙ e in omega arith)
    go false h =
        lowest_0 c.function_count (function_class n c.functions c.contexts)
        (lower_0 _ _ (lower_0 _ _ (lower_0 _ _ (lower_0 _ _ (sym (ite_no (counts_wrong c) 2 (tables_class n c next) h) ∙ e)).1).1).0).0 f l

-- ---- an instruction that no class refuses

-- the instruction, by its parts
-- in a context of so many identifiers
module _ (n : ℕ) (c : ContextWords) (xs : List ℕ) (count : ℕ) (p : Place) (own : ℕ) (e : instruction_class n c.function_count c xs count p own ≡ 0) where
  -- it has at most 64 candidates
  -- "candidates (64)"
  few : count ≤ 64
  unfolding instruction_class
  few = ltb-false 64 count (earns_none 1 (ltb 64 count) (lower_0 _ _ e).0)

  -- none of its candidates earns a class
  candidate_0 : (k : ℕ) → k < count → effect_class n c.function_count c 5 candidate_table xs k ≡ 0
  unfolding instruction_class
  candidate_0 = lowest_0 count (effect_class n c.function_count c 5 candidate_table xs) (lower_0 _ _ (lower_0 _ _ e).1).0

  -- its own function is one of the context's
  -- "own function + 1 or 0"
  own_most : own ≤ c.function_count
  unfolding instruction_class
  own_most = leb-true own c.function_count (not-false (leb own c.function_count) (earns_none 2 _ (lower_0 _ _ (lower_0 _ _ (lower_0 _ _ e).1).1).1))

  -- the sizes that document 01 allows, in a context that earns no class either
  -- candidates, their captures, and what the own function mutates inside
  instruction_fits : (next : ℕ) → context_class n c next ≡ 0 → Fits lent (instruction_of xs count p own) c
  unfolding instruction_of mutated
  instruction_fits next h = record {
    few = let l = effects_count candidate_table xs 0 count in let m = few in omega arith;
    captures = effects_all (λ x. length (effect_key x).captures ≤ 16) candidate_table xs 0 count (λ j l. record_captures candidate_table xs j n c.function_count c 5 (candidate_0 j (omega arith)));
    inside = inside own own_most;
  }
    where
      inside : (o : ℕ) → o ≤ c.function_count → mutated lent (own_of o) c ≤ 32
      inside zero l = omega arith
      inside (suc f) l = function_inside n c f (context_function n c next h f (omega arith))

-- ---- the call

-- an instruction that no class refuses has the sizes that document 01 allows
-- so the bounds of `laws_counts` hold of it
pub accepted_fits : (c : Call) → call_class c ≡ 0 → Fits lent (lent_instruction c) c.context
accepted_fits c e =
    let a = class_0 c.values c.sets c.flag c.context c.session c.candidates c.lvalue c.own c.output c.scratch64 c.scratch32 e in
    instruction_fits (identifiers c.sets) c.context c.candidates (candidate_count c.candidates) c.lvalue c.own a.3 c.session.next a.2
