-- `inferred` is `infer`: the program over lent tables does what the definition does over plain ones, for all bytes. Assumes nothing.
use Prim.Native.Nat.{ℕ, zero, suc, ◌+◌, ◌*◌, ◌/◌, ◌%◌, ◌≤◌, ◌<◌}
use Rattle.std.proofs.Common.{eq-or-lt_of_le, ◌∙◌, eq-eqb, ne_eqb, lt-ltb, le-ltb}
use native.Mathlib.Omega.{arith}
use Rattle.std.specs.Prelude.{◌≡◌, Bool, ◌&&◌, Option, None, Some}
use Rattle.std.proofs.Math.Path.{refl, sym, ap, ap₂, subst, fun_ext}
use Rattle.std.proofs.Math.Bool.{true, false, not}
use Rattle.std.proofs.Math.Logic.{⊎_elim}
use mathlib.Core.List.{List, ◌∷◌}
use lib.Dec.{eqb, ltb}
use Rattle.std.proofs.Math.ListN.{length, get_or, get_or-eq_default}
use Rattle.std.proofs.Math.Seq.{get_or-take}
use Rattle.base_tests.specs.Tests.{ite, All}
use Rattle.base_tests.proofs.Laws.Choice.{ite_eq, ite_ne}
use Rattle.def_kinds.specs.declared.AbstractValue.{AbstractValue}
use Rattle.def_effects.specs.Effects.{AliasingEffect, Render}
use Rattle.def_transfer.specs.Monad.{Res, ok, refused, Done}
use Rattle.def_transfer.specs.Tables.{World}
use Rattle.def_transfer.specs.Instruction.{Instruction, apply_signature, own_of}
use Rattle.def_transfer.specs.Pure.{pure, Identifier, at}
use Rattle.lent_copies.specs.Copies.{zeros}
use Rattle.lent_copies.proofs.Laws.Copy.{zeros_length}
use Rattle.lent_values.specs.Cells.{value_at}
use Rattle.lent_sets.specs.Rows.{set_at, number, row_number, marked}
use Rattle.base_tests.proofs.Laws.Order.{lt_or_ge}
use Rattle.refuse_entries.proofs.Laws.Word.{reasons_lt}
use Rattle.lent_tables.specs.Words.{index, field, places_in}
use Rattle.lent_tables.proofs.Laws.Word.{field_cong, within_word}
use Rattle.lent_effects.specs.Records.{effect_in, put_effect}
use Rattle.lent_effects.proofs.Laws.EffectFrames.{effect_cong, effect_record, effect_length}
use Rattle.lent_layout.specs.Layout as Layout
use Rattle.lent_layout.specs.Context.{ContextWords, no_context}
use Rattle.image_outcome.proofs.Laws.Full.{no_context_full}
use Rattle.lent_context.specs.Lent.{effects_in, interned_count}
use Rattle.def_image.specs.Layout.{Image, words_of, word, identifiers, values, pairs, functions, candidates, count_of, options, flag_two, captures_count, code, function_flags, identifier_flags, pair_identifier, pair_value}
use Rattle.def_image.specs.Refusals.{refusal_of_words, refusal_of}
use Rattle.def_image.specs.Decode.{list_from, entry_of, place_at, places_from, value_table, set_table, world_of, makers, effect_at, instruction_of, no_function, no_identifier, function_at, identifier_at, with_pair, member_of, transitive}
use Rattle.image_decode.specs.Decoded.{after, decoded_candidate, decoded_candidates, decoded_sets}
use Rattle.image_decode.proofs.Laws.StateBack.{no_value, values_back, no_set, sets_back, after_length}
use Rattle.lent_effects.proofs.Laws.Back.{capture_count, effect_back}
use Rattle.image_decode.proofs.Laws.Candidate.{run_length}
use Rattle.laws_image_accepted.proofs.Laws.Facts.{few_identifiers, few_candidates, few_captures, next_range, value_range, pair_range, few_functions, few_context, few_inside}
use Rattle.laws_image_accepted.proofs.Laws.Lengths.{lent_values, lent_sets, lent_context, lent_candidates, lent_call, call_is, sets_length, sets_identifiers}
use Rattle.laws_image_accepted.proofs.Laws.Counted.{candidates_count}
use Rattle.laws_image_accepted.proofs.Laws.Accepted.{accepted_call}
use Rattle.laws_image_accepted.proofs.Laws.Later.{words_small, words_accepted, ends_later}
use Rattle.lent_world.specs.World.{lent}
use Rattle.lent_world.proofs.Laws.LentIsolation.{InRange}
use Rattle.lent_world.proofs.Laws.LentFaithful.{lent_faithful}
use Rattle.laws_room.proofs.Laws.Near.{besides}
use Rattle.laws_image_accepted.proofs.Laws.Context.{none_interned, none_told, links_zero, keys_zero, identifiers_after, functions_after}
use Rattle.image_decode.proofs.Laws.ContextBack.{contexts_back, insides_back, flags_back}
use Rattle.image_decode.proofs.Laws.WordsBack.{options_back, identifiers_back}
use Rattle.refuse_entries.specs.Words as Words
use Rattle.lent_keys.specs.KeyRecords.{key_in, key_head_in, numbers_in, option_in}
use Rattle.lent_context.specs.Lent as Lent
use Rattle.base_sets.specs.Members.{union, bits_of}
use Rattle.def_image.specs.Infer.{infer_words, infer}
use Rattle.def_image.specs.Listing.{shown_lines, ok_lines, listing, refusal_line}
use Rattle.call_outcome.specs.Calls.{Call, call_class, lent_instruction, lent_world, outcome}
use Rattle.call_parts.specs.Instructions as Instructions
use Rattle.image_outcome.specs.Inferring.{image_call, shown, inferred}
use Rattle.image_text.specs.Texts.{lent_listing}
use Rattle.def_faithful.specs.Ranges.{Entered, Pointing}
use Rattle.def_faithful.proofs.Laws.Means.{Any, Rel}
use Rattle.def_faithful.proofs.Laws.Steps.{Fine}
use Rattle.def_faithful.proofs.Laws.Runs.{call_means}
use Rattle.def_effects.specs.Keys.{effect_key}
use Rattle.def_effects.specs.declared.Session.{Session}
use Rattle.def_faithful.proofs.Laws.Clipped.{zero_identifier, known, clip, Unknown, clipped}
use Rattle.lent_world.proofs.Laws.StateFaithful.{value_word, set_is}
use Rattle.lent_context.specs.Abstract.{function_in, identifier_in, abstract}
use Rattle.call_means.specs.Meaning.{plain_world, MeansEnd}
use Rattle.call_means.proofs.Laws.CallMeans.{Told, call_told, call_fine}
use Rattle.call_means.proofs.Laws.CallMeans as Meanings
use Rattle.laws_image_accepted.proofs.Laws.State.{set_kept}
use Rattle.lent_layout.specs.Layout.{candidate_table}

-- ---- the state

module _ (im : Image) (ok : refusal_of_words im ≡ 0) where
  values_is : value_at (lent_values im) ≡ value_table im (count_of im values)
  values_is = fun_ext (values_back im (zeros 1024) (no_value 1024) (count_of im values) (λ k l.
      let r = value_range im ok k l in
      let a = r.1 in
      let b = few_identifiers im ok in
      let z = zeros_length 1024 in
      (omega arith, reasons_lt _ r.2)))

  rows_is : (i : ℕ) → set_at (decoded_sets im (count_of im pairs) (zeros 8192)) i ≡ set_table im (count_of im pairs) i
  rows_is = sets_back im 512 (zeros 8192) (zeros_length 8192) (no_set 8192) (count_of im pairs) (λ k l.
      let r = pair_range im ok k l in
      let a = r.0 in
      let b = few_identifiers im ok in
      (omega arith, ⊎_elim (λ (z : _ ≡ 0). omega arith) (λ z. let y = z.1 in omega arith) r.1))

  -- a row past the last is none
  number_past : (k : ℕ) (l : List ℕ) (a : ℕ) → length l ≤ a → number k l a ≡ 0
  unfolding number
  number_past zero l a h = refl
  number_past (suc k) l a h = ap₂ (λ (x y : ℕ). x * 18446744073709551616 + y % 18446744073709551616) (number_past k l (suc a) (omega arith)) (get_or-eq_default l 0 {n = a} h)

  set_past : (i : ℕ) → count_of im identifiers ≤ i → set_at (lent_sets im) i ≡ None
  unfolding set_at row_number
  set_past i h = ap (λ (x : ℕ). marked (x % 2) x) (number_past 16 (lent_sets im) (i * 16) (let z = sets_length im ok in omega arith))

  table_past : (m i : ℕ) → m ≤ count_of im pairs → count_of im identifiers ≤ i → set_table im m i ≡ None
  unfolding set_table with_pair at
  table_past zero i l h = refl
  table_past (suc m) i l h =
      let r = pair_range im ok m (omega arith) in
      let a = r.0 in
      ap (λ (b : Bool). elim b as (λ _. Option ℕ) [ true ↦ Some (union (bits_of (set_table im m (pair_identifier im m))) (member_of (pair_value im m))) | false ↦ set_table im m i ]) (ne_eqb (pair_identifier im m) i (λ e. omega arith)) ∙ table_past m i (omega arith) h

  sets_is : set_at (lent_sets im) ≡ set_table im (count_of im pairs)
  sets_is = fun_ext (λ i. ⊎_elim (λ l. set_kept im ok i l ∙ rows_is i) (λ l. set_past i l ∙ sym (table_past (count_of im pairs) i (omega arith) l)) (lt_or_ge i (count_of im identifiers)))

  -- ---- the instruction

  captures_few : (k : ℕ) (n : ℕ) → (n ≡ 13 → captures_count im k ≤ 16) → capture_count (get_or (makers im) n (λ j. Render (place_at im (Rattle.def_image.specs.Layout.first_place im j))) k) ≤ 16
  unfolding makers places_from
  captures_few k zero h = omega arith
  captures_few k (suc zero) h = omega arith
  captures_few k (suc (suc zero)) h = omega arith
  captures_few k (suc (suc (suc zero))) h = omega arith
  captures_few k (suc (suc (suc (suc zero)))) h = omega arith
  captures_few k (suc (suc (suc (suc (suc zero))))) h = omega arith
  captures_few k (suc (suc (suc (suc (suc (suc zero)))))) h = omega arith
  captures_few k (suc (suc (suc (suc (suc (suc (suc zero))))))) h = omega arith
  captures_few k (suc (suc (suc (suc (suc (suc (suc (suc zero)))))))) h = omega arith
  captures_few k (suc (suc (suc (suc (suc (suc (suc (suc (suc zero))))))))) h = omega arith
  captures_few k (suc (suc (suc (suc (suc (suc (suc (suc (suc (suc zero)))))))))) h = omega arith
  captures_few k (suc (suc (suc (suc (suc (suc (suc (suc (suc (suc (suc zero))))))))))) h = omega arith
  captures_few k (suc (suc (suc (suc (suc (suc (suc (suc (suc (suc (suc (suc zero)))))))))))) h = omega arith
  captures_few k (suc (suc (suc (suc (suc (suc (suc (suc (suc (suc (suc (suc (suc zero))))))))))))) h = let e = run_length (captures_count im k) (Rattle.def_image.specs.Layout.captures_first im k) (place_at im) in let l = h refl in omega arith
  captures_few k (suc (suc (suc (suc (suc (suc (suc (suc (suc (suc (suc (suc (suc (suc zero)))))))))))))) h = omega arith
  captures_few k (suc (suc (suc (suc (suc (suc (suc (suc (suc (suc (suc (suc (suc (suc (suc zero))))))))))))))) h = omega arith
  captures_few k (suc (suc (suc (suc (suc (suc (suc (suc (suc (suc (suc (suc (suc (suc (suc (suc zero)))))))))))))))) h = omega arith
  captures_few k (suc (suc (suc (suc (suc (suc (suc (suc (suc (suc (suc (suc (suc (suc (suc (suc (suc n))))))))))))))))) h = omega arith

  few_of : (k : ℕ) → k < count_of im candidates → capture_count (effect_at im k) ≤ 16
  unfolding effect_at
  few_of k l = captures_few k (code im k) (few_captures im ok k l)

  candidate_length : (k : ℕ) (xs : List ℕ) → length (decoded_candidate im k xs) ≡ length xs
  unfolding decoded_candidate
  candidate_length k xs = effect_length candidate_table xs k (effect_at im k)

  candidate_back : (n : ℕ) → n ≤ count_of im candidates → (k : ℕ) → k < n → effect_in candidate_table (after (decoded_candidate im) n (zeros 6272)) k ≡ effect_at im k
  unfolding after decoded_candidate
  candidate_back zero m k l = absurd (omega arith)
  candidate_back (suc n) m k l =
      let few = few_candidates im ok in
      ⊎_elim
      (λ e. ap (effect_in candidate_table (put_effect candidate_table (after (decoded_candidate im) n (zeros 6272)) n (effect_at im n))) e
      ∙ effect_back candidate_table (after (decoded_candidate im) n (zeros 6272)) n refl (omega arith)
      (let z : length (after (decoded_candidate im) n (zeros 6272)) ≡ length (zeros 6272) = after_length (decoded_candidate im) candidate_length n (zeros 6272) in let w = zeros_length 6272 in let y : 0 + n * 98 + 98 ≤ length (after (decoded_candidate im) n (zeros 6272)) = omega arith in y)
      (effect_at im n) (few_of n (omega arith))
      ∙ ap (effect_at im) (sym e))
      (λ g. effect_cong candidate_table (after (decoded_candidate im) n (zeros 6272)) (put_effect candidate_table (after (decoded_candidate im) n (zeros 6272)) n (effect_at im n)) k
      (λ v. effect_record candidate_table (after (decoded_candidate im) n (zeros 6272)) n (effect_at im n) k v (λ e. omega arith))
      ∙ candidate_back n (omega arith) k g)
      (eq-or-lt_of_le (let z : k ≤ n = omega arith in z))

  lent_back : (k : ℕ) → k < count_of im candidates → effect_in candidate_table (lent_candidates im) k ≡ effect_at im k
  unfolding index decoded_candidates
  lent_back k l =
      effect_cong candidate_table (decoded_candidates im (count_of im candidates) (zeros 6272)) (lent_candidates im) k
      (λ v. field_cong candidate_table (decoded_candidates im (count_of im candidates) (zeros 6272)) (lent_candidates im) k v
      (λ e. get_or-take (98 * count_of im candidates) (decoded_candidates im (count_of im candidates) (zeros 6272)) (0 + k * 98 + v) 0 (let w : v < 98 = within_word candidate_table k v e in omega arith)))
      ∙ candidate_back (count_of im candidates) (omega arith) k l

  effects_listed : (m k : ℕ) → k + m ≤ count_of im candidates → effects_in candidate_table (lent_candidates im) k m ≡ list_from m k (effect_at im)
  unfolding effects_in list_from
  effects_listed zero k h = refl
  effects_listed (suc m) k h = ap₂ (λ (x : AliasingEffect) (xs : List AliasingEffect). x ∷ xs) (lent_back k (omega arith)) (effects_listed m (suc k) (omega arith))

  instruction_is : lent_instruction (lent_call im) ≡ instruction_of im
  unfolding Instructions.instruction_of instruction_of
  instruction_is = λ j. record {
    candidates = (ap (effects_in candidate_table (lent_candidates im) 0) (candidates_count im ok) ∙ effects_listed (count_of im candidates) 0 (omega arith)) j;
    lvalue = place_at im (Rattle.def_image.specs.Layout.lvalue im);
    own = own_of (Rattle.def_image.specs.Layout.own im);
  }

-- ---- what is known of an instruction, and of how it ends

abbrev FineParts : ℕ → Instruction → Type 0
FineParts n ins = All (λ e. Fine n (effect_key e)) ins.candidates × (ins.lvalue.identifier < n)

abbrev Later : Res (World pure) Done → Type 0
Later (ok a w) = Unit {0}
Later (refused n w) = lib.Dec.T (ltb 5 n && ltb n 12)

-- ---- the context

list_at : {A : Type 0} (d : A) (g : ℕ → A) (m k j : ℕ) → j < m → get_or (list_from m k g) j d ≡ g (k + j)
unfolding list_from
list_at d g zero k j l = absurd (omega arith)
list_at d g (suc m) k zero l = ap g (let z : k ≡ k + 0 = omega arith in z)
list_at d g (suc m) k (suc j) l = list_at d g m (suc k) j (omega arith) ∙ ap g (let z : suc k + j ≡ k + suc j = omega arith in z)

first_at : {A : Type 0} (d : A) (g : ℕ → A) (m j : ℕ) → j < m → get_or (list_from m 0 g) j d ≡ g j
first_at d g m j l = list_at d g m 0 j l ∙ ap g (let z : 0 + j ≡ j = omega arith in z)

list_past : {A : Type 0} (d : A) (g : ℕ → A) (m k j : ℕ) → m ≤ j → get_or (list_from m k g) j d ≡ d
unfolding list_from
list_past d g zero k j l = refl
list_past d g (suc m) k zero l = absurd (omega arith)
list_past d g (suc m) k (suc j) l = list_past d g m (suc k) j (omega arith)

flag_two_is : (x : ℕ) → eqb (x / 2 % 2) 1 ≡ flag_two x
flag_two_is x = ⊎_elim
    (λ l. eq-eqb (x / 2 % 2) 1 (omega arith) ∙ sym (lt-ltb 1 (x % 4) l))
    (λ l. ne_eqb (x / 2 % 2) 1 (λ e. omega arith) ∙ sym (le-ltb 1 (x % 4) l))
    (lt_or_ge 1 (x % 4))

module _ (im : Image) (small : (i : ℕ) → word im i < 4294967296) (good : refusal_of_words im ≡ 0) where
  abbrev c : ContextWords
  c = lent_context im

  functions_long : 10432 ≤ length no_context.functions
  functions_long = let z = no_context_full.functions in omega arith

  contexts_long : 5120 ≤ length no_context.contexts
  contexts_long = let z = no_context_full.contexts in omega arith

  identifiers_long : 2048 ≤ length no_context.identifiers
  identifiers_long = let z = no_context_full.identifiers in omega arith

  function_in_is : (f : ℕ) → f < count_of im functions → function_in c f ≡ function_at im f
  unfolding function_at Lent.context_of Lent.mutated_inside
  function_in_is f l = λ j. record {
    context = contexts_back im no_context functions_long (few_functions im good) contexts_long (few_context im good) f l j;
    inside = insides_back im no_context functions_long (few_functions im good) (few_inside im good) f l j;
    tracked = (ap (λ (x : ℕ). eqb (x / 2 % 2) 1) (flags_back im no_context functions_long (few_functions im good) f l) ∙ flag_two_is (function_flags im f)) j;
  }

  function_past : (f : ℕ) → count_of im functions ≤ f → function_in c f ≡ no_function
  unfolding places_in
  function_past f l =
      let z = functions_after im small good f l in
      λ j. record { context = places_in Layout.contexts c.contexts f 0 0 (z 1 j); inside = places_in Layout.functions c.functions f 3 0 (z 2 j); tracked = eqb (z 0 j / 2 % 2) 1 }

  functions_is : function_in c ≡ entry_of no_function (list_from (count_of im functions) 0 (function_at im))
  unfolding entry_of
  functions_is = fun_ext (λ f. ⊎_elim
      (λ l. function_in_is f l ∙ sym (first_at no_function (function_at im) (count_of im functions) f l))
      (λ l. function_past f l ∙ sym (list_past no_function (function_at im) (count_of im functions) 0 f l))
      (lt_or_ge f (count_of im functions)))

  identifier_in_is : (i : ℕ) → i < count_of im identifiers → identifier_in c i ≡ identifier_at im i
  unfolding identifier_at
  identifier_in_is i l =
      let w : (v : ℕ) → v < 4 → field Layout.identifiers c.identifiers i v ≡ Rattle.def_image.specs.Layout.cell im identifiers i v = λ v q. identifiers_back im no_context identifiers_long (few_identifiers im good) i v l q in
      λ j. record {
        ref = ap (λ (x : ℕ). eqb (x % 2) 1) (w 0 (omega arith)) j;
        hoisted = (ap (λ (x : ℕ). eqb (x / 2 % 2) 1) (w 0 (omega arith)) ∙ flag_two_is (identifier_flags im i)) j;
        access = record { start = w 2 (omega arith) j; end = w 3 (omega arith) j };
        name = w 1 (omega arith) j;
      }

  identifier_past : (i : ℕ) → count_of im identifiers ≤ i → identifier_in c i ≡ zero_identifier
  identifier_past i l = let z = identifiers_after im small good i l in λ j. record { ref = eqb (z 0 j % 2) 1; hoisted = eqb (z 0 j / 2 % 2) 1; access = record { start = z 2 j; end = z 3 j }; name = z 1 j }

  identifiers_is : identifier_in c ≡ known (count_of im identifiers) (entry_of no_identifier (list_from (count_of im identifiers) 0 (identifier_at im)))
  unfolding entry_of
  identifiers_is = fun_ext (λ i. ⊎_elim
      (λ l. identifier_in_is i l ∙ sym (first_at no_identifier (identifier_at im) (count_of im identifiers) i l) ∙ sym (ap (λ (b : Bool). elim b as (λ _. Identifier) [ true ↦ get_or (list_from (count_of im identifiers) 0 (identifier_at im)) i no_identifier | false ↦ zero_identifier ]) (lt-ltb i (count_of im identifiers) l)))
      (λ l. identifier_past i l ∙ sym (ap (λ (b : Bool). elim b as (λ _. Identifier) [ true ↦ get_or (list_from (count_of im identifiers) 0 (identifier_at im)) i no_identifier | false ↦ zero_identifier ]) (le-ltb i (count_of im identifiers) l)))
      (lt_or_ge i (count_of im identifiers)))

  context_is : abstract c ≡ clip (count_of im identifiers) (world_of im).rest.context
  unfolding world_of transitive effects_in Lent.diagnostics_in key_in option_in
  context_is = λ j. record {
    interned = effects_in Layout.interned c.effects 0 (none_interned im j);
    cached = fun_ext {f = key_in Layout.cached c.keys} {g = λ v. None} (λ v. ap (λ (x : ℕ). ite (eqb x 0) None (Some (key_head_in Layout.cached c.keys v (numbers_in Layout.cached c.keys v 12 1 0 (field Layout.cached c.keys v 11))))) (keys_zero im v 0)) j;
    links = fun_ext {f = λ v. option_in Layout.links c.links v 0} {g = λ v. None} (λ v. ap (λ (x : ℕ). ite (eqb x 0) None (Some (field Layout.links c.links v 1))) (links_zero im v 0)) j;
    functions = functions_is j;
    identifiers = identifiers_is j;
    transitive = not (eqb (options_back im no_context j) 0);
    diagnostics = Lent.diagnostics_in c.diagnostics 0 (none_told im j);
  }

  -- an identifier that is not in the list is no ref, is not hoisted and has no name
  unknown : Unknown (count_of im identifiers) (world_of im).rest.context
  unfolding world_of entry_of
  unknown = record {
    ref = λ i l. ap (λ (x : Identifier). x.ref) (list_past no_identifier (identifier_at im) (count_of im identifiers) 0 i l);
    hoisted = λ i l. ap (λ (x : Identifier). x.hoisted) (list_past no_identifier (identifier_at im) (count_of im identifiers) 0 i l);
    name = λ i l. ap (λ (x : Identifier). x.name) (list_past no_identifier (identifier_at im) (count_of im identifiers) 0 i l);
  }

  accepted : call_class (lent_call im) ≡ 0
  accepted = sym (ap call_class (call_is im)) ∙ accepted_call im small good

  fine : FineParts (count_of im identifiers) (instruction_of im)
  fine = subst (λ (x : ℕ). FineParts x (instruction_of im)) (sets_identifiers im good) (subst (FineParts (Words.identifiers (lent_sets im))) (instruction_is im good) (call_fine (lent_call im) accepted))

  -- the image's world and the call's mean the same, and so do their runs
  image_related : Rel (clipped (count_of im identifiers) (few_identifiers im good)) Any (apply_signature (instruction_of im) (world_of im)) (apply_signature (instruction_of im) (plain_world (lent_call im)))
  unfolding clipped world_of
  image_related = call_means {F = clipped (count_of im identifiers) (few_identifiers im good)} (instruction_of im) fine.0 fine.1 (world_of im) (plain_world (lent_call im)) (record {
    state = record {
      fit_values = λ v. subst Entered (ap (λ (f : ℕ → Option AbstractValue). f v) (values_is im good)) (value_word (lent_values im) v);
      values = sym (values_is im good);
      fit_sets = λ i. subst Pointing (ap (λ (f : ℕ → Option ℕ). f i) (sets_is im good)) (set_is (lent_sets im) i);
      sets = sym (sets_is im good);
      flag = refl;
    };
    session = record { low = (next_range im good).0; next = refl; access = refl; span = refl; entries = refl };
    fit = unknown;
    context = sym context_is;
    unused = λ v l j. (context_is j).cached v;
  })

  -- what is shown of the call is the listing of the image's run
  shown_is : (s r : Res (World pure) Done) → Rel (clipped (count_of im identifiers) (few_identifiers im good)) Any s r → MeansEnd (lent_call im) (outcome (lent_call im)) r → Told r → Later r → shown (outcome (lent_call im)) ≡ listing s
  unfolding clipped shown listing ok_lines lent_listing
  shown_is (ok a w) (ok b u) h m t q =
      ite_eq (outcome (lent_call im)).applied.refusal 0 _ _ m.refusal
      ∙ (λ j. shown_lines ((m.effects ∙ sym h.2.rest.work.listed) j) ((m.entries ∙ sym t ∙ sym h.2.rest.session.entries) j) ((m.values ∙ sym h.2.state.values) j) ((m.sets ∙ sym h.2.state.sets) j)
      ((ap (λ (x : Session). x.access) m.session ∙ sym h.2.rest.session.access) j))
  shown_is (ok a w) (refused k u) h m t q = absurd h
  shown_is (refused i w) (ok b u) h m t q = absurd h
  shown_is (refused i w) (refused k u) h m t q =
      ap shown m ∙ ite_ne k 0 _ (refusal_line k) (λ e. subst (λ (x : ℕ). lib.Dec.T (ltb 5 x && ltb x 12)) e q) ∙ ap refusal_line (sym h.0)

  -- it is refused with 6 to 11 or not at all, since the call over lent tables is
  later_as : (l : Words.identifiers (lent_sets im) ≤ 512) (d : ContextWords) (r : Res (World lent) Done) (s : Res (World pure) Done) → Rel (lent_faithful (Words.identifiers (lent_sets im)) l) Any (besides d r) s → InRange r → Later s
  later_as l d (ok a w) (ok b u) h q = tt
  later_as l d (ok a w) (refused k u) h q = absurd h
  later_as l d (refused i w) (ok b u) h q = absurd h
  later_as l d (refused i w) (refused k u) h q = subst (λ (x : ℕ). lib.Dec.T (ltb 5 x && ltb x 12)) h.0 q

  later : Later (apply_signature (lent_instruction (lent_call im)) (plain_world (lent_call im)))
  later =
      let l : Words.identifiers (lent_sets im) ≤ 512 = let a = few_identifiers im good in let b = sets_identifiers im good in omega arith in
      later_as l _ (apply_signature (lent_instruction (lent_call im)) (lent_world (lent_call im))) (apply_signature (lent_instruction (lent_call im)) (plain_world (lent_call im))) (Meanings.call_ends (lent_call im) accepted l) (ends_later im small good)

  pub words_is : shown (outcome (image_call im)) ≡ infer_words im
  unfolding infer_words
  words_is =
      ap (λ (c : Call). shown (outcome c)) (call_is im)
      ∙ shown_is (apply_signature (instruction_of im) (world_of im)) (apply_signature (instruction_of im) (plain_world (lent_call im))) image_related
      (subst (λ (i : Instruction). MeansEnd (lent_call im) (outcome (lent_call im)) (apply_signature i (plain_world (lent_call im)))) (instruction_is im good) (Meanings.call_is (lent_call im) accepted))
      (call_told (instruction_of im) (plain_world (lent_call im)))
      (subst (λ (i : Instruction). Later (apply_signature i (plain_world (lent_call im)))) (instruction_is im good) later)

-- the program over lent tables is the one over plain tables, for all bytes, refusals included
pub inferred_is : (bytes : List ℕ) → ((k : ℕ) → get_or bytes k 0 < 256) → inferred bytes ≡ infer bytes
unfolding inferred infer
inferred_is bytes h = go (refusal_of bytes) refl
  where
    go : (n : ℕ) → refusal_of bytes ≡ n → ite (eqb (refusal_of bytes) 0) (shown (outcome (image_call (words_of bytes)))) (refusal_line (refusal_of bytes)) ≡ (elim (refusal_of bytes) as (λ _. List ℕ) [ zero ↦ infer_words (words_of bytes) | suc n ↦ refusal_line (suc n) ])
    go zero e =
        ite_eq (refusal_of bytes) 0 _ _ e ∙ words_is (words_of bytes) (words_small bytes h) (words_accepted bytes e)
        ∙ sym (ap (λ (x : ℕ). elim x as (λ _. List ℕ) [ zero ↦ infer_words (words_of bytes) | suc n ↦ refusal_line (suc n) ]) e)
    go (suc n) e =
        ite_ne (refusal_of bytes) 0 _ _ (λ z. omega arith) ∙ ap refusal_line e
        ∙ sym (ap (λ (x : ℕ). elim x as (λ _. List ℕ) [ zero ↦ infer_words (words_of bytes) | suc n ↦ refusal_line (suc n) ]) e)

-- so what the definition writes for some bytes, the program writes: case 1 among others
pub inferred_as : (bytes text : List ℕ) → ((k : ℕ) → get_or bytes k 0 < 256) → infer bytes ≡ text → inferred bytes ≡ text
inferred_as bytes text h e = inferred_is bytes h ∙ e
