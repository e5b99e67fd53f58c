-- No count of an instruction meets its limit: over lent tables it does what it does over the same tables without limits, so no effect
-- and no entry is lost. Assumes nothing.
use Prim.Native.Nat.{ℕ, zero, suc, ◌+◌, ◌≤◌, ◌<◌}
use Rattle.std.proofs.Common.{le_trans, zero-add, arith, sym, ap, ◌∙◌}
use Rattle.std.specs.Prelude.{◌≡◌, refl, Bool, List, [], ◌∷◌, length, Option, None, Some}
use Rattle.std.proofs.Math.Bool.{true, false}
use Rattle.base_tests.proofs.Laws.Choice.{ite_lt}
use Rattle.def_kinds.specs.declared.ValueKind.{ValueKind}
use Rattle.def_kinds.specs.declared.AbstractValue.{AbstractValue}
use Rattle.def_effects.specs.declared.Place.{Place}
use Rattle.def_effects.specs.declared.Session.{Session}
use Rattle.def_effects.specs.declared.MutateVariant.{MutateVariant}
use Rattle.def_effects.specs.declared.MutationResult.{MutationResult}
use Rattle.def_effects.specs.declared.MutationResult.TheVariants as Result
use Rattle.def_effects.specs.Effects.{AliasingEffect, Freeze, Mutate, MutateConditionally, MutateTransitive, MutateTransitiveConditionally, Capture, Alias, MaybeAlias, Assign, Create, CreateFrom, ImmutableCapture, CreateFunction, MutateFrozen, MutateGlobal, Impure, Render}
use Rattle.def_transfer.specs.Monad.{Res, ok, refused, M, Done, and_then, ◌>>=◌, ◌>>◌, restore, atomically}
use Rattle.def_transfer.specs.Tables.{Tables, Work, World}
use Rattle.def_transfer.specs.State.{change}
use Rattle.def_transfer.specs.Context.{function_context}
use Rattle.def_transfer.specs.Step.{flowing, report_modified, report_hoisted, report, mutating, freezing, creating, capturing_immutably, list_created, creating_from, assigning, creating_function, act, apply_effect}
use Rattle.def_transfer.specs.Instruction.{Instruction, report_early, early_error, early_errors, define_lvalue, start_instruction, run, apply_signature}
use Rattle.lent_world.specs.World.{lent, Listed, put_listed, one_more}
use Rattle.lent_context.proofs.Laws.Ordered.{found_under}
use Rattle.laws_counts.proofs.Laws.Grows.{after}
use Rattle.laws_counts.proofs.Laws.Steps.{started, mutated}
use Rattle.laws_counts.proofs.Laws.Counts.{Fits, listed_most, entries_most, append_length}
use Rattle.laws_counts.proofs.Laws.Unlimited.{unlimited, list_all, count_all, limit_session, limit_work, limit, limited, Same, bind_same, then_same, each_same, change_same, atomically_same}
use Rattle.laws_counts.proofs.Laws.Alike.{touching, kind_with_span_same, kind_same, define_same, assign_same, freeze_same, intern_same, number_for_same, link_to_same, intern_diagnostic_same, emit_same, is_initialized_same, begin_same, walk_same, create_same, any_written_same, any_ref_same, function_context_same, update_context_same, mutate_same, by_flow_same}

-- what `search` finds an effect by
-- the parts of the step
ruleset parts = (touching, kind_with_span_same, kind_same, assign_same, freeze_same, number_for_same, link_to_same, intern_diagnostic_same, emit_same, is_initialized_same, begin_same, walk_same, create_same, any_written_same, any_ref_same, function_context_same, update_context_same, mutate_same, by_flow_same)

module _ {T : Tables} where
  -- ---- one effect, whose derived effects do the same

  module _ {again : AliasingEffect → M (World T) Done} {free : AliasingEffect → M (World (unlimited T)) Done} (h : (e : AliasingEffect) → Same T (again e) (free e)) where
    -- Capture, Alias and MaybeAlias
    flowing_same : (maybe : Bool) (e : AliasingEffect) (from into : Place) → Same T (flowing again maybe e from into) (flowing free maybe e from into)
    unfolding flowing
    flowing_same maybe e from into = search (parts, h) depth 12

    -- a value that cannot be modified
    report_modified_same : (p : Place) (a : AbstractValue) → Same T (report_modified again p a) (report_modified free p a)
    unfolding report_modified
    report_modified_same p a = search (parts, h) depth 12

    -- an access before the declaration
    report_hoisted_same : (p : Place) → Same T (report_hoisted again p) (report_hoisted free p)
    unfolding report_hoisted
    report_hoisted_same p = search (parts, h) depth 12

    -- what a mutation lists
    report_same : (e : AliasingEffect) (p : Place) (x : MutationResult) → Same T (report again e p x) (report free e p x)
    unfolding report
    report_same e p Result.None = search parts
    report_same e p Result.Mutate = search parts
    report_same e p Result.MutateFrozen = search (parts, report_modified_same, report_hoisted_same) depth 12
    report_same e p Result.MutateGlobal = search (parts, report_modified_same) depth 12
    report_same e p Result.MutateRef = search parts

    -- a mutation
    mutating_same : (variant : MutateVariant) (e : AliasingEffect) (p : Place) → Same T (mutating again variant e p) (mutating free variant e p)
    unfolding mutating
    mutating_same variant e p = search (parts, report_same) depth 12

    -- Freeze
    freezing_same : (p : Place) (reason : ℕ) → Same T (freezing again p reason) (freezing free p reason)
    unfolding freezing
    freezing_same p reason = search parts depth 12

    -- Create
    creating_same : (into : Place) (k : ValueKind) (reason : ℕ) → Same T (creating again into k reason) (creating free into k reason)
    unfolding creating
    creating_same into k reason = search parts depth 12

    -- ImmutableCapture
    capturing_immutably_same : (from into : Place) → Same T (capturing_immutably again from into) (capturing_immutably free from into)
    unfolding capturing_immutably
    capturing_immutably_same from into = search parts depth 12

    -- what is listed of a CreateFrom
    list_created_same : (from into : Place) (a : AbstractValue) → Same T (list_created again from into a) (list_created free from into a)
    unfolding list_created
    list_created_same from into a = search (parts, h) depth 12

    -- CreateFrom
    creating_from_same : (from into : Place) → Same T (creating_from again from into) (creating_from free from into)
    unfolding creating_from
    creating_from_same from into = search (parts, list_created_same) depth 12

    -- Assign
    assigning_same : (from into : Place) → Same T (assigning again from into) (assigning free from into)
    unfolding assigning
    assigning_same from into = search (parts, h) depth 12

    -- CreateFunction
    creating_function_same : (captures : List Place) (f : ℕ) (into : Place) → Same T (creating_function again captures f into) (creating_function free captures f into)
    unfolding creating_function
    creating_function_same captures f into = search (parts, h) depth 16

    -- one effect
    act_same : (e : AliasingEffect) → Same T (act again e) (act free e)
    unfolding act
    act_same (Freeze p r) = freezing_same p r
    act_same (Mutate p r) = mutating_same _ _ p
    act_same (MutateConditionally p) = mutating_same _ _ p
    act_same (MutateTransitive p) = mutating_same _ _ p
    act_same (MutateTransitiveConditionally p) = mutating_same _ _ p
    act_same (Capture f i) = flowing_same false _ f i
    act_same (Alias f i) = search (parts, flowing_same) depth 12
    act_same (MaybeAlias f i) = flowing_same true _ f i
    act_same (Assign f i) = assigning_same f i
    act_same (Create i k r) = creating_same i k r
    act_same (CreateFrom f i) = creating_from_same f i
    act_same (ImmutableCapture f i) = capturing_immutably_same f i
    act_same (CreateFunction cs f i) = creating_function_same cs f i
    act_same (MutateFrozen p d) = emit_same _
    act_same (MutateGlobal p d) = emit_same _
    act_same (Impure p d) = emit_same _
    act_same (Render p) = emit_same _

  -- the step of an effect
  step_same : (d : ℕ) (e : AliasingEffect) → Same T (apply_effect d e) (apply_effect d e)
  unfolding apply_effect
  step_same zero e = search touching
  step_same (suc d) e = bind_same (intern_same e) (act_same (step_same d))

  -- ---- an instruction

  -- an early error of a place
  report_early_same : (p : Place) → Same T (report_early p) (report_early p)
  unfolding report_early
  report_early_same p = search parts depth 12

  -- the same, if the place is of the own function's context
  early_error_same : (f : ℕ) (p : Place) → Same T (early_error f p) (early_error f p)
  unfolding early_error function_context
  early_error_same f p = search (parts, report_early_same) depth 12

  -- the early errors of an instruction
  early_errors_same : (o : Option ℕ) → Same T (early_errors o) (early_errors o)
  unfolding early_errors
  early_errors_same None = search touching
  early_errors_same (Some f) = search (touching, early_error_same) depth 12

  -- an undefined lvalue becomes defined
  define_lvalue_same : (i : ℕ) → Same T (define_lvalue i) (define_lvalue i)
  unfolding define_lvalue
  define_lvalue_same i = search (touching, define_same) depth 12

  -- the run of an instruction
  -- its entries go into the session, as the tables count them
  run_same : (ins : Instruction) → Same T (run ins) (run ins)
  unfolding run
  run_same ins = then_same (early_errors_same ins.own) (then_same (each_same ins.candidates (step_same 4)) (then_same (define_lvalue_same _) (change_same _ _ (λ r. refl))))

  -- the call for an instruction: what it does without limits, as the tables have it
  pub signature_same : (ins : Instruction) → Same T (apply_signature ins) (apply_signature ins)
  unfolding apply_signature start_instruction list_all count_all
  signature_same ins = then_same (change_same _ _ (λ r. refl)) (atomically_same (run_same ins))

-- ---- "Its walk entries are those of the last instruction that wasn't refused": what the session tells

module _ {T : Tables} where
  -- the session that a computation ends with
  abbrev pub session_after : {A : Type 0} → Res (World T) A → Session
  session_after (ok a w) = w.rest.session
  session_after (refused n w) = w.rest.session

  -- where it goes on, the session tells the entries of the work
  -- after a refusal it is as before, and nothing is said here
  abbrev Told : Res (World T) Done → Type 0
  Told (ok a w) = w.rest.session.entries ≡ w.rest.work.entries
  Told (refused n w) = Unit {0}

  -- what ends with such a computation is one
  then_told : (m n : M (World T) Done) → ((w : World T) → Told (n w)) → (w : World T) → Told ((m >> n) w)
  unfolding ◌>>◌ ◌>>=◌ and_then
  then_told m n h w = go (m w)
    where
      go : (r : Res (World T) Done) → Told (and_then r (λ _. n))
      go (ok a u) = h u
      go (refused k u) = tt

  -- a run ends with telling its entries
  -- `keep_entries`
  run_told : (ins : Instruction) (w : World T) → Told (run ins w)
  unfolding run change
  run_told ins = then_told _ _ (then_told _ _ (then_told _ _ (λ w. refl)))

  -- what bounds the session's entries and the work's bounds what the session tells at the end
  told_most : (b : ℕ) (ins : Instruction) (w : World T) → w.rest.session.entries ≤ b → (after (apply_signature ins w)).entries ≤ b → (session_after (apply_signature ins w)).entries ≤ b
  unfolding apply_signature start_instruction change ◌>>◌ ◌>>=◌ and_then atomically restore
  told_most b ins w h = go (run ins u) (run_told ins u)
    where
      u : World T
      u = record { state = w.state; rest = record { session = w.rest.session; context = w.rest.context; work = started T } }

      go : (r : Res (World T) Done) → Told r → (after (restore u r)).entries ≤ b → (session_after (restore u r)).entries ≤ b
      go (ok a v) t l = omega arith
      go (refused n v) t l = h

-- ---- the lent tables

-- as many entries as a word of 32 bits can count are all counted
count_all_is : (n : ℕ) → n ≤ 4294967295 → count_all lent n ≡ n
unfolding count_all one_more
count_all_is zero l = refl
count_all_is (suc n) l = ap one_more (count_all_is n (omega arith)) ∙ ite_lt n 4294967295 (suc n) n l

-- an effect listed where a word of 32 bits can count it is one more
list_one : (l : Listed) (e : AliasingEffect) → l.count < 4294967295 → (put_listed l e).count ≡ suc l.count
unfolding put_listed
list_one l e h = ap (λ (m : Listed). m.count) (ite_lt l.count 4294967295 _ l h)

-- as many effects as a word of 32 bits can count are all listed
list_all_is : (l : Listed) (es : List AliasingEffect) → l.count + length es ≤ 4294967295 → (list_all lent l es).count ≡ l.count + length es
unfolding list_all
list_all_is l [] h = omega arith
list_all_is l (e ∷ es) h =
    let p : (put_listed l e).count ≡ suc l.count = list_one l e (omega arith) in
    let q = list_all_is (put_listed l e) es (omega arith) in
    omega arith

-- the same state, session and context over tables without limits
-- nothing done yet: an instruction starts so
abbrev pub freed : World lent → World (unlimited lent)
freed w = record {
  state = record { values = w.state.values; sets = w.state.sets; is_function_expression = w.state.is_function_expression };
  rest = record { session = w.rest.session; context = w.rest.context; work = started (unlimited lent) };
}

-- what an instruction does from a world without limits
-- its outcome lists effects as a list, and counts entries as a number
abbrev pub freely : Instruction → World lent → Res (World (unlimited lent)) Done
freely ins w = apply_signature {T = unlimited lent} ins (freed w)

-- nothing is lost: the outcome over lent tables is the one without limits, its effects listed one after the other; there are at most 1,120,
-- the count is theirs, and so are the entries, of the work and as the session tells them
pub record Lossless (ins : Instruction) (w : World lent) : Type 0 where
  pub outcome : apply_signature ins w ≡ limited lent (freely ins w)
  pub suffices : length (after (freely ins w)).listed ≤ 1120
  pub listed : (after (apply_signature ins w)).listed.count ≡ length (after (freely ins w)).listed
  pub entered : (after (apply_signature ins w)).entries ≡ (after (freely ins w)).entries
  pub told : (session_after (apply_signature ins w)).entries ≡ (session_after (freely ins w)).entries

-- an instruction starts its work anew, so that it does the same from the world without limits
-- the session's entries are a word
starts_alike : (ins : Instruction) (w : World lent) → w.rest.session.entries ≤ 4294967295 → apply_signature ins w ≡ apply_signature ins (limit lent (freed w))
unfolding apply_signature start_instruction change ◌>>◌ ◌>>=◌ and_then
starts_alike ins w h = ap (λ (n : ℕ). atomically (run ins) (from n)) (sym (count_all_is w.rest.session.entries h))
  where
    from : ℕ → World lent
    from n = record {
      state = w.state;
      rest = record { session = record { next = w.rest.session.next; access = w.rest.session.access; span = w.rest.session.span; entries = n }; context = w.rest.context; work = started lent };
    }

-- the work at the end of an outcome
after_limited : (r : Res (World (unlimited lent)) Done) → after (limited lent r) ≡ limit_work lent (after r)
after_limited (ok a w) = refl
after_limited (refused n w) = refl

-- the session at the end of an outcome
session_limited : (r : Res (World (unlimited lent)) Done) → session_after (limited lent r) ≡ limit_session lent (session_after r)
session_limited (ok a w) = refl
session_limited (refused n w) = refl

-- an instruction that fits the lent context fits it without limits
fits_freely : (ins : Instruction) (c : lent.Context) → Fits lent ins c → Fits (unlimited lent) ins c
unfolding mutated
fits_freely ins c f = record { few = f.few; captures = f.captures; inside = go ins.own f.inside }
  where
    go : (o : Option ℕ) → mutated lent o c ≤ 32 → mutated (unlimited lent) o c ≤ 32
    go None l = l
    go (Some g) l = l

-- "The output list has 1,120 records (32 + 64 × 17, so it suffices)": over lent tables nothing is lost
-- for every instruction of the document's sizes, refused or not; the session's entries are a word
pub lossless : (ins : Instruction) (w : World lent) → Fits lent ins w.rest.context → w.rest.session.entries ≤ 4294967295 → Lossless ins w
lossless ins w f h = record {
  outcome = same;
  suffices = few;
  listed = ap (λ (k : Work lent). k.listed.count) work ∙ list_all_is lent.none_listed (after (freely ins w)).listed few_counted ∙ zero-add _;
  entered = ap (λ (k : Work lent). k.entries) work ∙ count_all_is (after (freely ins w)).entries rare;
  told = ap (λ (s : Session). s.entries) (ap session_after same ∙ session_limited (freely ins w)) ∙ count_all_is (session_after (freely ins w)).entries (told_most 4294967295 ins (freed w) h rare);
}
  where
    same : apply_signature ins w ≡ limited lent (freely ins w)
    same = starts_alike ins w h ∙ (signature_same {T = lent} ins).same (freed w)

    work : after (apply_signature ins w) ≡ limit_work lent (after (freely ins w))
    work = ap after same ∙ after_limited (freely ins w)

    few : length (after (freely ins w)).listed ≤ 1120
    few = le_trans (listed_most {T = unlimited lent} found_under length (λ l e. let q = append_length l e in omega arith) ins (freed w) (fits_freely ins w.rest.context f) refl) (let n = f.few in omega arith)

    few_counted : lent.none_listed.count + length (after (freely ins w)).listed ≤ 4294967295
    few_counted = let n = few in omega arith

    rare : (after (freely ins w)).entries ≤ 4294967295
    rare = le_trans (entries_most {T = unlimited lent} found_under (λ n. omega arith) ins (freed w)) (let n = f.few in omega arith)
