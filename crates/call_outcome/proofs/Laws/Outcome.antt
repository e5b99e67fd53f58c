-- What the code answers and leaves is the definition's outcome; and after a refusal everything is as before. Assumes nothing.
use Rattle.std.specs.Prelude.{ℕ, zero, suc, ◌/◌, ◌≤◌, ◌≡◌, Bool, true, false, ltb, Result, Ok, Err}
use Rattle.std.proofs.Common.{arith, ◌∙◌, subst, ⊎_elim, ltb-false}
use Rattle.std.proofs.Math.Path.{refl, sym, ap, ap₂}
use mathlib.Core.List.{List}
use Rattle.std.proofs.Math.ListN.{length}
use Rattle.base_tests.proofs.Laws.Order.{same_or_not}
use Rattle.refuse_class.proofs.Laws.Class.{lower_0}
use Rattle.refuse_words.specs.Classes.{earns}
use Rattle.refuse_instruction.specs.EffectClasses.{instruction_class}
use Rattle.base_tests.proofs.Laws.Choice.{ite_eq, ite_ne}
use Rattle.lent_copies.specs.Copies.{zeros}
use Rattle.def_effects.specs.declared.Place.{Place}
use Rattle.def_effects.specs.declared.Session.{Session}
use Rattle.def_transfer.specs.Monad.{Res, ok, refused, Done, and_then, ◌>>=◌, ◌>>◌, restore, atomically}
use Rattle.def_transfer.specs.State.{change}
use Rattle.def_transfer.specs.Tables.{World}
use Rattle.def_transfer.specs.Instruction.{start_instruction, run, apply_signature}
use Rattle.laws_monad.specs.Answers.{answer}
use Rattle.laws_monad.proofs.Laws.Answers.{answer_ok, answer_refused}
use Rattle.lent_work.specs.declared.Run.{Run}
use Rattle.lent_layout.specs.Context.{ContextWords}
use Rattle.lent_world.specs.World.{lent, world}
use Rattle.lent_world.proofs.Laws.LentIsolation.{after}
use Rattle.refuse_entries.specs.Words.{identifiers}
use Rattle.refuse_entries.proofs.Laws.Accepted.{accepted_lent}
use Rattle.call_parts.specs.Instructions.{instruction_of}
use Rattle.call_outcome.specs.Calls.{Call, Outcome, call, given, room_for, candidate_count, call_class, lent_instruction, start_run, lent_world, refused_with, concluded, outcome, told}
use Rattle.call_outcome.specs.declared.Applied.{Applied}
use Rattle.def_refusals.specs.declared.Refusal.{Refusal}
use Rattle.def_refusals.specs.Verdicts.{number_of, class_of}
use Rattle.call_outcome.specs.Attempts.{run_or, Ready}
use Rattle.call_outcome.proofs.Laws.Class.{lengths_right, right_length, class_0, effects_after, diagnostics_after}
use Rattle.call_outcome.proofs.Laws.Attempt.{applies}

-- an instruction that no class refuses has no more than 64 candidates
-- "a count is above its limit"
few : (n f : ℕ) (cs : ContextWords) (xs : List ℕ) (count : ℕ) (p : Place) (own : ℕ) → instruction_class n f cs xs count p own ≡ 0 → count ≤ 64
unfolding instruction_class
few n f cs xs count p own e = go (ltb 64 count) refl (lower_0 _ _ e).0
  where
    go : (b : Bool) → ltb 64 count ≡ b → earns 2 b ≡ 0 → count ≤ 64
    go true h g = absurd (omega arith)
    go false h g = ltb-false 64 count h

-- what the call answers of what its run does
abbrev pub Ends : Result Run Refusal → Result Applied Refusal → Type 0
Ends (Ok r) (Ok a) = a ≡ record { count = r.listed; entries = r.entries; session = r.session; flag = r.flag }
Ends (Ok r) (Err q) = ⊥
Ends (Err q) (Ok a) = ⊥
Ends (Err q) (Err w) = w ≡ q

-- a call, by its parts
-- in the order of the function's parameters
module _ (vs ss : List ℕ) (flag : Bool) (cs : ContextWords) (s : Session) (xs : List ℕ) (p : Place) (own : ℕ) (os s64 s32 : List ℕ) where
  abbrev c : Call
  c = call vs ss flag cs s xs p own os s64 s32

  -- what no class refuses is ready to run, once the output list is zero
  -- lengths, and the words after the last interned effect
  pub is_ready : (zs : List ℕ) → call_class c ≡ 0 → zs ≡ zeros (length os) → Ready vs ss cs zs xs s64 s32
  unfolding identifiers
  is_ready zs e z =
      let a = class_0 vs ss flag cs s xs p own os s64 s32 e in
      let l = lengths_right c a.0 in
      let g = right_length (identifiers ss) (room_for cs xs) cs l.0 in
      let h = accepted_lent vs ss s.next s.access a.1 in record {
        count = length ss / 16;
        values = h.values_length;
        sets = h.sets_length;
        most = h.most;
        contexts = g.contexts.most;
        links = let x = g.links.room_there in let y = g.links.most in omega arith;
        keys = g.keys.most;
        key_order = g.key_order.most;
        effect_order = let y = g.effect_order.most in omega arith;
        effects_after = effects_after (identifiers ss) cs s.next a.2 g.effects.most;
        diagnostics_after = diagnostics_after (identifiers ss) cs s.next a.2 g.diagnostics;
        output = z ∙ ap zeros l.2;
        candidates = few (identifiers ss) cs.function_count cs xs (candidate_count xs) p own a.3;
        scratch64 = l.4;
        scratch32 = l.3;
      }

  -- a class refuses
  pub outcome_refused : (class : ℕ) (zs t64 t32 : List ℕ) → class ≡ call_class c → (class ≡ 0 → ⊥) → zs ≡ zeros (length os) → t64 ≡ zeros (length s64) → t32 ≡ zeros (length s32)
      → given (record { refusal = class; count = 0; entries = 0; session = s; flag = flag }) vs ss cs zs t64 t32 ≡ outcome c
  unfolding outcome
  outcome_refused class zs t64 t32 e n hz h64 h32 =
      ap₂ (λ (m : ℕ) (x : List ℕ). given (record { refusal = m; count = 0; entries = 0; session = s; flag = flag }) vs ss cs x t64 t32) e hz
      ∙ ap₂ (λ (x y : List ℕ). given (record { refusal = call_class c; count = 0; entries = 0; session = s; flag = flag }) vs ss cs (zeros (length os)) x y) h64 h32
      ∙ sym (ite_ne (call_class c) 0 (concluded c (apply_signature (lent_instruction c) (lent_world c))) (refused_with (call_class c) c) (λ q. n (e ∙ q)))

  -- the output list is set to zero before the instruction runs
  cleared : (zs : List ℕ) → apply_signature (lent_instruction c) (world vs ss cs zs (start_run s flag)) ≡ apply_signature (lent_instruction c) (lent_world c)
  unfolding apply_signature start_instruction change ◌>>◌ ◌>>=◌ and_then atomically
  cleared zs = refl

  -- no class refuses: the transfer decides
  pub outcome_runs : (class : ℕ) (zs us ts : List ℕ) (ds : ContextWords) (ps t64 t32 : List ℕ) (n64 n32 q : ℕ) (r : Run) → class ≡ call_class c → class ≡ 0 → zs ≡ zeros (length os)
      → (Ready vs ss cs zs xs s64 s32 → apply_signature (instruction_of xs (candidate_count xs) p own) (world vs ss cs zs (start_run s flag)) ≡ answer q tt (world us ts ds ps r))
      → n64 ≡ length s64 → n32 ≡ length s32 → t64 ≡ zeros n64 → t32 ≡ zeros n32
      → given (record { refusal = q; count = r.listed; entries = r.entries; session = r.session; flag = r.flag }) us ts ds ps t64 t32 ≡ outcome c
  unfolding outcome restore
  outcome_runs class zs us ts ds ps t64 t32 n64 n32 q r e z hz h k64 k32 h64 h32 =
      ap₂ (λ (x y : List ℕ). given (record { refusal = q; count = r.listed; entries = r.entries; session = r.session; flag = r.flag }) us ts ds ps x y) (h64 ∙ ap zeros k64) (h32 ∙ ap zeros k32)
      ∙ by_answer q (ends e0)
      ∙ sym (ite_eq (call_class c) 0 (concluded c (apply_signature (lent_instruction c) (lent_world c))) (refused_with (call_class c) c) e0)
    where
      e0 : call_class c ≡ 0
      e0 = sym e ∙ z

      ends : call_class c ≡ 0 → apply_signature (lent_instruction c) (world vs ss cs zs (start_run s flag)) ≡ answer q tt (world us ts ds ps r)
      ends y = h (is_ready zs y hz)

      right : zs ≡ zeros 109760
      right = (is_ready zs e0 hz).output

      by_answer : (m : ℕ) → apply_signature (lent_instruction c) (world vs ss cs zs (start_run s flag)) ≡ answer m tt (world us ts ds ps r)
          → given (record { refusal = m; count = r.listed; entries = r.entries; session = r.session; flag = r.flag }) us ts ds ps (zeros (length s64)) (zeros (length s32))
          ≡ concluded c (apply_signature (lent_instruction c) (lent_world c))
      by_answer zero g = sym (ap (concluded c) (sym (cleared zs) ∙ g ∙ answer_ok zero tt (world us ts ds ps r) refl))
      by_answer (suc m) g =
          ap (λ (w : World lent). given (record { refusal = suc m; count = w.rest.work.listed.count; entries = w.rest.work.entries; session = w.rest.session; flag = w.state.is_function_expression })
          w.state.values w.state.sets w.rest.context w.rest.work.listed.words (zeros (length s64)) (zeros (length s32)))
          (as_before (run (lent_instruction c) (world vs ss cs zs (start_run s flag))) (sym (applies (lent_instruction c) vs ss cs zs s flag right) ∙ g ∙ answer_refused (suc m) tt (world us ts ds ps r) (λ y. omega arith)))
          ∙ ap (λ (x : List ℕ). given (record { refusal = suc m; count = 0; entries = 0; session = s; flag = flag }) vs ss cs x (zeros (length s64)) (zeros (length s32))) hz
          ∙ sym (ap (concluded c) (sym (cleared zs) ∙ g ∙ answer_refused (suc m) tt (world us ts ds ps r) (λ y. omega arith)))
        where
          as_before : (x : Res (World lent) Done) → restore (world vs ss cs zs (start_run s flag)) x ≡ refused (suc m) (world us ts ds ps r) → world us ts ds ps r ≡ world vs ss cs zs (start_run s flag)
          as_before (ok a w) y = absurd (no_ok w y)
            where
              is_ok : Res (World lent) Done → Type 0
              is_ok (ok b v) = Unit {0}
              is_ok (refused n v) = ⊥

              no_ok : (w : World lent) → ok a w ≡ refused (suc m) (world us ts ds ps r) → ⊥
              no_ok w y = subst is_ok y tt
          as_before (refused n w) y = sym (ap after y)

  -- the same of what the run answers, and of what the call answers then
  pub outcome_told : (class : ℕ) (zs us ts : List ℕ) (ds : ContextWords) (ps t64 t32 : List ℕ) (n64 n32 : ℕ) (ran : Result Run Refusal) (a : Result Applied Refusal) → class ≡ call_class c → class ≡ 0 → zs ≡ zeros (length os)
      → (Ready vs ss cs zs xs s64 s32 → apply_signature (instruction_of xs (candidate_count xs) p own) (world vs ss cs zs (start_run s flag)) ≡ answer (class_of ran) tt (world us ts ds ps (run_or (start_run s flag) ran)))
      → n64 ≡ length s64 → n32 ≡ length s32 → t64 ≡ zeros n64 → t32 ≡ zeros n32 → Ends ran a
      → given (told s flag a) us ts ds ps t64 t32 ≡ outcome c
  outcome_told class zs us ts ds ps t64 t32 n64 n32 (Ok r) (Ok a) e z hz h k64 k32 h64 h32 ends =
      ap (λ (x : Applied). given (told s flag (Ok x)) us ts ds ps t64 t32) ends ∙ outcome_runs class zs us ts ds ps t64 t32 n64 n32 0 r e z hz h k64 k32 h64 h32
  outcome_told class zs us ts ds ps t64 t32 n64 n32 (Ok r) (Err q) e z hz h k64 k32 h64 h32 ends = absurd ends
  outcome_told class zs us ts ds ps t64 t32 n64 n32 (Err q) (Ok a) e z hz h k64 k32 h64 h32 ends = absurd ends
  outcome_told class zs us ts ds ps t64 t32 n64 n32 (Err q) (Err w) e z hz h k64 k32 h64 h32 ends =
      ap (λ (x : Refusal). given (told s flag (Err x)) us ts ds ps t64 t32) ends ∙ outcome_runs class zs us ts ds ps t64 t32 n64 n32 (number_of q) (start_run s flag) e z hz h k64 k32 h64 h32

-- ---- what a refusal leaves

-- after a refusal state, context and session are as before, output list and scratch zero, effects and count zero
pub refused_as_before : (c : Call) → ((outcome c).applied.refusal ≡ 0 → ⊥) → outcome c ≡ refused_with (outcome c).applied.refusal c
unfolding outcome
refused_as_before c n = ⊎_elim runs (λ h. by_class (ite_ne (call_class c) 0 (concluded c (apply_signature (lent_instruction c) (lent_world c))) (refused_with (call_class c) c) h)) (same_or_not (call_class c) 0)
  where
    by_class : outcome c ≡ refused_with (call_class c) c → outcome c ≡ refused_with (outcome c).applied.refusal c
    by_class e = e ∙ ap (λ (m : ℕ). refused_with m c) (sym (ap (λ (x : Outcome). x.applied.refusal) e))

    decided : (x : Res (World lent) Done) → outcome c ≡ concluded c x → outcome c ≡ refused_with (outcome c).applied.refusal c
    decided (ok a w) e = absurd (n (ap (λ (x : Outcome). x.applied.refusal) e))
    decided (refused m w) e = e ∙ ap (λ (k : ℕ). refused_with k c) (sym (ap (λ (x : Outcome). x.applied.refusal) e))

    runs : call_class c ≡ 0 → outcome c ≡ refused_with (outcome c).applied.refusal c
    runs z = decided (apply_signature (lent_instruction c) (lent_world c)) (ite_eq (call_class c) 0 (concluded c (apply_signature (lent_instruction c) (lent_world c))) (refused_with (call_class c) c) z)
