-- The run of an instruction and what is put back after a refusal: together the definition's `apply_signature`. Assumes nothing.
use Rattle.std.specs.Prelude.{ℕ, ◌≡◌, Bool, List, length}
use Rattle.std.proofs.Common.{arith, ap₂, ◌∙◌, subst}
use Rattle.std.proofs.Math.Path.{sym, ap}
use Rattle.lent_copies.specs.Copies.{zeros, copied}
use Rattle.def_effects.specs.declared.Place.{Place}
use Rattle.def_effects.specs.declared.Session.{Session}
use Rattle.def_transfer.specs.Monad.{Res, ok, refused, Done, and_then, ◌>>=◌, ◌>>◌, restore, atomically}
use Rattle.def_transfer.specs.Tables.{World}
use Rattle.def_transfer.specs.State.{change}
use Rattle.def_transfer.specs.Instruction.{Instruction, start_instruction, run, apply_signature}
use Rattle.laws_monad.specs.Answers.{answer}
use Rattle.laws_monad.proofs.Laws.Answers.{answer_refused}
use Rattle.lent_work.specs.declared.Run.{Run}
use Rattle.lent_layout.specs.Context.{ContextWords}
use Rattle.lent_world.specs.World.{lent, world}
use Rattle.lent_world.proofs.Laws.LentIsolation.{LentEnded, lent_ends}
use Rattle.call_parts.specs.Instructions.{instruction_of}
use Rattle.call_undo.specs.declared.Lengths.{Lengths}
use Rattle.call_undo.specs.declared.Used.{Used}
use Rattle.call_undo.specs.Saves.{saved_state, saved_context, restored_context, used}
use Rattle.call_undo.proofs.Laws.Save.{values_restored, sets_restored, Whole, context_restored}
use Rattle.call_outcome.specs.Calls.{candidate_count, start_run}
use Rattle.call_outcome.specs.Attempts.{at_most, lengths_of, Ready}
use Rattle.call_outcome.proofs.Laws.Class.{most_within}

-- ---- the transfer from its start

-- from an output list of zeros the transfer is the run, put back where it is refused
-- nothing else has to be set
pub applies : (ins : Instruction) (vs ss : List ℕ) (cs : ContextWords) (os : List ℕ) (s : Session) (flag : Bool) → os ≡ zeros 109760 → apply_signature ins (world vs ss cs os (start_run s flag)) ≡ restore (world vs ss cs os (start_run s flag)) (run ins (world vs ss cs os (start_run s flag)))
unfolding apply_signature start_instruction change ◌>>◌ ◌>>=◌ and_then atomically
applies ins vs ss cs os s flag e = ap (λ (x : List ℕ). restore (world vs ss cs x (start_run s flag)) (run ins (world vs ss cs x (start_run s flag)))) (sym e)

-- ---- an attempt

-- lists that are ready, and the run of an instruction
module _ (vs ss : List ℕ) (cs : ContextWords) (os xs s64 s32 : List ℕ) (ready : Ready vs ss cs os xs s64 s32) (p : Place) (own : ℕ) (s : Session) (flag : Bool) where
  abbrev ins : Instruction
  ins = instruction_of xs (candidate_count xs) p own

  abbrev start : World lent
  start = world vs ss cs os (start_run s flag)

  -- the code counts candidates in 32 bits
  -- there are no more than 64
  counts : (n : ℕ) → n ≡ at_most 64 (candidate_count xs) → instruction_of xs n p own ≡ ins
  counts n e = ap (λ (k : ℕ). instruction_of xs k p own) (e ∙ sym (most_within 64 (candidate_count xs) ready.candidates))

  module _ (n : ℕ) (r : Run) (us ts : List ℕ) (ds : ContextWords) (ps : List ℕ) (b : Run) (hn : n ≡ at_most 64 (candidate_count xs)) (hr : r ≡ start_run s flag) where
    -- the run as the definition has it
    ran : (x : Res (World lent) Done) → run (instruction_of xs n p own) (world vs ss cs os r) ≡ x → run ins start ≡ x
    ran x h = ap₂ (λ (i : Instruction) (y : Run). run i (world vs ss cs os y)) (sym (counts n hn)) (sym hr) ∙ h

    -- the transfer from the run that the code begins with
    started : (x : Res (World lent) Done) → run (instruction_of xs n p own) (world vs ss cs os r) ≡ x → apply_signature ins (world vs ss cs os r) ≡ restore start x
    started x h = ap (λ (y : Run). apply_signature ins (world vs ss cs os y)) hr ∙ applies ins vs ss cs os s flag ready.output ∙ ap (restore start) (ran x h)

    -- it is not refused
    pub attempt_ends : run (instruction_of xs n p own) (world vs ss cs os r) ≡ ok tt (world us ts ds ps b) → apply_signature ins (world vs ss cs os r) ≡ ok tt (world us ts ds ps b)
    unfolding restore
    attempt_ends h = started _ h

    -- it is refused
    module _ (q : ℕ) (h : run (instruction_of xs n p own) (world vs ss cs os r) ≡ refused q (world us ts ds ps b)) where
      -- how it ends: lists of the same lengths, a context made of the one that was lent
      ended : LentEnded ready.count cs (refused q (world us ts ds ps b))
      ended = subst (LentEnded ready.count cs) (ran _ h) (lent_ends ready.count ins start (record { values = ready.values; sets = ready.sets; links = let z = ready.links in omega arith }))

      pub attempt_refused : (m : ℕ) (l : Lengths) (u : Used) (t64 t32 us' ts' : List ℕ) (ds' : ContextWords) (ps' : List ℕ) → m ≡ at_most 8192 (length ss) → l ≡ lengths_of cs → u ≡ used cs
          → t64 ≡ saved_state vs ss m s64 → t32 ≡ saved_context l cs s32
          → us' ≡ copied t64 0 0 1024 us → ts' ≡ copied t64 1024 0 m ts → ds' ≡ restored_context l u t32 ds → ps' ≡ zeros (length ps) → length ps ≡ length os
          → apply_signature ins (world vs ss cs os r) ≡ refused q (world us' ts' ds' ps' r)
      unfolding restore
      attempt_refused m l u t64 t32 us' ts' ds' ps' hm hl hw h64 h32 hu ht hd hp long = started _ h ∙ ap (refused q) (sym back)
        where
          same : m ≡ length ss
          same = hm ∙ sym (most_within 8192 (length ss) (let a = ready.sets in let c = ready.most in omega arith))

          values : us' ≡ vs
          values =
              hu ∙ ap (λ (x : List ℕ). copied x 0 0 1024 us) h64
              ∙ values_restored vs ss m s64 ready.values (sym same) (omega (arith, same, ready.scratch64)) us ended.values

          sets : ts' ≡ ss
          sets =
              ht ∙ ap (λ (x : List ℕ). copied x 1024 0 m ts) h64
              ∙ sets_restored vs ss m s64 ready.values (sym same) (omega (arith, same, ready.scratch64)) ts (ended.sets ∙ sym ready.sets ∙ sym same)

          -- each table is saved whole
          whole : Whole (lengths_of cs) cs
          whole = record {
            contexts = most_within 5120 (length cs.contexts) ready.contexts;
            links = most_within 1024 (length cs.links) (let z = ready.links in omega arith);
            keys = most_within 14336 (length cs.keys) ready.keys;
            key_order = most_within 512 (length cs.key_order) ready.key_order;
            effect_order = most_within 2048 (length cs.effect_order) ready.effect_order;
          }

          context : ds' ≡ cs
          context =
              hd
              ∙ ap₂ (λ (x : Lengths) (y : Used). restored_context x y t32 ds) hl hw
              ∙ ap (λ (x : List ℕ). restored_context (lengths_of cs) (used cs) x ds) (h32 ∙ ap (λ (x : Lengths). saved_context x cs s32) hl)
              ∙ context_restored (lengths_of cs) cs ds s32 ready.scratch32 whole ended.kept ready.effects_after ready.diagnostics_after

          output : ps' ≡ os
          output = hp ∙ ap zeros (long ∙ ap length ready.output ∙ Rattle.lent_copies.proofs.Laws.Copy.zeros_length 109760) ∙ sym ready.output

          back : world us' ts' ds' ps' r ≡ start
          back = ap₂ (λ (x y : List ℕ). world x y ds' ps' r) values sets ∙ ap₂ (λ (x : ContextWords) (y : List ℕ). world vs ss x y r) context output ∙ ap (world vs ss cs os) hr

-- ---- what the host finds

-- the lists that are lent are what the world's slices hold at the end, and an instruction begins with nothing done
module _ (ins : Instruction) (vs ss : List ℕ) (cs : ContextWords) (os : List ℕ) (start r b : Run) (e : r ≡ start) (us ts : List ℕ) (ds : ContextWords) (ps us' ts' : List ℕ) (ds' : ContextWords) (ps' : List ℕ) (hu : us' ≡ us) (ht : ts' ≡ ts) (hd : ds' ≡ ds) (hp : ps' ≡ ps) where
  found : world us ts ds ps b ≡ world us' ts' ds' ps' b
  found = ap₂ (λ (x y : List ℕ). world x y ds ps b) (sym hu) (sym ht) ∙ ap₂ (λ (x : ContextWords) (y : List ℕ). world us' ts' x y b) (sym hd) (sym hp)

  pub found_ok : apply_signature ins (world vs ss cs os r) ≡ ok tt (world us ts ds ps b) → apply_signature ins (world vs ss cs os start) ≡ answer 0 tt (world us' ts' ds' ps' b)
  unfolding answer
  found_ok h = ap (λ (x : Run). apply_signature ins (world vs ss cs os x)) (sym e) ∙ h ∙ ap (ok tt) found

  pub found_refused : (q : ℕ) → (q ≡ 0 → ⊥) → b ≡ r → apply_signature ins (world vs ss cs os r) ≡ refused q (world us ts ds ps b) → apply_signature ins (world vs ss cs os start) ≡ answer q tt (world us' ts' ds' ps' start)
  found_refused q z k h =
      ap (λ (x : Run). apply_signature ins (world vs ss cs os x)) (sym e) ∙ h ∙ ap (refused q) (found ∙ ap (world us' ts' ds' ps') (k ∙ e))
      ∙ sym (answer_refused q tt (world us' ts' ds' ps' start) z)
