-- Laws by which the functions from the bytes of an image to what is shown of it meet their definitions, one for each way through. Assumes nothing.
use Rattle.std.specs.Prelude.{ℕ, ◌+◌, ◌-◌, ◌%◌, ◌≤◌, ◌≡◌, Bool, not, ◌||◌, eqb, ltb, length, take, drop, Result, Ok, Err}
use Rattle.std.specs.Result.{is_err}
use Rattle.std.proofs.Common.{arith, ◌∙◌, length-drop, drop_of_length-le, length-take-le, take_at}
use Rattle.std.proofs.Math.Path.{refl, sym, ap, ap₂}
use Rattle.std.proofs.Math.Bool.{true, false}
use mathlib.Core.List.{List, [], ◌++◌, append-nil}
use Rattle.std.proofs.Math.Seq.{length_front}
use borrow.Author.Tests.{eqb-true, ltb-false, not-false}
use Rattle.std.proofs.Math.Logic.{⊎_elim}
use Rattle.base_tests.proofs.Laws.Order.{same_or_not}
use Rattle.base_tests.proofs.Laws.Bool.{or_no_first, or_no_second}
use Rattle.lent_layout.specs.Layout as Layout
use Rattle.lent_layout.specs.Context.{ContextWords, is_full, no_context}
use Rattle.lent_copies.proofs.Laws.Copy.{zeros_length}
use Rattle.base_tests.specs.Tests.{ite}
use Rattle.base_tests.proofs.Laws.Choice.{ite_eq, ite_ne}
use Rattle.lent_copies.specs.Copies.{zeros}
use Rattle.def_image.specs.Layout.{Image, wrong_length, words_of, count_of, identifiers, candidates, functions}
use Rattle.def_image.specs.Refusals.{earns_two, wrong_header, wrong_edition, too_many_records, refusal_of_words, refusal_of}
use Rattle.def_refusals.specs.declared.Refusal.{Refusal}
use Rattle.def_refusals.specs.Verdicts.{number_of}
use Rattle.def_refusals.proofs.Laws.Verdicts.{number_some}
use Rattle.image_job.specs.declared.Job.{Job}
use Rattle.call_outcome.specs.Calls.{Answered}
use Rattle.def_effects.specs.declared.Place.{Place}
use Rattle.def_effects.specs.declared.Session.{Session}
use Rattle.def_transfer.specs.Monad.{and_then, ◌>>=◌, ◌>>◌, atomically, Res, ok, refused, Done}
use Rattle.def_transfer.specs.State.{change}
use Rattle.def_transfer.specs.Instruction.{start_instruction, apply_signature}
use Rattle.def_transfer.specs.Tables.{World}
use Rattle.lent_world.specs.World.{lent}
use Rattle.refuse_entries.specs.Words as States
use Rattle.refuse_entries.specs.Words.{state_refusal}
use Rattle.refuse_class.specs.Class.{lower}
use Rattle.refuse_words.specs.Classes.{earns}
use Rattle.refuse_instruction.specs.EffectClasses.{instruction_class}
use Rattle.refuse_records.specs.Accepting.{context_class}
use Rattle.call_undo.specs.Saves.{saved_words}
use Rattle.call_outcome.specs.Attempts.{lengths_of}
use Rattle.call_outcome.specs.Calls.{Call, Outcome, call, given, room_for, context_wrong, lengths_wrong, candidate_count, call_class, lent_instruction, lent_world, concluded, outcome}
use Rattle.image_pieces.specs.declared.Shown.{Shown}
use Rattle.image_pieces.specs.Pieces.{Answer, refused_as, answer_of}
use Rattle.image_job.specs.Reading.{Said, said_of, Tables, tables, Read, given as given_read, job_of, filled, no_job, lent_wrong, read_class, read_image}
use Rattle.image_outcome.proofs.Laws.Full.{full_lengths, no_context_full, emptied_full}
use Rattle.image_outcome.specs.Inferring.{empty, set_words, candidate_words, job_call, image_call, memory_wrong, any_wrong, Left, left, answered, keeps, settled, nothing, leaves, Fits}

-- ---- what is shown of a call

-- what is shown of a call that is refused
-- one way through `shown_of`
pub answered_refused : (a : Answered) (r : Answer) → (a.refusal ≡ 0 → ⊥) → r ≡ refused_as a.refusal → r ≡ answered a
unfolding answered
answered_refused a r h e = e ∙ sym (ite_ne a.refusal 0 _ _ h)

-- and of one that is not
pub answered_ran : (a : Answered) → a.refusal ≡ 0 → record { refusal = 0; count = a.count; entries = a.entries; access = a.session.access } ≡ answered a
unfolding answered
answered_ran a h = sym (ite_eq a.refusal 0 _ _ h)

module _ (s : Answer) (vs ss os : List ℕ) where
  -- nothing is cleared
  -- one way through `settle` each
  pub settled_same : s.refusal ≡ 0 → left s vs ss os ≡ settled (left s vs ss os)
  unfolding settled
  settled_same h = sym (ite_eq s.refusal 0 _ _ h)

  -- everything is
  pub settled_zero : (us ts ps : List ℕ) → (s.refusal ≡ 0 → ⊥) → us ≡ zeros (length vs) → ts ≡ zeros (length ss) → ps ≡ zeros (length os) → left s us ts ps ≡ settled (left s vs ss os)
  unfolding settled
  settled_zero us ts ps h a b c =
      ap₂ (λ (x y : List ℕ). left s x y ps) a b ∙ ap (left s (zeros (length vs)) (zeros (length ss))) c ∙ sym (ite_ne s.refusal 0 _ _ h)

module _ (vs ss os : List ℕ) where
  -- the same of what the code answers
  pub settled_shown : (a : Result Shown Refusal) → is_err a ≡ false → left (answer_of a) vs ss os ≡ settled (left (answer_of a) vs ss os)
  settled_shown (Ok s) h = settled_same (answer_of (Ok s)) vs ss os refl
  settled_shown (Err n) h = absurd (let z : ◌≡◌ {A = ℕ} 0 1 = cc in omega arith)

  pub settled_refused : (a : Result Shown Refusal) (us ts ps : List ℕ) → is_err a ≡ true → us ≡ zeros (length vs) → ts ≡ zeros (length ss) → ps ≡ zeros (length os) → left (answer_of a) us ts ps ≡ settled (left (answer_of a) vs ss os)
  settled_refused (Ok s) us ts ps h e f g = absurd (let z : ◌≡◌ {A = ℕ} 0 1 = cc in omega arith)
  settled_refused (Err n) us ts ps h e f g = settled_zero (answer_of (Err n)) vs ss os us ts ps (number_some n) e f g

-- ---- the memory of a call

-- what comes of a call does not depend on what its output list and its scratch hold, only on how long they are
-- the one is cleared before the instruction runs, the others are only written before they are read
module _ (vs ss : List ℕ) (flag : Bool) (cs : ContextWords) (s : Session) (xs : List ℕ) (p : Place) (own : ℕ) where
  -- the same call with memory that is empty
  -- by which the instruction and the beginning are named
  abbrev bare : Call
  bare = call vs ss flag cs s xs p own [] [] []

  -- whether a lent list has the wrong length, with memory of given lengths
  lengths : ℕ → ℕ → ℕ → Bool
  lengths a b d =
      context_wrong (States.identifiers ss) (room_for cs xs) cs
      || (not (eqb (length xs % Layout.effect_words) 0)
      || (not (eqb a Layout.output_words) || (not (eqb d (saved_words (lengths_of cs))) || not (eqb b (1024 + length ss)))))

  -- its class, with memory of given lengths
  class : ℕ → ℕ → ℕ → ℕ
  class a b d =
      lower (earns 1 (lengths a b d))
      (lower (state_refusal vs ss s.next s.access)
      (lower (context_class (States.identifiers ss) cs s.next)
      (instruction_class (States.identifiers ss) cs.function_count cs xs (candidate_count xs) p own)))

  -- refused, with memory of given lengths
  refuses : ℕ → ℕ → ℕ → ℕ → Outcome
  refuses n a b d = given (record { refusal = n; count = 0; entries = 0; session = s; flag = flag }) vs ss cs (zeros a) (zeros b) (zeros d)

  -- by how the transfer ends, with memory of given lengths
  -- as `concluded` has it
  ends : ℕ → ℕ → ℕ → Res (World lent) Done → Outcome
  ends a b d (ok x w) =
      given (record { refusal = 0; count = w.rest.work.listed.count; entries = w.rest.work.entries; session = w.rest.session; flag = w.state.is_function_expression })
      w.state.values w.state.sets w.rest.context w.rest.work.listed.words (zeros b) (zeros d)
  ends a b d (refused n w) = refuses n a b d

  -- it is what `concluded` has, by the two ways in which a transfer ends
  ends_is : (os s64 s32 : List ℕ) (r : Res (World lent) Done) → concluded (call vs ss flag cs s xs p own os s64 s32) r ≡ ends (length os) (length s64) (length s32) r
  unfolding ends refuses
  ends_is os s64 s32 (ok x w) = refl
  ends_is os s64 s32 (refused n w) = refl

  -- the beginning does not matter for the output list
  begins : (os s64 s32 : List ℕ) → apply_signature (lent_instruction bare) (lent_world (call vs ss flag cs s xs p own os s64 s32)) ≡ apply_signature (lent_instruction bare) (lent_world bare)
  unfolding apply_signature start_instruction change ◌>>◌ ◌>>=◌ and_then atomically
  begins os s64 s32 = refl

  -- so the outcome goes by the three lengths
  -- and nothing else of the memory
  by_lengths : (os s64 s32 : List ℕ) → outcome (call vs ss flag cs s xs p own os s64 s32) ≡ ite (eqb (class (length os) (length s64) (length s32)) 0) (ends (length os) (length s64) (length s32) (apply_signature (lent_instruction bare) (lent_world bare))) (refuses (class (length os) (length s64) (length s32)) (length os) (length s64) (length s32))
  unfolding outcome call_class class lengths_wrong lengths refuses
  by_lengths os s64 s32 =
      ap (λ (x : Outcome). ite (eqb (class (length os) (length s64) (length s32)) 0) x (refuses (class (length os) (length s64) (length s32)) (length os) (length s64) (length s32)))
      (ends_is os s64 s32 (apply_signature (lent_instruction bare) (lent_world (call vs ss flag cs s xs p own os s64 s32)))
      ∙ ap (ends (length os) (length s64) (length s32)) (begins os s64 s32))

  -- two calls that differ in what their memory holds come to the same
  pub memory_same : (os ps s64 t64 s32 t32 : List ℕ) → length os ≡ length ps → length s64 ≡ length t64 → length s32 ≡ length t32
      → outcome (call vs ss flag cs s xs p own os s64 s32) ≡ outcome (call vs ss flag cs s xs p own ps t64 t32)
  memory_same os ps s64 t64 s32 t32 h g f =
      by_lengths os s64 s32
      ∙ ap (λ (a : ℕ). form a (length s64) (length s32)) h
      ∙ ap₂ (λ (b d : ℕ). form (length ps) b d) g f
      ∙ sym (by_lengths ps t64 t32)
    where
      form : ℕ → ℕ → ℕ → Outcome
      form a b d = ite (eqb (class a b d) 0) (ends a b d (apply_signature (lent_instruction bare) (lent_world bare))) (refuses (class a b d) a b d)

-- ---- a job over the tables that were read

-- the rows, the records and the scratch that the call is lent are those of the job
-- so it comes to what the job's call comes to
job_call_is : (vs ss : List ℕ) (cs : ContextWords) (xs : List ℕ) (j : Said) (os s64 s32 : List ℕ) (m n e : ℕ) → m ≡ set_words j → n ≡ candidate_words j → e ≡ 1024 + m → e ≤ length s64 → length os ≡ Layout.output_words → length s32 ≡ Layout.most_saved
    → outcome (call vs (take m ss) false cs j.session (take n xs) j.lvalue j.own os (take e s64) s32) ≡ outcome (job_call j (tables vs ss cs xs))
unfolding job_call
job_call_is vs ss cs xs j os s64 s32 m n e hm hn he l ho hs =
    ap₂ (λ (a b : ℕ). outcome (call vs (take a ss) false cs j.session (take b xs) j.lvalue j.own os (take e s64) s32)) hm hn
    ∙ memory_same vs (take (set_words j) ss) false cs j.session (take (candidate_words j) xs) j.lvalue j.own os (zeros Layout.output_words) (take e s64) (zeros (1024 + set_words j)) s32 (zeros Layout.most_saved)
    (ho ∙ sym (zeros_length Layout.output_words))
    (length-take-le e s64 l ∙ he ∙ ap (λ (a : ℕ). 1024 + a) hm ∙ sym (zeros_length (1024 + set_words j)))
    (hs ∙ sym (zeros_length Layout.most_saved))

-- a part that reaches to the end of a list becomes zero
-- the way through `clear_from`
pub part_cleared : (xs ys : List ℕ) (m : ℕ) → m ≤ length xs → ys ≡ zeros (length (take (length xs - m) (drop m xs))) → take m xs ++ (ys ++ drop (length xs - m) (drop m xs)) ≡ take m xs ++ zeros (length xs - m)
part_cleared xs ys m l e =
    let d = length-drop m xs in
    let n : length (drop m xs) ≤ length xs - m = omega arith in
    let k : length xs - m ≤ length (drop m xs) = omega arith in
    ap (λ (z : List ℕ). take m xs ++ z)
    (ap₂ (λ (x y : List ℕ). x ++ y) e (drop_of_length-le (drop m xs) n)
    ∙ append-nil (zeros (length (take (length xs - m) (drop m xs))))
    ∙ ap zeros (length-take-le (length xs - m) (drop m xs) k))

-- rows written before others, and these cleared: the rows, then zeros
rest_cleared : (ss us : List ℕ) (m : ℕ) → length us ≡ length (take m ss) → m ≤ length ss → take m (us ++ drop m ss) ++ zeros (length (us ++ drop m ss) - m) ≡ us ++ zeros (length ss - length us)
rest_cleared ss us m k l =
    let n : length us ≡ m = k ∙ length-take-le m ss l in
    ap₂ (λ (x y : List ℕ). x ++ y) (take_at us (drop m ss) m n)
    (ap zeros (ap₂ (λ (a b : ℕ). a - b) (length_front ss us m k) (sym n)))

-- what is left after the call, and after the rest of the rows is cleared
-- the way through `run_tables`
pub runs_job : (vs ss : List ℕ) (cs : ContextWords) (xs : List ℕ) (j : Said) (os s64 s32 : List ℕ) (m n e : ℕ) (a : Answered) (r : Answer) (ws us : List ℕ) (ds : ContextWords) (ps t64 t32 ts : List ℕ) → m ≡ set_words j → n ≡ candidate_words j → e ≡ 1024 + m → m ≤ length ss → e ≤ length s64 → length os ≡ Layout.output_words → length s32 ≡ Layout.most_saved
    → given a ws us ds ps t64 t32 ≡ outcome (call vs (take m ss) false cs j.session (take n xs) j.lvalue j.own os (take e s64) s32)
    → length us ≡ length (take m ss)
    → (m ≤ length (us ++ drop m ss) → ts ≡ take m (us ++ drop m ss) ++ zeros (length (us ++ drop m ss) - m))
    → r ≡ answered a
    → left r ws ts ps ≡ keeps (length ss) (outcome (job_call j (tables vs ss cs xs)))
unfolding keeps
runs_job vs ss cs xs j os s64 s32 m n e a r ws us ds ps t64 t32 ts hm hn he lm le ho hs h k c q =
    let f = length_front ss us m k in
    ap₂ (λ (x : Answer) (y : List ℕ). left x ws y ps) q (c (omega arith) ∙ rest_cleared ss us m k lm)
    ∙ ap (keeps (length ss)) (h ∙ job_call_is vs ss cs xs j os s64 s32 m n e hm hn he le ho hs)

-- ---- lengths

-- the three lengths
module _ (o p q : ℕ) where
  -- memory of the right lengths
  pub memory_right : memory_wrong o p q ≡ false → (o ≡ Layout.output_words) × (p ≡ 9216) × (q ≡ Layout.most_saved)
  unfolding memory_wrong
  memory_right h =
      let g = or_no_second (not (eqb o Layout.output_words)) _ h in (
        eqb-true o Layout.output_words (not-false _ (or_no_first (not (eqb o Layout.output_words)) _ h)),
        eqb-true p 9216 (not-false _ (or_no_first (not (eqb p 9216)) _ g)),
        eqb-true q Layout.most_saved (not-false _ (or_no_second (not (eqb p 9216)) _ g)),
      )

-- tables of the right lengths
pub lent_right : (w v s : ℕ) (c : Bool) (x : ℕ) → lent_wrong w v s c x ≡ false → (v ≡ 1024) × (s ≡ 8192) × (c ≡ true) × (x ≡ 6272)
unfolding lent_wrong
lent_right w v s c x h =
    let g = or_no_second (not (eqb w 16384)) _ h in
    let f = or_no_second (not (eqb v 1024)) _ g in
    let e = or_no_second (not (eqb s 8192)) _ f in (
      eqb-true v 1024 (not-false _ (or_no_first (not (eqb v 1024)) _ g)),
      eqb-true s 8192 (not-false _ (or_no_first (not (eqb s 8192)) _ f)),
      not-false _ (or_no_first (not c) _ e),
      eqb-true x 6272 (not-false _ (or_no_second (not c) _ e)),
    )

-- ---- an accepted image is not too large

-- a class that is not earned
-- the lowest class is 0 just if none is
first_not : (b : Bool) (k n : ℕ) → (k ≡ 0 → ⊥) → ◌≡◌ {A = ℕ} (elim b [ true ↦ k | false ↦ n ]) 0 → b ≡ false
first_not true k n h e = absurd (h e)
first_not false k n h e = refl

-- and then the rest decides
rest_not : (b : Bool) (k n : ℕ) → (k ≡ 0 → ⊥) → ◌≡◌ {A = ℕ} (elim b [ true ↦ k | false ↦ n ]) 0 → n ≡ 0
rest_not true k n h e = absurd (h e)
rest_not false k n h e = e

-- an accepted image has no more than 512 identifiers, nor more than 64 candidates
-- "identifiers (at most 512)", "candidates (64)"
pub few : (bs : List ℕ) → refusal_of bs ≡ 0 → (count_of (words_of bs) identifiers ≤ 512) × (count_of (words_of bs) candidates ≤ 64)
unfolding refusal_of refusal_of_words earns_two wrong_header too_many_records
few bs h =
    let im = words_of bs in
    let w = rest_not (wrong_length bs) 1 (refusal_of_words im) (λ z. omega arith) h in
    let two = first_not (earns_two im) 2 _ (λ z. omega arith) w in
    let head = or_no_first (wrong_header im) _ two in
    let many = or_no_first (too_many_records im) _ (or_no_second (wrong_edition im) _ head) in
    let most = or_no_second (ltb 512 (count_of im identifiers)) _ many in (
      ltb-false 512 (count_of im identifiers) (or_no_first (ltb 512 (count_of im identifiers)) _ many),
      ltb-false 64 (count_of im candidates) (or_no_second (ltb 64 (count_of im functions)) _ most),
    )

-- ---- from bytes to what is left

-- what was lent, what was read of it, and what is left
-- one law for each way through `run_image`
module _ (bs : List ℕ) (w : ℕ) (vs ss : List ℕ) (cs : ContextWords) (xs : List ℕ) (o p q : ℕ) where
  -- the tables as they are lent
  abbrev t : Tables
  t = tables vs ss cs xs

  -- what is to be left
  abbrev end : Left
  end = leaves bs w (length vs) (length ss) (is_full cs) (length xs) o p q

  -- a refusal, in the tables as they are lent
  abbrev empties : ℕ → Left
  empties n = nothing n (length vs) (length ss) o

  -- whether a table has the wrong length
  abbrev wrong : Bool
  wrong = lent_wrong w (length vs) (length ss) (is_full cs) (length xs)

  -- what is left where all lengths are right and the image is accepted
  abbrev ran : Left
  ran = settled (keeps (length ss) (outcome (image_call (words_of bs))))

  -- memory of the wrong length
  -- "1 a lent slice or image has the wrong length"
  end_memory : true ≡ memory_wrong o p q → empties 1 ≡ end
  unfolding leaves any_wrong
  end_memory h = ap (λ (x : Bool). ite (x || wrong) (empties 1) (ite (eqb (refusal_of bs) 0) ran (empties (refusal_of bs)))) h

  -- memory of the right lengths: the tables and the image decide
  end_read : false ≡ memory_wrong o p q → ite wrong (empties 1) (ite (eqb (refusal_of bs) 0) ran (empties (refusal_of bs))) ≡ end
  unfolding leaves any_wrong
  end_read h = ap (λ (x : Bool). ite (x || wrong) (empties 1) (ite (eqb (refusal_of bs) 0) ran (empties (refusal_of bs)))) h

  -- what a refusal leaves is cleared: nothing but its number
  cleared : (n : ℕ) (os : List ℕ) (r : Answer) → r ≡ refused_as n → (n ≡ 0 → ⊥) → o ≡ length os → settled (left r vs ss os) ≡ empties n
  unfolding settled
  cleared n os r e z h =
      ap (λ (x : Answer). settled (left x vs ss os)) e
      ∙ ite_ne n 0 _ _ z
      ∙ ap (λ (k : ℕ). nothing n (length vs) (length ss) k) (sym h)

  pub leaves_memory : (os : List ℕ) → o ≡ length os → true ≡ memory_wrong o p q → settled (left (refused_as 1) vs ss os) ≡ end
  leaves_memory os h m = cleared 1 os (refused_as 1) refl (λ z. omega arith) h ∙ end_memory m

  -- the number of what was read, where it is refused
  read_number : (r : Read) → r ≡ read_image bs w t → (r.job.refusal ≡ 0 → ⊥) → r.job.refusal ≡ read_class bs w t
  unfolding read_image no_job job_of
  read_number r h n =
      ⊎_elim
      (λ z. absurd (n (ap (λ (x : Read). x.job.refusal) (h ∙ ite_eq (read_class bs w t) 0 _ _ z))))
      (λ z. ap (λ (x : Read). x.job.refusal) (h ∙ ite_ne (read_class bs w t) 0 _ _ z))
      (same_or_not (read_class bs w t) 0)

  -- and then the tables are as they were
  read_same : (r : Read) → r ≡ read_image bs w t → (r.job.refusal ≡ 0 → ⊥) → r.tables ≡ t
  unfolding read_image no_job job_of
  read_same r h n =
      ⊎_elim
      (λ z. absurd (n (ap (λ (x : Read). x.job.refusal) (h ∙ ite_eq (read_class bs w t) 0 _ _ z))))
      (λ z. ap (λ (x : Read). x.tables) (h ∙ ite_ne (read_class bs w t) 0 _ _ z))
      (same_or_not (read_class bs w t) 0)

  -- where it is not refused, no class was earned
  read_class_is : (r : Read) → r ≡ read_image bs w t → r.job.refusal ≡ 0 → read_class bs w t ≡ 0
  unfolding read_image no_job job_of
  read_class_is r h n =
      ⊎_elim
      (λ z. z)
      (λ z. sym (ap (λ (x : Read). x.job.refusal) (h ∙ ite_ne (read_class bs w t) 0 _ _ z)) ∙ n)
      (same_or_not (read_class bs w t) 0)

  -- what a refused image leaves
  -- a wrong length of a table, or the image's own class
  by_number : (n : ℕ) → n ≡ read_class bs w t → (n ≡ 0 → ⊥) → empties n ≡ ite wrong (empties 1) (ite (eqb (refusal_of bs) 0) ran (empties (refusal_of bs)))
  unfolding read_class
  by_number n e z = go wrong e
    where
      go : (x : Bool) → n ≡ ite x 1 (refusal_of bs) → empties n ≡ ite x (empties 1) (ite (eqb (refusal_of bs) 0) ran (empties (refusal_of bs)))
      go true h = ap empties h
      go false h = ap empties h ∙ sym (ite_ne (refusal_of bs) 0 _ _ (λ y. z (h ∙ y)))

  -- a refused image: its number, of anything that was read and is refused
  pub leaves_number : (r : Read) (os : List ℕ) (s : Answer) → o ≡ length os → false ≡ memory_wrong o p q → r ≡ read_image bs w t → (r.job.refusal ≡ 0 → ⊥) → s ≡ refused_as r.job.refusal → settled (left s r.tables.values r.tables.sets os) ≡ end
  leaves_number r os s ho m h n e =
      ap (λ (x : Tables). settled (left s x.values x.sets os)) (read_same r h n)
      ∙ cleared r.job.refusal os s e n ho
      ∙ by_number r.job.refusal (read_number r h n) n
      ∙ end_read m

  -- the same of what the code answers
  pub leaves_refused : (a : Result Job Refusal) (n : Refusal) (us ts : List ℕ) (ds : ContextWords) (ys os : List ℕ) → a ≡ Err n → o ≡ length os → false ≡ memory_wrong o p q → given_read (said_of a) us ts ds ys ≡ read_image bs w t → settled (left (answer_of (Err n)) us ts os) ≡ end
  unfolding no_job
  leaves_refused a n us ts ds ys os e ho m h =
      leaves_number (given_read (no_job (number_of n)) us ts ds ys) os (answer_of (Err n)) ho m
      (ap (λ (x : Result Job Refusal). given_read (said_of x) us ts ds ys) (sym e) ∙ h) (number_some n) refl

  -- an accepted image, with tables of the right lengths
  accepted : read_class bs w t ≡ 0 → (wrong ≡ false) × (refusal_of bs ≡ 0)
  unfolding read_class
  accepted h = go wrong h
    where
      go : (x : Bool) → ite x 1 (refusal_of bs) ≡ 0 → (x ≡ false) × (refusal_of bs ≡ 0)
      go true e = absurd (omega arith)
      go false e = (refl, e)

  -- tables of the right lengths are filled as empty ones are
  filled_empty : (im : Image) → wrong ≡ false → filled im t ≡ filled im empty
  unfolding filled
  filled_empty im h =
      let l = lent_right w (length vs) (length ss) (is_full cs) (length xs) h in
      let a = l.0 ∙ sym (zeros_length 1024) in
      let d = l.1 ∙ sym (zeros_length 8192) in
      let e = emptied_full cs (full_lengths cs l.2) ∙ sym (emptied_full no_context no_context_full) in
      let f = l.3 ∙ sym (zeros_length 6272) in
      rw (a, d, e, f)

  -- an accepted image was read whole
  read_whole : (r : Read) → r ≡ read_image bs w t → read_class bs w t ≡ 0 → r ≡ record { job = job_of (words_of bs); tables = filled (words_of bs) t }
  unfolding read_image
  read_whole r h n = h ∙ ite_eq (read_class bs w t) 0 _ _ n

  -- what an accepted image leaves
  end_job : false ≡ memory_wrong o p q → wrong ≡ false → refusal_of bs ≡ 0 → ran ≡ end
  end_job m h g =
      sym (ite_eq (refusal_of bs) 0 _ _ g)
      ∙ sym (ap (λ (x : Bool). ite x (empties 1) (ite (eqb (refusal_of bs) 0) ran (empties (refusal_of bs)))) h)
      ∙ end_read m

  -- an accepted image: its call, and what that leaves, of anything that was read and is not refused
  pub leaves_call : (r : Read) (os s64 s32 : List ℕ) (x : Left) → false ≡ memory_wrong o p q → o ≡ length os → p ≡ length s64 → q ≡ length s32 → r ≡ read_image bs w t → r.job.refusal ≡ 0
      → length r.tables.sets ≡ length ss → length r.tables.candidates ≡ length xs
      → (Fits r.tables.sets r.tables.candidates s64 r.job → length os ≡ Layout.output_words → length s32 ≡ Layout.most_saved → x ≡ keeps (length r.tables.sets) (outcome (job_call r.job r.tables)))
      → settled x ≡ end
  unfolding job_of
  leaves_call r os s64 s32 x m ho hp hq h n ls lx f =
      let c = read_class_is r h n in
      let a = accepted c in
      let k = few bs a.1 in
      let l = lent_right w (length vs) (length ss) (is_full cs) (length xs) a.0 in
      let u = memory_right o p q (sym m) in
      let g = read_whole r h c in
      let i = ap (λ (x : Read). x.job.identifiers) g in
      let j = ap (λ (x : Read). x.job.candidates) g in
      ap settled
      (f (record { rows = omega (arith, l.1); records = omega (arith, l.3); scratch = omega (arith, u.1) }) (sym ho ∙ u.0) (sym hq ∙ u.2)
      ∙ ap (λ (k : ℕ). keeps k (outcome (job_call r.job r.tables))) ls
      ∙ ap (λ (x : Read). keeps (length ss) (outcome (job_call x.job x.tables))) g
      ∙ ap (λ (x : Tables). keeps (length ss) (outcome (job_call (job_of (words_of bs)) x))) (filled_empty (words_of bs) a.0))
      ∙ end_job m a.0 a.1

  -- the same of what the code answers
  pub leaves_job : (a : Result Job Refusal) (j : Job) (us ts : List ℕ) (ds : ContextWords) (ys os s64 s32 : List ℕ) (x : Left) → a ≡ Ok j → false ≡ memory_wrong o p q → o ≡ length os → p ≡ length s64 → q ≡ length s32
      → given_read (said_of a) us ts ds ys ≡ read_image bs w t → length ts ≡ length ss → length ys ≡ length xs
      → (Fits ts ys s64 (said_of (Ok j)) → length os ≡ Layout.output_words → length s32 ≡ Layout.most_saved → x ≡ keeps (length ts) (outcome (job_call (said_of (Ok j)) (tables us ts ds ys))))
      → settled x ≡ end
  leaves_job a j us ts ds ys os s64 s32 x e m ho hp hq h ls lx f =
      leaves_call (given_read (said_of (Ok j)) us ts ds ys) os s64 s32 x m ho hp hq
      (ap (λ (y : Result Job Refusal). given_read (said_of y) us ts ds ys) (sym e) ∙ h) refl ls lx f
