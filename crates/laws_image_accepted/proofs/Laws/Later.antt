-- What an accepted image comes to: its call runs, and refusals 6 to 11 alone can come of it; the same from its bytes. Assumes nothing.
use Rattle.std.specs.Prelude.{ℕ, zero, suc, ◌≤◌, ◌<◌, ◌≡◌, refl, Bool, true, false, ◌&&◌, ◌⊎◌, List, [], ◌∷◌, T, ltb, get_or}
use Rattle.std.proofs.Common.{arith, sym, subst, inl, inr, ltb-true}
use Rattle.base_tests.proofs.Laws.Choice.{ite_eq}
use Rattle.def_transfer.specs.Monad.{Res, ok, refused, Done, restore}
use Rattle.def_transfer.specs.Tables.{World}
use Rattle.def_transfer.specs.Instruction.{run, apply_signature}
use Rattle.lent_world.specs.World.{lent}
use Rattle.lent_world.proofs.Laws.LentIsolation.{InRange, lent_ends}
use Rattle.def_image.specs.Layout.{Image, word, wrong_length, words_of, identifiers, count_of}
use Rattle.def_image.specs.Refusals.{refusal_of_words, refusal_of}
use Rattle.call_outcome.specs.Calls.{Call, Outcome, call_class, lent_instruction, lent_world, concluded, outcome}
use Rattle.call_outcome.proofs.Laws.Attempt.{applies}
use Rattle.image_outcome.specs.Inferring.{image_call}
use Rattle.laws_image_accepted.proofs.Laws.Lengths.{values_length, context_full, sets_length, lent_call, call_is}
use Rattle.laws_image_accepted.proofs.Laws.Accepted.{accepted_call}

-- ---- how a call ends

-- a run that is put back where it is refused is refused with the same number
-- 6 to 11, as the run itself
restored : (w : World lent) (x : Res (World lent) Done) → InRange x → InRange (restore w x)
unfolding restore
restored w (ok a u) h = h
restored w (refused n u) h = h

-- a number that passes both tests is from 6 to 11
later : (n : ℕ) → T (ltb 5 n && ltb n 12) → (6 ≤ n) × (n ≤ 11)
later n h = go (ltb 5 n) (ltb n 12) refl refl h
  where
    go : (a b : Bool) → ltb 5 n ≡ a → ltb n 12 ≡ b → T (a && b) → (6 ≤ n) × (n ≤ 11)
    go true true e f t = (ltb-true 5 n e, let z = ltb-true n 12 f in omega arith)
    go false b e f t = elim t [ ]
    go true false e f t = elim t [ ]

-- the number that a call answers with, by how its transfer ends
-- none, or one of 6 to 11
number_later : (c : Call) (x : Res (World lent) Done) → InRange x → ((concluded c x).applied.refusal ≡ 0) ⊎ ((6 ≤ (concluded c x).applied.refusal) × ((concluded c x).applied.refusal ≤ 11))
number_later c (ok a w) h = inl refl
number_later c (refused n w) h = inr (later n h)

-- ---- the words of an image

module _ (im : Image) (small : (i : ℕ) → word im i < 4294967296) (ok : refusal_of_words im ≡ 0) where
  -- what comes of the call is what the transfer comes to
  -- "then the first met as the steps run"
  pub accepted_outcome : outcome (image_call im) ≡ concluded (image_call im) (apply_signature (lent_instruction (image_call im)) (lent_world (image_call im)))
  unfolding outcome
  accepted_outcome = ite_eq (call_class (image_call im)) 0 _ _ (accepted_call im small ok)

  -- how the transfer ends
  -- with no refusal, or with one of 6 to 11
  pub ends_later : InRange (apply_signature (lent_instruction (lent_call im)) (lent_world (lent_call im)))
  ends_later =
      subst InRange (sym (applies (lent_instruction (lent_call im)) (lent_call im).values (lent_call im).sets (lent_call im).context (lent_call im).output (lent_call im).session (lent_call im).flag refl))
      (restored (lent_world (lent_call im)) (run (lent_instruction (lent_call im)) (lent_world (lent_call im)))
      (lent_ends (count_of im identifiers) (lent_instruction (lent_call im)) (lent_world (lent_call im))
      (record { values = values_length im; sets = sets_length im ok; links = let z = (context_full im).links in omega arith })).range)

  -- an accepted image is refused with 6 to 11, or not at all
  -- 1 to 5 are the image's own
  pub refused_later : ((outcome (image_call im)).applied.refusal ≡ 0) ⊎ ((6 ≤ (outcome (image_call im)).applied.refusal) × ((outcome (image_call im)).applied.refusal ≤ 11))
  refused_later =
      subst (λ (o : Outcome). (o.applied.refusal ≡ 0) ⊎ ((6 ≤ o.applied.refusal) × (o.applied.refusal ≤ 11))) (sym accepted_outcome)
      (subst (λ (c : Call). ((concluded c (apply_signature (lent_instruction c) (lent_world c))).applied.refusal ≡ 0) ⊎ ((6 ≤ (concluded c (apply_signature (lent_instruction c) (lent_world c))).applied.refusal) × ((concluded c (apply_signature (lent_instruction c) (lent_world c))).applied.refusal ≤ 11))) (sym (call_is im))
      (number_later (lent_call im) (apply_signature (lent_instruction (lent_call im)) (lent_world (lent_call im))) ends_later))

-- ---- its bytes

-- words of bytes have 32 bits
-- "Little-endian u32 words"
pub words_small : (bs : List ℕ) → ((k : ℕ) → get_or bs k 0 < 256) → (i : ℕ) → word (words_of bs) i < 4294967296
unfolding word words_of
words_small [] h i = omega arith
words_small (a ∷ []) h i = omega arith
words_small (a ∷ b ∷ []) h i = omega arith
words_small (a ∷ b ∷ c ∷ []) h i = omega arith
words_small (a ∷ b ∷ c ∷ d ∷ bs) h zero = let p : a < 256 = h 0 in let q : b < 256 = h 1 in let r : c < 256 = h 2 in let s : d < 256 = h 3 in omega arith
words_small (a ∷ b ∷ c ∷ d ∷ bs) h (suc i) = words_small bs (λ k. h (suc (suc (suc (suc k))))) i

-- the words of bytes that earn no refusal earn none
-- "Order 1 to 5 over the whole input"
pub words_accepted : (bs : List ℕ) → refusal_of bs ≡ 0 → refusal_of_words (words_of bs) ≡ 0
unfolding refusal_of
words_accepted bs h = go (wrong_length bs) h
  where
    go : (b : Bool) → ◌≡◌ {A = ℕ} (elim b [ true ↦ 1 | false ↦ refusal_of_words (words_of bs) ]) 0 → refusal_of_words (words_of bs) ≡ 0
    go true e = absurd (omega arith)
    go false e = e

-- so bytes that earn no refusal make a call that earns none of 1 to 5
-- what `infer` then shows of it is its listing, or a refusal of 6 to 11
pub accepted_bytes : (bs : List ℕ) → ((k : ℕ) → get_or bs k 0 < 256) → refusal_of bs ≡ 0 → call_class (image_call (words_of bs)) ≡ 0
accepted_bytes bs h e = accepted_call (words_of bs) (words_small bs h) (words_accepted bs e)

-- and their number is one of 6 to 11, or none
pub bytes_later : (bs : List ℕ) → ((k : ℕ) → get_or bs k 0 < 256) → refusal_of bs ≡ 0 → ((outcome (image_call (words_of bs))).applied.refusal ≡ 0) ⊎ ((6 ≤ (outcome (image_call (words_of bs))).applied.refusal) × ((outcome (image_call (words_of bs))).applied.refusal ≤ 11))
bytes_later bs h e = refused_later (words_of bs) (words_small bs h) (words_accepted bs e)
