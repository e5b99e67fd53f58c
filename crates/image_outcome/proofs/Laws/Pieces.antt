-- The pieces of what the bytes of an image leave, one after the other, are the text that is inferred of them. Assumes nothing.
use Rattle.std.specs.Prelude.{ℕ, zero, suc, ◌+◌, ◌-◌, ◌*◌, ◌%◌, ◌^◌, ◌≤◌, ◌≡◌, refl, Bool, true, false, List, [], ◌∷◌, ◌++◌, eqb, length, get_or, Option}
use Rattle.std.proofs.Common.{arith, sym, ap, ap₂, ◌∙◌, ⊎_elim}
use Rattle.std.proofs.Math.Path.{fun_ext}
use Rattle.base_tests.specs.Tests.{ite}
use Rattle.base_tests.proofs.Laws.Order.{same_or_not}
use Rattle.base_tests.proofs.Laws.Choice.{ite_eq, ite_ne}
use Rattle.lent_copies.specs.Copies.{zeros}
use Rattle.lent_layout.specs.Layout as Layout
use Rattle.lent_context.specs.Lent.{effects_in}
use Rattle.lent_values.specs.Cells.{value_at}
use Rattle.lent_sets.specs.Rows.{number, row_number, marked, set_at}
use Rattle.def_image.specs.Layout.{words_of}
use Rattle.def_image.specs.Refusals.{refusal_of}
use Rattle.def_image.specs.Listing.{refusal_line, shown_lines}
use Rattle.def_transfer.specs.Instruction.{apply_signature}
use Rattle.call_outcome.specs.Calls.{Call, Outcome, call_class, lent_instruction, lent_world, refused_with, concluded, outcome}
use Rattle.laws_suffices.proofs.Laws.Whole.{nothing_lost}
use Rattle.image_job.specs.Reading.{job_of}
use Rattle.image_text.specs.Texts.{lent_listing}
use Rattle.image_pieces.specs.Pieces.{Answer, refused_as}
use Rattle.image_pieces.proofs.Laws.Whole.{pieces_listed, pieces_refused}
use Rattle.image_outcome.specs.Inferring.{job_call, image_call, shown, inferred, any_wrong, written, left, answered, keeps, settled, nothing, leaves, pieces_of}

-- ---- zeros after the rows of a table

-- every word of zeros is zero, and so is every word past their end
zeros_at : (k at : ℕ) → get_or (zeros k) at 0 ≡ 0
unfolding zeros
zeros_at zero at = refl
zeros_at (suc k) zero = refl
zeros_at (suc k) (suc at) = zeros_at k at

-- so zeros after a list change no word that is read
zeros_after : (ss : List ℕ) (k at : ℕ) → get_or (ss ++ zeros k) at 0 ≡ get_or ss at 0
zeros_after [] k at = zeros_at k at
zeros_after (s ∷ ss) k zero = refl
zeros_after (s ∷ ss) k (suc at) = zeros_after ss k at

-- zeros after the rows of a table are rows that are not defined
number_rest : (n : ℕ) (ss : List ℕ) (k at : ℕ) → number n (ss ++ zeros k) at ≡ number n ss at
unfolding number
number_rest zero ss k at = refl
number_rest (suc n) ss k at = ap₂ (λ (x y : ℕ). x * 2 ^ 64 + y % 2 ^ 64) (number_rest n ss k (suc at)) (zeros_after ss k at)

sets_rest : (ss : List ℕ) (k i : ℕ) → set_at (ss ++ zeros k) i ≡ set_at ss i
unfolding set_at row_number
sets_rest ss k i = ap (λ (x : ℕ). marked (x % 2) x) (number_rest 16 ss k (i * 16))

-- and the listing is the same
rows_rest : (os : List ℕ) (count entries : ℕ) (vs ss : List ℕ) (k access : ℕ) → lent_listing os count entries vs (ss ++ zeros k) access ≡ lent_listing os count entries vs ss access
unfolding lent_listing
rows_rest os count entries vs ss k access = ap (λ (f : ℕ → Option ℕ). shown_lines (effects_in Layout.output os 0 count) entries (value_at vs) f access) (fun_ext (sets_rest ss k))

-- ---- the pieces

-- a refusal's pieces are its line
nothing_shown : (n v s o : ℕ) → (n ≡ 0 → ⊥) → pieces_of (nothing n v s o) ≡ refusal_line n
nothing_shown n v s o h = pieces_refused (refused_as n) (zeros v) (zeros s) (zeros o) h

-- no call answers with more than 1,120 effects
count_most : (c : Call) → c.session.entries ≤ 4294967295 → (outcome c).applied.count ≤ 1120
unfolding outcome
count_most c h =
    ⊎_elim
    (λ z. nothing_lost c z h)
    (λ z. let k = ap (λ (x : Outcome). x.applied.count) (ite_ne (call_class c) 0 (concluded c (apply_signature (lent_instruction c) (lent_world c))) (refused_with (call_class c) c) z) in omega arith)
    (same_or_not (call_class c) 0)

-- the pieces of what a call leaves are what is shown of it
-- "1,120 records (.. so it suffices)": they have room for each effect
shown_pieces : (n : ℕ) (c : Call) → c.session.entries ≤ 4294967295 → pieces_of (settled (keeps n (outcome c))) ≡ shown (outcome c)
unfolding keeps settled answered shown
shown_pieces n c l = go (outcome c) (count_most c l)
  where
    go : (x : Outcome) → x.applied.count ≤ 1120 → pieces_of (settled (keeps n x)) ≡ shown x
    go x m =
        ⊎_elim
        (λ z.
        ap (λ (s : Answer). pieces_of (settled (left s x.values (x.sets ++ zeros (n - length x.sets)) x.output))) (ite_eq x.applied.refusal 0 _ _ z)
        ∙ pieces_listed (record { refusal = 0; count = x.applied.count; entries = x.applied.entries; access = x.applied.session.access }) x.values (x.sets ++ zeros (n - length x.sets)) x.output refl m
        ∙ rows_rest x.output x.applied.count x.applied.entries x.values x.sets (n - length x.sets) x.applied.session.access
        ∙ sym (ite_eq x.applied.refusal 0 _ _ z))
        (λ z.
        ap (λ (s : Answer). pieces_of (settled (left s x.values (x.sets ++ zeros (n - length x.sets)) x.output))) (ite_ne x.applied.refusal 0 _ _ z)
        ∙ ap pieces_of (ite_ne x.applied.refusal 0 _ _ z)
        ∙ pieces_refused (refused_as x.applied.refusal) _ _ _ z
        ∙ sym (ite_ne x.applied.refusal 0 _ _ z))
        (same_or_not x.applied.refusal 0)

-- the pieces of what the bytes of an image leave, one after the other, are the text that they come to
-- with all lengths, right or wrong
pub leaves_written : (bs : List ℕ) (w v s : ℕ) (c : Bool) (x o p q : ℕ) → pieces_of (leaves bs w v s c x o p q) ≡ written bs w v s c x o p q
unfolding leaves written inferred job_call job_of
leaves_written bs w v s c x o p q = by_length (any_wrong w v s c x o p q)
  where
    image : pieces_of (ite (eqb (refusal_of bs) 0) (settled (keeps s (outcome (image_call (words_of bs))))) (nothing (refusal_of bs) v s o)) ≡ ite (eqb (refusal_of bs) 0) (shown (outcome (image_call (words_of bs)))) (refusal_line (refusal_of bs))
    image =
        ⊎_elim
        (λ z. ap pieces_of (ite_eq (refusal_of bs) 0 _ _ z) ∙ shown_pieces s (image_call (words_of bs)) (omega arith) ∙ sym (ite_eq (refusal_of bs) 0 _ _ z))
        (λ z. ap pieces_of (ite_ne (refusal_of bs) 0 _ _ z) ∙ nothing_shown (refusal_of bs) v s o z ∙ sym (ite_ne (refusal_of bs) 0 _ _ z))
        (same_or_not (refusal_of bs) 0)

    by_length : (b : Bool) → pieces_of (ite b (nothing 1 v s o) (ite (eqb (refusal_of bs) 0) (settled (keeps s (outcome (image_call (words_of bs))))) (nothing (refusal_of bs) v s o))) ≡ ite b (refusal_line 1) (ite (eqb (refusal_of bs) 0) (shown (outcome (image_call (words_of bs)))) (refusal_line (refusal_of bs)))
    by_length true = nothing_shown 1 v s o (λ z. omega arith)
    by_length false = image
