-- The ways through the tests of a whole state. Assumes nothing.
use Rattle.std.specs.Prelude.{◌≡◌, true, false, List, ℕ, ◌*◌, ◌/◌, ◌%◌, ◌≤◌, eqb}
use Rattle.std.proofs.Common.{◌∙◌}
use Rattle.std.proofs.Math.Bool.{not}
use native.Mathlib.Omega.{arith}
use Rattle.std.proofs.Math.ListN.{length}
use borrow.Author.Tests.{eqb-true, leb-true, not-false}
use Rattle.refuse_entries.specs.Words.{identifiers, wrong_lengths, state_out_of_range, state_unfit, state_refusal}
use Rattle.base_tests.proofs.Laws.Bool.{or_no_first, or_no_second}
use Rattle.base_tests.proofs.Laws.Choice.{ite_yes, ite_no}

-- ---- wrong_lengths

module _ (vs ss : List ℕ) where
  -- lists of the right lengths: 1,024 words, and 16 for each of at most 512 identifiers
  pub lengths_fit : wrong_lengths vs ss ≡ false → (length vs ≡ 1024) × (length ss ≡ 16 * (length ss / 16)) × (length ss ≤ 8192)
  unfolding wrong_lengths
  lengths_fit h =
      let r = or_no_second (not (eqb (length vs) 1024)) _ h in
      let p : length ss % 16 ≡ 0 = eqb-true (length ss % 16) 0 (not-false _ (or_no_first (not (eqb (length ss % 16) 0)) _ r)) in (
        eqb-true (length vs) 1024 (not-false _ (or_no_first (not (eqb (length vs) 1024)) _ h)),
        omega arith,
        leb-true (length ss) 8192 (not-false _ (or_no_second (not (eqb (length ss % 16) 0)) _ r)),
      )

-- ---- state_refusal

module _ (vs ss : List ℕ) (next access : ℕ) where
  pub refused_1 : wrong_lengths vs ss ≡ true → state_refusal vs ss next access ≡ 1
  unfolding state_refusal
  refused_1 e = ite_yes (wrong_lengths vs ss) _ _ e

  pub refused_3 : wrong_lengths vs ss ≡ false → state_out_of_range (length ss / 16) next access vs ss ≡ true → state_refusal vs ss next access ≡ 3
  unfolding state_refusal identifiers
  refused_3 a e = ite_no (wrong_lengths vs ss) _ _ a ∙ ite_yes (state_out_of_range (length ss / 16) next access vs ss) _ _ e

  pub refused_4 : wrong_lengths vs ss ≡ false → state_out_of_range (length ss / 16) next access vs ss ≡ false → state_unfit (length ss / 16) next vs ss ≡ true → state_refusal vs ss next access ≡ 4
  unfolding state_refusal identifiers
  refused_4 a b e =
      ite_no (wrong_lengths vs ss) _ _ a ∙ ite_no (state_out_of_range (length ss / 16) next access vs ss) _ _ b ∙ ite_yes (state_unfit (length ss / 16) next vs ss) _ _ e

  pub refused_0 : wrong_lengths vs ss ≡ false → state_out_of_range (length ss / 16) next access vs ss ≡ false → state_unfit (length ss / 16) next vs ss ≡ false → state_refusal vs ss next access ≡ 0
  unfolding state_refusal identifiers
  refused_0 a b e =
      ite_no (wrong_lengths vs ss) _ _ a ∙ ite_no (state_out_of_range (length ss / 16) next access vs ss) _ _ b ∙ ite_no (state_unfit (length ss / 16) next vs ss) _ _ e
