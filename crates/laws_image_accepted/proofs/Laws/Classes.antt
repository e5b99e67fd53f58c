-- The context and the instruction of an accepted image's call earn no class. Assumes nothing.
use Rattle.std.specs.Prelude.{ℕ, ◌<◌, ◌≡◌}
use Rattle.std.proofs.Common.{◌∙◌}
use Rattle.refuse_entries.specs.Words as Words
use Rattle.refuse_instruction.specs.EffectClasses.{instruction_class}
use Rattle.refuse_records.specs.Accepting.{context_class}
use Rattle.image_decode.proofs.Laws.WordsBack.{function_count_back}
use Rattle.lent_layout.specs.Context.{no_context}
use Rattle.def_image.specs.Layout.{Image, word, next, lvalue, own}
use Rattle.def_image.specs.Refusals.{refusal_of_words}
use Rattle.def_image.specs.Decode.{place_at}
use Rattle.call_outcome.specs.Calls.{candidate_count}
use Rattle.laws_image_accepted.proofs.Laws.Lengths.{lent_sets, lent_context, lent_candidates, sets_identifiers}
use Rattle.laws_image_accepted.proofs.Laws.Counted.{candidates_count}
use Rattle.laws_image_accepted.proofs.Laws.Context.{context_right}
use Rattle.laws_image_accepted.proofs.Laws.Instruction.{instruction_right}

module _ (im : Image) (small : (i : ℕ) → word im i < 4294967296) (ok : refusal_of_words im ≡ 0) where
  -- the context, as the call tests it
  -- for the identifiers of the sets
  pub context_none : context_class (Words.identifiers (lent_sets im)) (lent_context im) (next im) ≡ 0
  context_none = (λ i. context_class (sets_identifiers im ok i) (lent_context im) (next im)) ∙ context_right im small ok

  -- the instruction, as the call tests it
  -- with as many candidates as their words have records, and the functions of the context
  pub instruction_none : instruction_class (Words.identifiers (lent_sets im)) (lent_context im).function_count (lent_context im) (lent_candidates im) (candidate_count (lent_candidates im)) (place_at im (lvalue im)) (own im) ≡ 0
  instruction_none =
      (λ i. instruction_class (sets_identifiers im ok i) (function_count_back im no_context i) (lent_context im) (lent_candidates im) (candidates_count im ok i) (place_at im (lvalue im)) (own im))
      ∙ instruction_right im small ok (lent_context im)
