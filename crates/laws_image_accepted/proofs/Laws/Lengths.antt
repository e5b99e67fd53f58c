-- The call that an accepted image makes is lent lists of the right lengths: no refusal 1 but that of the state. Assumes nothing.
use Prim.Native.Nat.{ℕ, zero, suc, ◌+◌, ◌*◌, ◌/◌}
use native.Mathlib.Omega.{arith}
use Rattle.std.specs.Prelude.{◌≡◌, List, take}
use Rattle.std.proofs.Common.{◌∙◌}
use Rattle.std.proofs.Math.Path.{ap}
use Rattle.std.proofs.Math.Bool.{false}
use Rattle.std.proofs.Math.ListN.{length}
use Rattle.std.proofs.Math.Seq.{length-take-le}
use Rattle.lent_copies.specs.Copies.{zeros}
use Rattle.lent_copies.proofs.Laws.Copy.{zeros_length}
use Rattle.lent_layout.specs.Context.{ContextWords, no_context}
use Rattle.lent_sets.proofs.Laws.Row.{fit_set}
use Rattle.lent_effects.proofs.Laws.EffectFrames.{effect_length}
use Rattle.refuse_entries.specs.Words as Words
use Rattle.def_image.specs.Layout.{Image, identifiers, values, pairs, functions, candidates, count_of, lvalue, own}
use Rattle.def_image.specs.Decode.{place_at}
use Rattle.def_image.specs.Refusals.{refusal_of_words}
use Rattle.image_decode.specs.Decoded.{after, decoded_value, decoded_values, decoded_pair, decoded_sets, decoded_identifier, decoded_identifiers, decoded_function, decoded_functions, decoded_places, decoded_contexts, decoded_context, decoded_candidate, decoded_candidates}
use Rattle.image_decode.proofs.Laws.StateBack.{after_length, value_length}
use Rattle.image_decode.proofs.Laws.ContextBack.{function_length, context_length, identifier_length}
use Rattle.image_job.specs.Reading.{session_of, job_of, filled}
use Rattle.call_outcome.specs.Calls.{Call, call}
use Rattle.image_outcome.specs.Inferring.{job_call, image_call}
use Rattle.image_outcome.proofs.Laws.Full.{Full, no_context_full, emptied_full}
use Rattle.laws_image_accepted.proofs.Laws.Facts.{few_identifiers, few_candidates}

-- ---- the tables of an image, each with its length

module _ (im : Image) where
  -- the 1,024 values
  pub values_length : length (decoded_values im (count_of im values) (zeros 1024)) ≡ 1024
  unfolding decoded_values
  values_length = after_length (decoded_value im) (value_length im) (count_of im values) (zeros 1024) ∙ zeros_length 1024

  -- the rows of 512 identifiers
  -- before those past the image's own are cut off
  pub rows_length : (n : ℕ) → length (after (decoded_pair im) n (zeros 8192)) ≡ 8192
  unfolding after decoded_pair
  rows_length zero = zeros_length 8192
  rows_length (suc n) = fit_set 512 (after (decoded_pair im) n (zeros 8192)) _ _ (rows_length n)

  -- the context: each slice has as many records as its table can have
  pub context_full : Full (decoded_context im no_context)
  unfolding decoded_context decoded_functions decoded_identifiers decoded_contexts
  context_full = record {
    identifiers = after_length (decoded_identifier im) (identifier_length im) (count_of im identifiers) _ ∙ no_context_full.identifiers;
    functions = after_length (decoded_function im) (function_length im) (count_of im functions) _ ∙ no_context_full.functions;
    contexts = after_length (decoded_places im) (context_length im) (count_of im functions) _ ∙ no_context_full.contexts;
    links = no_context_full.links;
    keys = no_context_full.keys;
    key_order = no_context_full.key_order;
    effects = no_context_full.effects;
    effect_order = no_context_full.effect_order;
    diagnostics = no_context_full.diagnostics;
  }

  -- the records of 64 candidates
  -- before those past the image's own are cut off
  pub records_length : length (decoded_candidates im (count_of im candidates) (zeros 6272)) ≡ 6272
  unfolding decoded_candidates decoded_candidate
  records_length = after_length (decoded_candidate im) (λ k c. effect_length _ c k _) (count_of im candidates) (zeros 6272) ∙ zeros_length 6272

  -- ---- the call

  -- the values that the call is lent
  -- "values: number, kind, reasons"
  abbrev pub lent_values : List ℕ
  lent_values = decoded_values im (count_of im values) (zeros 1024)

  -- the sets, of the image's own identifiers
  -- "pairs: identifier, value"
  abbrev pub lent_sets : List ℕ
  lent_sets = take (16 * count_of im identifiers) (decoded_sets im (count_of im pairs) (zeros 8192))

  -- the context
  -- "The context is all but state and session"
  abbrev pub lent_context : ContextWords
  lent_context = decoded_context im no_context

  -- the records of the image's own candidates
  -- 98 words each
  abbrev pub lent_candidates : List ℕ
  lent_candidates = take (98 * count_of im candidates) (decoded_candidates im (count_of im candidates) (zeros 6272))

  -- the call with them
  -- "the function-expression flag as no", an output list and scratch that are zero
  abbrev pub lent_call : Call
  lent_call =
      call lent_values lent_sets false lent_context (session_of im) lent_candidates (place_at im (lvalue im)) (own im) (zeros 109760) (zeros (1024 + 16 * count_of im identifiers)) (zeros 23040)

  -- it is the call that the image makes
  pub call_is : image_call im ≡ lent_call
  unfolding job_call job_of filled
  call_is = λ i.
      call (decoded_values im (count_of im values) (zeros (zeros_length 1024 i)))
      (take (16 * count_of im identifiers) (decoded_sets im (count_of im pairs) (zeros (zeros_length 8192 i))))
      false
      (decoded_context im (emptied_full no_context no_context_full i))
      (session_of im)
      (take (98 * count_of im candidates) (decoded_candidates im (count_of im candidates) (zeros (zeros_length 6272 i))))
      (place_at im (lvalue im))
      (own im)
      (zeros 109760)
      (zeros (1024 + 16 * count_of im identifiers))
      (zeros 23040)

  -- ---- of an accepted image

  module _ (ok : refusal_of_words im ≡ 0) where
    -- 16 words for each identifier
    -- "identifiers (at most 512)"
    pub sets_length : length lent_sets ≡ 16 * count_of im identifiers
    unfolding decoded_sets
    sets_length =
        length-take-le (16 * count_of im identifiers) (decoded_sets im (count_of im pairs) (zeros 8192))
        (let l = rows_length (count_of im pairs) in let m = few_identifiers im ok in omega arith)

    -- so the sets say how many identifiers there are
    pub sets_identifiers : Words.identifiers lent_sets ≡ count_of im identifiers
    unfolding Words.identifiers
    sets_identifiers = ap (λ (x : ℕ). x / 16) sets_length ∙ (let z : 16 * count_of im identifiers / 16 ≡ count_of im identifiers = omega arith in z)

    -- 98 words for each candidate
    -- "candidates (64)"
    pub candidates_length : length lent_candidates ≡ 98 * count_of im candidates
    candidates_length =
        length-take-le (98 * count_of im candidates) (decoded_candidates im (count_of im candidates) (zeros 6272))
        (let l = records_length in let m = few_candidates im ok in omega arith)
