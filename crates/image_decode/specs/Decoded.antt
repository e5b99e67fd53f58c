-- The lent tables of an accepted image: what each record of it writes, one after the other. Assumes nothing: these are definitions.
use Rattle.std.specs.Prelude.{ℕ, zero, suc, List, [], ◌∷◌, get_or}
use Rattle.base_sets.specs.Members.{union, bits_of}
use Rattle.def_kinds.specs.Kinds.{kind_at}
use Rattle.def_kinds.specs.Values.{mk}
use Rattle.def_effects.specs.declared.AliasingDiagnostic.{AliasingDiagnostic}
use Rattle.lent_values.specs.Cells.{put_value}
use Rattle.lent_sets.specs.Rows.{set_at, put_set}
use Rattle.lent_tables.specs.Words.{put_field, put_places}
use Rattle.lent_effects.specs.declared.AliasingEffect.{AliasingEffect as Head}
use Rattle.lent_effects.specs.Records.{put_effect}
use Rattle.lent_layout.specs.Layout as Lent
use Rattle.lent_layout.specs.Context.{ContextWords}
use Rattle.def_image.specs.Layout.{Image, options, identifiers, functions, count_of, identifier_flags, identifier_name, access_start, access_end, value_number, value_kind, value_reasons, pair_identifier, pair_value, function_flags, context_first, context_count, inside_first, inside_count, code, first_place, second_place, detail, reason, function}
use Rattle.def_image.specs.Decode.{member_of, place_at, places_from, effect_at}
use Rattle.lent_layout.specs.Layout.{candidate_table}

-- the list after g was done to it at 0, 1 and so on, n times
-- each record of a section after the other
unfoldable pub after : (ℕ → List ℕ → List ℕ) → ℕ → List ℕ → List ℕ
after g zero c = c
after g (suc n) c = g n (after g n c)

module _ (im : Image) where
  -- ---- the state

  -- value k of the image put into the table of values
  -- "values: number, kind, reasons"
  unfoldable pub decoded_value : ℕ → List ℕ → List ℕ
  decoded_value k vs = put_value vs (value_number im k) (mk (kind_at (value_kind im k)) (value_reasons im k))

  -- the first n values
  unfoldable pub decoded_values : ℕ → List ℕ → List ℕ
  decoded_values n vs = after decoded_value n vs

  -- pair k of the image put into the rows: its identifier is defined, and its value is in the set
  -- "value 0 .. means defined with an empty set"
  unfoldable pub decoded_pair : ℕ → List ℕ → List ℕ
  decoded_pair k ss = put_set ss (pair_identifier im k) (union (bits_of (set_at ss (pair_identifier im k))) (member_of (pair_value im k)))

  -- the first n pairs
  unfoldable pub decoded_sets : ℕ → List ℕ → List ℕ
  decoded_sets n ss = after decoded_pair n ss

  -- ---- the context

  -- the four words of identifier k
  -- "flags (1 ref, 2 hoisted), name 1..512 or 0, access start, end"
  unfoldable pub decoded_identifier : ℕ → List ℕ → List ℕ
  decoded_identifier k c =
      put_field Lent.identifiers
      (put_field Lent.identifiers (put_field Lent.identifiers (put_field Lent.identifiers c k 0 (identifier_flags im k)) k 1 (identifier_name im k)) k 2 (access_start im k))
      k
      3
      (access_end im k)

  -- the first n identifiers
  unfoldable pub decoded_identifiers : ℕ → List ℕ → List ℕ
  decoded_identifiers n c = after decoded_identifier n c

  -- flags and both counts of function k
  -- "flags .., first and count of context places (16), first and count of places mutated inside (32)"
  unfoldable pub decoded_counts : ℕ → List ℕ → List ℕ
  decoded_counts k c =
      put_field Lent.functions (put_field Lent.functions (put_field Lent.functions c k 0 (function_flags im k)) k 1 (context_count im k)) k 2 (inside_count im k)

  -- function k: flags and counts, and the places mutated inside
  unfoldable pub decoded_function : ℕ → List ℕ → List ℕ
  decoded_function k c = put_places Lent.functions (decoded_counts k c) k 3 0 (places_from im (inside_first im k) (inside_count im k))

  -- the first n functions
  unfoldable pub decoded_functions : ℕ → List ℕ → List ℕ
  decoded_functions n c = after decoded_function n c

  -- the context places of function k
  -- "each function has its own copy of its context places"
  unfoldable pub decoded_places : ℕ → List ℕ → List ℕ
  decoded_places k c = put_places Lent.contexts c k 0 0 (places_from im (context_first im k) (context_count im k))

  -- those of the first n functions
  unfoldable pub decoded_contexts : ℕ → List ℕ → List ℕ
  decoded_contexts n c = after decoded_places n c

  -- all that an image says of a context
  -- "Interned effects, cached numbers, links and diagnostics start empty"
  unfoldable pub decoded_context : ContextWords → ContextWords
  decoded_context c = record {
    options = options im;
    function_count = count_of im functions;
    effect_count = c.effect_count;
    key_count = c.key_count;
    diagnostic_count = c.diagnostic_count;
    identifiers = decoded_identifiers (count_of im identifiers) c.identifiers;
    functions = decoded_functions (count_of im functions) c.functions;
    contexts = decoded_contexts (count_of im functions) c.contexts;
    links = c.links;
    keys = c.keys;
    key_order = c.key_order;
    effects = c.effects;
    effect_order = c.effect_order;
    diagnostics = c.diagnostics;
  }

  -- ---- the candidates

  -- candidate k written as its record
  -- 98 words, as the call is lent them
  unfoldable pub decoded_candidate : ℕ → List ℕ → List ℕ
  decoded_candidate k xs = put_effect candidate_table xs k (effect_at im k)

  -- the first n candidates
  unfoldable pub decoded_candidates : ℕ → List ℕ → List ℕ
  decoded_candidates n xs = after decoded_candidate n xs

  -- the diagnostic of candidate k
  abbrev pub diagnostic_at : ℕ → AliasingDiagnostic
  diagnostic_at k = record { identity = detail im k; instance = detail im k }

  -- a head for each code, in order, of candidate k
  -- what `effect_at` says, without captures; an Apply is refused, so what stands at 12 does not matter
  unfoldable pub heads_at : ℕ → List Head
  heads_at k =
      Head.Freeze (place_at im (first_place im k)) (reason im k)
      ∷ Head.Mutate (place_at im (first_place im k)) (detail im k)
      ∷ Head.MutateConditionally (place_at im (first_place im k))
      ∷ Head.MutateTransitive (place_at im (first_place im k))
      ∷ Head.MutateTransitiveConditionally (place_at im (first_place im k))
      ∷ Head.Capture (place_at im (first_place im k)) (place_at im (second_place im k))
      ∷ Head.Alias (place_at im (first_place im k)) (place_at im (second_place im k))
      ∷ Head.MaybeAlias (place_at im (first_place im k)) (place_at im (second_place im k))
      ∷ Head.Assign (place_at im (first_place im k)) (place_at im (second_place im k))
      ∷ Head.Create (place_at im (second_place im k)) (kind_at (detail im k)) (reason im k)
      ∷ Head.CreateFrom (place_at im (first_place im k)) (place_at im (second_place im k))
      ∷ Head.ImmutableCapture (place_at im (first_place im k)) (place_at im (second_place im k))
      ∷ Head.Render (place_at im (first_place im k))
      ∷ Head.CreateFunction (function im k) (place_at im (second_place im k))
      ∷ Head.MutateFrozen (place_at im (first_place im k)) (diagnostic_at k)
      ∷ Head.MutateGlobal (place_at im (first_place im k)) (diagnostic_at k)
      ∷ Head.Impure (place_at im (first_place im k)) (diagnostic_at k)
      ∷ []

  -- the head of candidate k; past the last code it is a Render
  -- "code (order of `AliasingEffect`, Freeze 0, Apply 12, Render 17)"
  unfoldable pub head_at : ℕ → Head
  head_at k = get_or (heads_at k) (code im k) (Head.Render (place_at im (first_place im k)))
