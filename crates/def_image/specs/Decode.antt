-- What an accepted image says: the state, the context and the session to start with, and the instruction. Assumes nothing: these are definitions.
use Rattle.std.specs.Prelude.{ℕ, zero, suc, Bool, true, false, not, List, [], ◌∷◌, eqb, get_or, Option, None, Some}
use Rattle.base_sets.specs.Members.{singleton, union, bits_of}
use Rattle.def_kinds.specs.declared.AbstractValue.{AbstractValue}
use Rattle.def_kinds.specs.Kinds.{kind_at}
use Rattle.def_kinds.specs.Values.{mk}
use Rattle.def_effects.specs.declared.Span.{Span}
use Rattle.def_effects.specs.declared.Place.{Place}
use Rattle.def_effects.specs.declared.AliasingDiagnostic.{AliasingDiagnostic}
use Rattle.def_effects.specs.Places.{no_span}
use Rattle.def_effects.specs.Effects.{AliasingEffect, Freeze, Mutate, MutateConditionally, MutateTransitive, MutateTransitiveConditionally, Capture, Alias, MaybeAlias, Assign, Create, CreateFrom, ImmutableCapture, CreateFunction, MutateFrozen, MutateGlobal, Impure, Render}
use Rattle.def_transfer.specs.Tables.{World}
use Rattle.def_transfer.specs.Pure.{at, pure, Function, Identifier}
use Rattle.def_transfer.specs.Instruction.{Instruction, own_of}
use Rattle.def_image.specs.Layout.{Image, options, next, lvalue, own, identifiers, values, pairs, functions, candidates, count_of, identifier_flags, identifier_name, access_start, access_end, value_number, value_kind, value_reasons, pair_identifier, pair_value, place_identifier, place_effect, place_reactive, place_start, place_end, function_flags, context_first, context_count, inside_first, inside_count, code, first_place, second_place, detail, reason, function, captures_first, captures_count, flag_one, flag_two}

-- f at n numbers from k on
unfoldable pub list_from : {A : Type 0} → ℕ → ℕ → (ℕ → A) → List A
list_from zero k f = []
list_from (suc n) k f = f k ∷ list_from n (suc k) f

-- a list as a table: entry i, or another where the list is shorter
unfoldable pub entry_of : {A : Type 0} → A → List A → ℕ → A
entry_of d l i = get_or l i d

abbrev pub span : ℕ → ℕ → Span
span start end = record { start = start; end = end }

-- "value 0 .. means defined with an empty set"
unfoldable pub member_of : ℕ → ℕ
member_of v = elim (eqb v 0) [ true ↦ 0 | false ↦ singleton v ]

abbrev pub no_function : Function
no_function = record { context = []; inside = []; tracked = false }

abbrev pub no_identifier : Identifier
no_identifier = record { ref = false; hoisted = false; access = no_span; name = 0 }

-- the sets with a value added to that of identifier i
unfoldable pub with_pair : (ℕ → Option ℕ) → ℕ → ℕ → ℕ → Option ℕ
with_pair sets i v = at sets i (Some (union (bits_of (sets i)) (member_of v)))

module _ (im : Image) where
  unfoldable pub place_at : ℕ → Place
  place_at k = record { identifier = place_identifier im k; effect = place_effect im k; reactive = place_reactive im k; span = span (place_start im k) (place_end im k) }

  -- a run of places: first and count
  unfoldable pub places_from : ℕ → ℕ → List Place
  places_from first count = list_from count first place_at

  -- ---- the state

  -- the entries of the first n values
  unfoldable pub value_table : ℕ → ℕ → Option AbstractValue
  value_table zero = λ v. None
  value_table (suc n) = at (value_table n) (value_number im n) (Some (mk (kind_at (value_kind im n)) (value_reasons im n)))

  -- the sets of the first n pairs
  unfoldable pub set_table : ℕ → ℕ → Option ℕ
  set_table zero = λ i. None
  set_table (suc n) = with_pair (set_table n) (pair_identifier im n) (pair_value im n)

  -- ---- the context

  unfoldable pub identifier_at : ℕ → Identifier
  identifier_at k = record { ref = flag_one (identifier_flags im k); hoisted = flag_two (identifier_flags im k); access = span (access_start im k) (access_end im k); name = identifier_name im k }

  unfoldable pub function_at : ℕ → Function
  function_at k = record { context = places_from (context_first im k) (context_count im k); inside = places_from (inside_first im k) (inside_count im k); tracked = flag_two (function_flags im k) }

  -- "(either option on)": the walk
  unfoldable pub transitive : Bool
  transitive = not (eqb (options im) 0)

  -- "Interned effects, cached numbers, links and diagnostics start empty, the function-expression flag as no."
  unfoldable pub world_of : World pure
  world_of = record {
    state = record { values = value_table (count_of im values); sets = set_table (count_of im pairs); is_function_expression = false };
    rest = record {
      session = record { next = next im; access = 0; span = no_span; entries = 0 };
      context = record {
        interned = [];
        cached = λ n. None;
        links = λ v. None;
        functions = entry_of no_function (list_from (count_of im functions) 0 function_at);
        identifiers = entry_of no_identifier (list_from (count_of im identifiers) 0 identifier_at);
        transitive = transitive;
        diagnostics = [];
      };
      work = record { initialized = []; listed = []; freeze_entries = 0; entries = 0 };
    };
  }

  -- ---- the instruction

  abbrev first : ℕ → Place
  first k = place_at (first_place im k)

  abbrev second : ℕ → Place
  second k = place_at (second_place im k)

  -- no accepted image has one
  abbrev diagnostic : ℕ → AliasingDiagnostic
  diagnostic k = record { identity = detail im k; instance = detail im k }

  -- an effect of each code, in order: "a destination is the second, any other the first". An Apply is refused, so what stands at 12 does not matter.
  unfoldable pub makers : List (ℕ → AliasingEffect)
  makers =
      (λ k. Freeze (first k) (reason im k))
      ∷ (λ k. Mutate (first k) (detail im k))
      ∷ (λ k. MutateConditionally (first k))
      ∷ (λ k. MutateTransitive (first k))
      ∷ (λ k. MutateTransitiveConditionally (first k))
      ∷ (λ k. Capture (first k) (second k))
      ∷ (λ k. Alias (first k) (second k))
      ∷ (λ k. MaybeAlias (first k) (second k))
      ∷ (λ k. Assign (first k) (second k))
      ∷ (λ k. Create (second k) (kind_at (detail im k)) (reason im k))
      ∷ (λ k. CreateFrom (first k) (second k))
      ∷ (λ k. ImmutableCapture (first k) (second k))
      ∷ (λ k. Render (first k))
      ∷ (λ k. CreateFunction (places_from (captures_first im k) (captures_count im k)) (function im k) (second k))
      ∷ (λ k. MutateFrozen (first k) (diagnostic k))
      ∷ (λ k. MutateGlobal (first k) (diagnostic k))
      ∷ (λ k. Impure (first k) (diagnostic k))
      ∷ []

  unfoldable pub effect_at : ℕ → AliasingEffect
  effect_at k = get_or makers (code im k) (λ j. Render (first j)) k

  unfoldable pub instruction_of : Instruction
  instruction_of = record { candidates = list_from (count_of im candidates) 0 effect_at; lvalue = place_at (lvalue im); own = own_of (own im) }
