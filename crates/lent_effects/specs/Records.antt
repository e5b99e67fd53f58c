-- An effect as a record of 98 words: candidates, interned effects and the output list have the same. Assumes nothing: these are definitions.
-- Word 0 is the code; 1 to 5 the place, or the source; 6 to 10 the destination; 11 kind; 12 reason; 13 mutation reason; 14 function;
-- 15 and 16 identity and instance of a diagnostic; 17 the count of captures; 18 to 97 sixteen captures. Words that an effect has no use for are zero.
use Rattle.std.specs.Prelude.{ℕ, ◌+◌, List, [], ◌∷◌, get_or, length}
use Rattle.def_kinds.specs.Kinds as Kinds
use Rattle.def_effects.specs.declared.Place.{Place}
use Rattle.def_effects.specs.declared.AliasingDiagnostic.{AliasingDiagnostic}
use Rattle.def_effects.specs.Effects.{AliasingEffect, Freeze, Mutate, MutateConditionally, MutateTransitive, MutateTransitiveConditionally, Capture, Alias, MaybeAlias, Assign, Create, CreateFrom, ImmutableCapture, CreateFunction, MutateFrozen, MutateGlobal, Impure, Render}
use Rattle.lent_tables.specs.declared.Table.{Table}
use Rattle.lent_tables.specs.Words.{field, put_field, copied_words, place_in, put_place, places_in, put_places}
use Rattle.lent_effects.specs.declared.AliasingEffect.{AliasingEffect as Head}
use Rattle.lent_layout.specs.Layout.{one_run}

-- the words of one record, in their order
-- a destination is the second place, any other the first
abbrev pub code : ℕ
code = 0

abbrev pub first : ℕ
first = 1

abbrev pub second : ℕ
second = 6

abbrev pub kind : ℕ
kind = 11

abbrev pub reason : ℕ
reason = 12

abbrev pub mutation : ℕ
mutation = 13

abbrev pub function : ℕ
function = 14

abbrev pub identity : ℕ
identity = 15

abbrev pub instance : ℕ
instance = 16

abbrev pub captures : ℕ
captures = 17

-- a count at word w and as many places after it
unfoldable pub counted_places : Table → List ℕ → ℕ → ℕ → List Place
counted_places t c i w = places_in t c i (w + 1) 0 (field t c i w)

-- the slice with the count and the captures of record i copied into it: 81 words
-- the record may change while they are gone through
abbrev pub copied_captures : Table → List ℕ → ℕ → List ℕ → List ℕ
copied_captures t c i ws = copied_words t c i captures one_run.width ws 0

-- the places of such a slice
abbrev pub captures_of : List ℕ → List Place
captures_of ws = counted_places one_run ws 0 0

-- the effect that a head and captures make
-- all but CreateFunction have no captures
unfoldable pub effect_with : Head → List Place → AliasingEffect
effect_with (Head.Freeze p r) cs = Freeze p r
effect_with (Head.Mutate p r) cs = Mutate p r
effect_with (Head.MutateConditionally p) cs = MutateConditionally p
effect_with (Head.MutateTransitive p) cs = MutateTransitive p
effect_with (Head.MutateTransitiveConditionally p) cs = MutateTransitiveConditionally p
effect_with (Head.Capture f i) cs = Capture f i
effect_with (Head.Alias f i) cs = Alias f i
effect_with (Head.MaybeAlias f i) cs = MaybeAlias f i
effect_with (Head.Assign f i) cs = Assign f i
effect_with (Head.Create i k r) cs = Create i k r
effect_with (Head.CreateFrom f i) cs = CreateFrom f i
effect_with (Head.ImmutableCapture f i) cs = ImmutableCapture f i
effect_with (Head.CreateFunction f i) cs = CreateFunction cs f i
effect_with (Head.MutateFrozen p d) cs = MutateFrozen p d
effect_with (Head.MutateGlobal p d) cs = MutateGlobal p d
effect_with (Head.Impure p d) cs = Impure p d
effect_with (Head.Render p) cs = Render p

module _ (t : Table) (c : List ℕ) (i : ℕ) where
  -- the diagnostic of a record
  -- "captures and both diagnostic numbers in the records"
  abbrev pub diagnostic : AliasingDiagnostic
  diagnostic = record { identity = field t c i identity; instance = field t c i instance }

  -- a head for each code, in order
  -- an Apply is refused, so what stands at 12 does not matter
  unfoldable pub heads : List Head
  heads =
      Head.Freeze (place_in t c i first) (field t c i reason)
      ∷ Head.Mutate (place_in t c i first) (field t c i mutation)
      ∷ Head.MutateConditionally (place_in t c i first)
      ∷ Head.MutateTransitive (place_in t c i first)
      ∷ Head.MutateTransitiveConditionally (place_in t c i first)
      ∷ Head.Capture (place_in t c i first) (place_in t c i second)
      ∷ Head.Alias (place_in t c i first) (place_in t c i second)
      ∷ Head.MaybeAlias (place_in t c i first) (place_in t c i second)
      ∷ Head.Assign (place_in t c i first) (place_in t c i second)
      ∷ Head.Create (place_in t c i second) (Kinds.kind_at (field t c i kind)) (field t c i reason)
      ∷ Head.CreateFrom (place_in t c i first) (place_in t c i second)
      ∷ Head.ImmutableCapture (place_in t c i first) (place_in t c i second)
      ∷ Head.Render (place_in t c i first)
      ∷ Head.CreateFunction (field t c i function) (place_in t c i second)
      ∷ Head.MutateFrozen (place_in t c i first) diagnostic
      ∷ Head.MutateGlobal (place_in t c i first) diagnostic
      ∷ Head.Impure (place_in t c i first) diagnostic
      ∷ []

  -- the head of record i; past the last code it is a Render
  -- "code (order of `AliasingEffect`, Freeze 0, Apply 12, Render 17)"
  unfoldable pub head_in : Head
  head_in = get_or heads (field t c i code) (Head.Render (place_in t c i first))

  -- the effect of record i
  -- any words are read; what is no effect is refused before it is used
  unfoldable pub effect_in : AliasingEffect
  effect_in = effect_with head_in (counted_places t c i captures)

module _ (t : Table) (c : List ℕ) (i : ℕ) where
  -- the list with a code written as record i
  abbrev pub coded : ℕ → List ℕ
  coded n = put_field t c i code n

  -- with a code and a place
  abbrev pub one_place : ℕ → Place → List ℕ
  one_place n p = put_place t (coded n) i first p

  -- with a code and two places
  abbrev pub two_places : ℕ → Place → Place → List ℕ
  two_places n f into = put_place t (one_place n f) i second into

  -- with a code, a place and a diagnostic
  -- both its numbers stand in the record
  abbrev pub reported : ℕ → Place → AliasingDiagnostic → List ℕ
  reported n p d = put_field t (put_field t (one_place n p) i identity d.identity) i instance d.instance

  -- the list with an effect written as record i
  -- words that it has no use for are not written: the record was zero
  unfoldable pub put_effect : AliasingEffect → List ℕ
  put_effect (Freeze p r) = put_field t (one_place 0 p) i reason r
  put_effect (Mutate p r) = put_field t (one_place 1 p) i mutation r
  put_effect (MutateConditionally p) = one_place 2 p
  put_effect (MutateTransitive p) = one_place 3 p
  put_effect (MutateTransitiveConditionally p) = one_place 4 p
  put_effect (Capture f into) = two_places 5 f into
  put_effect (Alias f into) = two_places 6 f into
  put_effect (MaybeAlias f into) = two_places 7 f into
  put_effect (Assign f into) = two_places 8 f into
  put_effect (Create into k r) = put_field t (put_field t (put_place t (coded 9) i second into) i kind (Kinds.code_of k)) i reason r
  put_effect (CreateFrom f into) = two_places 10 f into
  put_effect (ImmutableCapture f into) = two_places 11 f into
  put_effect (CreateFunction cs f into) =
      put_places t (put_field t (put_field t (put_place t (coded 13) i second into) i function f) i captures (length cs)) i (captures + 1) 0 cs
  put_effect (MutateFrozen p d) = reported 14 p d
  put_effect (MutateGlobal p d) = reported 15 p d
  put_effect (Impure p d) = reported 16 p d
  put_effect (Render p) = one_place 17 p
