-- The key of an effect: `effect_key` of the Rust. Assumes nothing: these are definitions.
use Rattle.std.specs.Prelude.{ℕ, Bool, true, false, ◌&&◌, List, [], ◌∷◌, ◌++◌, eqb, Option, None, Some}
use Rattle.def_kinds.specs.Kinds as Kinds
use Rattle.def_effects.specs.declared.Place.{Place}
use Rattle.def_effects.specs.Places.{identifiers}
use Rattle.def_effects.specs.Effects.{AliasingEffect, Freeze, Mutate, MutateConditionally, MutateTransitive, MutateTransitiveConditionally, Capture, Alias, MaybeAlias, Assign, Create, CreateFrom, ImmutableCapture, CreateFunction, MutateFrozen, MutateGlobal, Impure, Render, code_of}

-- code; identifier that is no destination; destination; kind, reason; function; identity of the diagnostic; identifiers of the captures.
-- What a key does not hold is absent or 0.
pub record EffectKey : Type 0 where
  pub code : ℕ
  pub from : Option ℕ
  pub into : Option ℕ
  pub kind : ℕ
  pub reason : ℕ
  pub function : Option ℕ
  pub identity : ℕ
  pub captures : List ℕ

-- the synthetic keys of Assign
abbrev pub AssignFrozen : ℕ
AssignFrozen = 18

abbrev pub AssignCopy : ℕ
AssignCopy = 19

abbrev pub one : ℕ → Place → ℕ → ℕ → EffectKey
one c p r d = record { code = c; from = Some p.identifier; into = None; kind = 0; reason = r; function = None; identity = d; captures = [] }

abbrev pub two : ℕ → Place → Place → EffectKey
two c f i = record { code = c; from = Some f.identifier; into = Some i.identifier; kind = 0; reason = 0; function = None; identity = 0; captures = [] }

-- Not in the key: Mutate's reason, and the diagnostic of Impure.
abbrev pub effect_key : AliasingEffect → EffectKey
effect_key (Freeze p r) = one 0 p r 0
effect_key (Mutate p r) = one 1 p 0 0
effect_key (MutateConditionally p) = one 2 p 0 0
effect_key (MutateTransitive p) = one 3 p 0 0
effect_key (MutateTransitiveConditionally p) = one 4 p 0 0
effect_key (Capture f i) = two 5 f i
effect_key (Alias f i) = two 6 f i
effect_key (MaybeAlias f i) = two 7 f i
effect_key (Assign f i) = two 8 f i
effect_key (Create i k r) = record { code = 9; from = None; into = Some i.identifier; kind = Kinds.code_of k; reason = r; function = None; identity = 0; captures = [] }
effect_key (CreateFrom f i) = two 10 f i
effect_key (ImmutableCapture f i) = two 11 f i
effect_key (CreateFunction cs f i) = record { code = 13; from = None; into = Some i.identifier; kind = 0; reason = 0; function = Some f; identity = 0; captures = identifiers cs }
effect_key (MutateFrozen p d) = one 14 p 0 d.identity
effect_key (MutateGlobal p d) = one 15 p 0 d.identity
effect_key (Impure p d) = one 16 p 0 0
effect_key (Render p) = one 17 p 0 0

abbrev pub listed : Option ℕ → List ℕ
listed None = []
listed (Some n) = n ∷ []

-- the identifiers that an effect names, and the function that it creates: both are part of its key
abbrev pub named_by : EffectKey → List ℕ
named_by k = listed k.from ++ (listed k.into ++ k.captures)

abbrev pub names : AliasingEffect → List ℕ
names e = named_by (effect_key e)

abbrev pub creates : AliasingEffect → List ℕ
creates e = listed (effect_key e).function

-- ---- equal keys

unfoldable pub eq_option : Option ℕ → Option ℕ → Bool
eq_option None None = true
eq_option None (Some b) = false
eq_option (Some a) None = false
eq_option (Some a) (Some b) = eqb a b

unfoldable pub eq_list : List ℕ → List ℕ → Bool
eq_list [] [] = true
eq_list [] (y ∷ ys) = false
eq_list (x ∷ xs) [] = false
eq_list (x ∷ xs) (y ∷ ys) = eqb x y && eq_list xs ys

unfoldable pub eq_key : EffectKey → EffectKey → Bool
eq_key a b =
    eqb a.code b.code && (eq_option a.from b.from && (eq_option a.into b.into && (eqb a.kind b.kind && (eqb a.reason b.reason
    && (eq_option a.function b.function && (eqb a.identity b.identity && eq_list a.captures b.captures))))))
