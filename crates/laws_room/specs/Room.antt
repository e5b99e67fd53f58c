-- How much room an instruction can need among the interned effects, told from the keys of its candidates. Assumes nothing: these are
-- definitions.
use Rattle.std.specs.Prelude.{ℕ, suc, ◌+◌, ◌*◌, List, [], ◌∷◌, eqb, ltb, length}
use Rattle.base_tests.specs.Tests.{ite}
use Rattle.def_effects.specs.Effects.{AliasingEffect}
use Rattle.def_effects.specs.Keys.{EffectKey, effect_key}

-- a record for an effect, and one for each of its captures
abbrev pub size : EffectKey → ℕ
size k = suc (length k.captures)

-- how many records interned effects take
unfoldable pub records : List AliasingEffect → ℕ
records [] = 0
records (e ∷ es) = suc (length (effect_key e).captures) + records es

-- how many effects one of that code can derive, and they in turn; captures apart
-- a mutation a report; Capture and Alias a MaybeAlias, and that an ImmutableCapture; MaybeAlias, Assign and CreateFrom an ImmutableCapture
abbrev pub derives : ℕ → ℕ
derives c = ite (eqb c 0) 0 (ite (ltb c 5) 1 (ite (ltb c 7) 2 (ite (ltb c 9) 1 (ite (eqb c 10) 1 0))))

-- what is interned besides the effect itself: "A derived effect goes through the same step as a candidate"
-- CreateFunction derives a Capture for each capture, and each comes to 3
abbrev pub later : EffectKey → ℕ
later k = derives k.code + 3 * length k.captures

-- the most that the step of an effect with that key interns
abbrev pub need : EffectKey → ℕ
need k = size k + later k

-- the most that an instruction with these candidates interns
unfoldable pub needs : List AliasingEffect → ℕ
needs [] = 0
needs (e ∷ es) = need (effect_key e) + needs es
