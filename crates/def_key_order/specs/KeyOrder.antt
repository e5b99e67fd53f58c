-- The order of the keys of effects: their numbers one after the other, the captures last. Lent tables keep their records in it, so that a key is
-- found by halves and two entries of one key stand side by side. Assumes nothing: these are definitions.
use Rattle.std.specs.Prelude.{ℕ, suc, List, ◌∷◌, Option, None, Some}
use Rattle.std.specs.declared.cmp.Ordering.{Ordering}
use Rattle.base_search.specs.Comparings.{compare_lists}
use Rattle.def_effects.specs.Keys.{EffectKey}

-- a number that may be absent as one number: absent before all others
abbrev pub optional : Option ℕ → ℕ
optional None = 0
optional (Some n) = suc n

-- the numbers of a key, in the order of its parts
abbrev pub numbers_of : EffectKey → List ℕ
numbers_of k = k.code ∷ optional k.from ∷ optional k.into ∷ k.kind ∷ k.reason ∷ optional k.function ∷ k.identity ∷ k.captures

-- which of two keys comes first
unfoldable pub compare_keys : EffectKey → EffectKey → Ordering
compare_keys a b = compare_lists (numbers_of a) (numbers_of b)
