-- Which captures an interned effect has. Assumes nothing: these are definitions.
use Rattle.std.specs.Prelude.{ℕ, List, Option, None, Some}
use Rattle.def_effects.specs.declared.Place.{Place}
use Rattle.lent_effects.specs.Records.{counted_places, captures}
use Rattle.lent_layout.specs.Layout as Layout
use Rattle.lent_layout.specs.Context.{ContextWords}

-- the captures of the effect that stands for another: those of the table's record where it was found, else those that were given
-- "The first effect under a key .. is used ever after, spans included"
abbrev pub chosen : ContextWords → Option ℕ → List Place → List Place
chosen c None cs = cs
chosen c (Some k) cs = counted_places Layout.interned c.effects k captures
