-- Spans and places. Assumes nothing: these are definitions.
use Rattle.std.specs.Prelude.{ℕ, Bool, ◌&&◌, List, [], ◌∷◌, eqb}
use Rattle.def_effects.specs.declared.Span.{Span}
use Rattle.def_effects.specs.declared.Place.{Place}

-- "no span is FFFFFFFF (hexadecimal) twice"
abbrev pub no_span : Span
no_span = record { start = 4294967295; end = 4294967295 }

unfoldable pub eq_span : Span → Span → Bool
eq_span a b = eqb a.start b.start && eqb a.end b.end

-- "`Effect` in declared order from 0": the two that the transfer looks at
abbrev pub Read : ℕ
Read = 2

abbrev pub Capture : ℕ
Capture = 3

-- the identifiers of some places
abbrev pub identifiers : List Place → List ℕ
identifiers [] = []
identifiers (p ∷ ps) = p.identifier ∷ identifiers ps
