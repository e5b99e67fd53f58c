-- The label of an access. Assumes nothing: these are definitions.
use Rattle.std.specs.Prelude.{true, false}
use Rattle.def_effects.specs.declared.Span.{Span}
use Rattle.def_effects.specs.Places.{no_span, eq_span}

-- "the access span unless it equals the place's"
abbrev pub access_label : Span → Span → Span
access_label access own = elim (eq_span access own) [ true ↦ no_span | false ↦ access ]
