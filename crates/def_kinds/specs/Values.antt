-- Abstract values: a kind and a set of reasons, their join and its order (document 01, modules 1 and 2). Assumes nothing: these are definitions.
use Rattle.std.specs.Prelude.{ℕ, Bool, ◌&&◌, eqb, Option, None, Some}
use Rattle.def_kinds.specs.declared.ValueKind.{ValueKind}
use Rattle.def_kinds.specs.declared.ValueKind.TheVariants.{Mutable}
use Rattle.def_kinds.specs.declared.AbstractValue.{AbstractValue}
use Rattle.def_kinds.specs.Kinds.{code_of, join_kind}
use Rattle.def_kinds.specs.Reasons.{join_reasons, single, Other}

abbrev pub mk : ValueKind → ℕ → AbstractValue
mk k s = record { kind = k; reason = s }

-- "with none, Mutable {Other}": what is known of a value of which nothing is known
abbrev pub default : AbstractValue
default = mk Mutable (single Other)

abbrev pub or_default : Option AbstractValue → AbstractValue
or_default None = default
or_default (Some a) = a

-- "kinds by the table below, reasons by union"
unfoldable pub join : AbstractValue → AbstractValue → AbstractValue
join a b = mk (join_kind a.kind b.kind) (join_reasons a.reason b.reason)

-- "its reasons .. contain the other's"
unfoldable pub contains : AbstractValue → AbstractValue → Bool
contains a b = eqb (join_reasons a.reason b.reason) a.reason

-- "joining the other's kind onto its own leaves its own, and its reasons .. contain the other's"
unfoldable pub above : AbstractValue → AbstractValue → Bool
above a b = eqb (code_of (join_kind a.kind b.kind)) (code_of a.kind) && contains a b
