use mathlib.Core.Path.{sym, ap}
use Rattle.def_kinds.specs.Kinds.{kind_at}
use Rattle.def_kinds.proofs.Laws.Kinds.{kind_at_rest}
use Rattle.def_kinds.proofs.ValueKind.of_code.Goals as goal

pub returns-in-0 : goal.returns-in-0
unfolding kind_at
returns-in-0 c = sym (ap kind_at c.in-0.is)

pub returns-in-1 : goal.returns-in-1
unfolding kind_at
returns-in-1 c = sym (ap kind_at c.in-1.is)

pub returns-in-2 : goal.returns-in-2
unfolding kind_at
returns-in-2 c = sym (ap kind_at c.in-2.is)

pub returns-in-4 : goal.returns-in-4
unfolding kind_at
returns-in-4 c = sym (ap kind_at c.in-4.is)

pub returns-in-5 : goal.returns-in-5
unfolding kind_at
returns-in-5 c = sym (ap kind_at c.in-5.is)

pub returns-in_default : goal.returns-in_default
returns-in_default c = sym (kind_at_rest _ c.in_default.in_default-own.rest.0.0.0.0.1 c.in_default.in_default-own.rest.0.0.0.1 c.in_default.in_default-own.rest.0.0.1 c.in_default.in_default-own.rest.0.1 c.in_default.in_default-own.rest.1)
