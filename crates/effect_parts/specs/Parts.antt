-- What the parts of a step do to what goes by value, and the worlds that they go alike in. Assumes nothing: these are definitions.
use Rattle.std.specs.Prelude.{ℕ, List}
use Rattle.def_effects.specs.declared.Session.{Session}
use Rattle.def_transfer.specs.Tables.{World}
use Rattle.lent_layout.specs.Context.{ContextWords, held}
use Rattle.lent_work.specs.declared.Run.{Run}
use Rattle.lent_world.specs.declared.World.{World as Lent}
use Rattle.lent_world.specs.World.{lent, world}

-- what an instruction has by value, with another session
abbrev pub with_session : Session → Run → Run
with_session s r = record { session = s; flag = r.flag; marks = r.marks; listed = r.listed; freeze = r.freeze; entries = r.entries }

-- the world of what a part is lent, but with any context and any output list
-- a part that neither reads nor writes these does the same beside all of them
abbrev pub beside : ContextWords → List ℕ → Lent → World lent
beside c os w = world w.values.now w.sets.now c os w.run

-- the same, but with its own context
abbrev pub listing : List ℕ → Lent → World lent
listing os w = beside (held w.context.now) os w

-- the world of what a part is lent, but with any values, any sets and any output list
-- a part that works on the context alone does the same among all of them
abbrev pub among : List ℕ → List ℕ → List ℕ → Lent → World lent
among vs ss os w = world vs ss (held w.context.now) os w.run
