-- What a part of an instruction promises: what it does to the world that it is lent. Assumes nothing: these are definitions.
use Rattle.std.specs.Prelude.{◌≡◌, Result, Ok, Err}
use Rattle.def_transfer.specs.Monad.{Res, ok, refused, M}
use Rattle.def_transfer.specs.Tables.{World}
use Rattle.def_refusals.specs.declared.Refusal.{Refusal}
use Rattle.def_refusals.specs.Verdicts.{number_of}
use Rattle.lent_layout.specs.Context.{held, Same, SameSlices}
use Rattle.lent_world.specs.declared.World.{World as Lent}
use Rattle.lent_world.specs.World.{lent, world}

-- the world of the definition in what a part is lent: what the slices hold, and what goes by value
abbrev pub seen : Lent → World lent
seen w = world w.values.now w.sets.now (held w.context.now) w.output.now w.run

-- the slices are the same: what is written into them the host finds there
abbrev pub Kept : Lent → Lent → Type 0
Kept v w =
    Same v.values w.values × Same v.sets w.sets × Same v.output w.output × (v.context.ghost_name ≡ w.context.ghost_name) × SameSlices v.context.now w.context.now

-- nothing is written into the values, the sets and the output list
abbrev pub Unwritten : Lent → Lent → Type 0
Unwritten v w = (v.values.now ≡ w.values.now) × (v.sets.now ≡ w.sets.now) × (v.output.now ≡ w.output.now)

-- nor into the context
abbrev pub Untouched : Lent → Lent → Type 0
Untouched v w = Unwritten v w × (held v.context.now ≡ held w.context.now)

-- what a part answers, as what a computation comes to: it goes on with the answer, or is refused with the same number, in the world as it is left
abbrev pub comes : {A : Type 0} → Result A Refusal → World lent → Res (World lent) A
comes (Ok a) w = ok a w
comes (Err refusal) w = refused (number_of refusal) w

-- the part does what a computation of the definition does: from the world before it to the world after it, with the same answer or the same refusal
abbrev pub Does : {A : Type 0} → M (World lent) A → Lent → Lent → Result A Refusal → Type 0
Does m v w r = m (seen v) ≡ comes r (seen w)
