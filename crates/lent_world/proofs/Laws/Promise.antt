-- Slices stay the same from one part of an instruction to the next. Assumes nothing.
use Rattle.std.specs.Prelude.{refl}
use Rattle.std.proofs.Common.{◌∙◌}
use Rattle.lent_layout.specs.Context.{SameSlices}
use Rattle.lent_layout.specs.declared.Context.{Context}
use Rattle.lent_world.specs.declared.World.{World as Lent}
use Rattle.lent_world.specs.Promise.{Kept}

-- ---- of a context

pub slices_start : (u : Context) → SameSlices u u
slices_start u = ((refl, refl), (refl, refl), (refl, refl), (refl, refl), (refl, refl), (refl, refl), (refl, refl), (refl, refl), (refl, refl))

pub slices_then : (u v w : Context) → SameSlices u v → SameSlices v w → SameSlices u w
slices_then u v w h g = (
  (h.0.0 ∙ g.0.0, h.0.1 ∙ g.0.1),
  (h.1.0 ∙ g.1.0, h.1.1 ∙ g.1.1),
  (h.2.0 ∙ g.2.0, h.2.1 ∙ g.2.1),
  (h.3.0 ∙ g.3.0, h.3.1 ∙ g.3.1),
  (h.4.0 ∙ g.4.0, h.4.1 ∙ g.4.1),
  (h.5.0 ∙ g.5.0, h.5.1 ∙ g.5.1),
  (h.6.0 ∙ g.6.0, h.6.1 ∙ g.6.1),
  (h.7.0 ∙ g.7.0, h.7.1 ∙ g.7.1),
  (h.8.0 ∙ g.8.0, h.8.1 ∙ g.8.1),
)

-- ---- of a world

pub kept_start : (u : Lent) → Kept u u
kept_start u = ((refl, refl), (refl, refl), (refl, refl), refl, slices_start u.context.now)

pub kept_then : (u v w : Lent) → Kept u v → Kept v w → Kept u w
kept_then u v w h g =
    ((h.0.0 ∙ g.0.0, h.0.1 ∙ g.0.1), (h.1.0 ∙ g.1.0, h.1.1 ∙ g.1.1), (h.2.0 ∙ g.2.0, h.2.1 ∙ g.2.1), h.3 ∙ g.3, slices_then u.context.now v.context.now w.context.now h.4 g.4)
