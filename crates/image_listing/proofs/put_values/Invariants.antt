use mathlib.Core.Path.{◌≡◌}
use Prim.Native.Nat.{◌-◌}
use Rattle.image_text.specs.Texts.{cursor_of, Kept, put_all}
use Rattle.def_image.specs.Listing.{lines_from, value_line}
use Rattle.lent_values.specs.Cells.{value_at}
use Rattle.image_listing.proofs.put_values.Given as goal

abbrev pub invariant-loop-v : goal.invariant-loop-v
invariant-loop-v l = Kept l.initial.text l.text × (put_all (lines_from (l.to - l.v) l.v (λ k. value_line k (value_at l.values k))) (cursor_of l.text) ≡ put_all (lines_from (l.to - l.initial.v) l.initial.v (λ k. value_line k (value_at l.values k))) (cursor_of l.initial.text))
