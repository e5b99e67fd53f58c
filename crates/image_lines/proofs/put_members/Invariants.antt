use mathlib.Core.Path.{◌≡◌}
use mathlib.Core.List.{map}
use Rattle.std.specs.Prelude.{Some}
use Rattle.base_sets.specs.Members.{values_of}
use Rattle.lent_sets.specs.Rows.{set_at}
use Rattle.lent_members.specs.Members.{rest}
use Rattle.def_image.specs.Listing.{or_absent}
use Rattle.image_text.specs.Texts.{columns, cursor_of, Kept, put_all}
use Rattle.image_lines.proofs.put_members.Given as goal

abbrev pub invariant-loop-m : goal.invariant-loop-m
invariant-loop-m l =
    (goal.iterator-loop-m).can_next l.m-iterator
    × (goal.iterator-loop-m).is_finite l.m-iterator
    × Kept l.fn.text l.text
    × (put_all (columns (map Some (rest l.m-iterator))) (cursor_of l.text) ≡ put_all (columns (or_absent (values_of (set_at l.sets l.i)))) (cursor_of l.fn.text))
