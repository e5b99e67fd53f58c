use mathlib.Core.Path.{◌≡◌}
use lib.ListN.{drop}
use Rattle.image_text.specs.Texts.{cursor_of, Kept, put_all}
use Rattle.image_text.proofs.Text.put_bytes.Given as goal

abbrev pub invariant-loop-x : goal.invariant-loop-x
invariant-loop-x l = Kept l.initial.self l.self × (put_all (drop l.x-index l.bytes) (cursor_of l.self) ≡ put_all l.bytes (cursor_of l.initial.self))
