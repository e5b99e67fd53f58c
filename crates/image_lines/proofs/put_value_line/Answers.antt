-- `image_lines::put_value_line` meets its contract: a value that has an entry has a line. Assumes nothing.
use mathlib.Core.Path.{ap, ◌∙◌}
use mathlib.Core.List.{[], ◌∷◌}
use Rattle.std.specs.Prelude.{Some}
use Rattle.def_image.specs.Listing.{ascii, line, value_line}
use Rattle.image_text.specs.Texts.{cursor_of, put_all}
use Rattle.image_text.proofs.Laws.Lines.{value_absent, value_present}
use Rattle.image_lines.proofs.put_value_line.Goals as goal

pub returns-in_default-clause-written : goal.returns-in_default-clause-written
returns-in_default-clause-written c = value_absent _ _ _ _ c.value_at.ensures c.in_default.is

pub returns-in-Some-clause-written : goal.returns-in-Some-clause-written
unfolding ascii value_line
returns-in-Some-clause-written c =
    value_present _ _ _ _ _ _ c.value_at.ensures c.in-Some.is (c.put_line.ensures.written ∙ ap (λ k. put_all (line (ascii "V") (Some c.args.v ∷ Some k ∷ Some c.in-Some.a.reason ∷ [])) (cursor_of c.args.text.now)) c.kind_word.ensures)
