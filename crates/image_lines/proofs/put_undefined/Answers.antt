use native.Mathlib.Omega.{arith}
use mathlib.Core.Path.{ap, ◌∙◌}
use mathlib.Core.List.{[], ◌∷◌}
use Rattle.def_image.specs.Listing.{ascii, line}
use Rattle.image_text.specs.Texts.{cursor, put_all}
use Rattle.image_pieces.proofs.Laws.Suffices.{end_suffices}
use Rattle.std.proofs.Common.{rules}
use Rattle.image_text.proofs.Laws.Text.{given_back}
use Rattle.image_lines.proofs.put_undefined.Goals as goal

pub returns : goal.returns
unfolding ascii
returns c =
    record { bytes = given_back c.put_line.new.self _ _ (search rules) (c.put_line.ensures.written ∙ ap (λ x. put_all (line (ascii "U") (x ∷ [])) (cursor 0 c.args.buffer.now)) c.undefined_identifier.ensures); suffices = end_suffices c.args.access (omega arith) }
