use mathlib.Core.Path.{refl, sym, ◌∙◌}
use native.Mathlib.Omega.{arith}
use Rattle.image_text.proofs.Laws.Loops.{set_absent, set_is}
use Rattle.image_pieces.proofs.Laws.Suffices.{set_suffices}
use Rattle.std.proofs.Common.{rules}
use Rattle.image_text.proofs.Laws.Text.{given_back}
use Rattle.image_lines.proofs.put_set_line.Goals as goal

pub returns-then-not-is_defined : goal.returns-then-not-is_defined
returns-then-not-is_defined c = record { bytes = set_absent _ _ _ (sym c.is_defined.ensures ∙ c.if-not-is_defined.true); suffices = set_suffices _ _ _ (omega arith) refl }

pub returns : goal.returns
returns c =
    record { bytes = given_back c.put_newline.new.self _ _ (search rules) (set_is _ _ _ _ _ _ _ (sym c.is_defined.ensures ∙ c.if-not-is_defined.false) c.put_bytes.ensures.written c.put_number.ensures.written c.put_members.ensures.written c.put_newline.ensures.written); suffices = set_suffices _ _ _ (omega arith) refl }
