use Rattle.std.proofs.Common.{refl, ◌∙◌}
use Rattle.std.proofs.lemmas.Bool.{le-ltb}
use Rattle.lent_work.proofs.Laws.Mark.{unmarked_past, marked_in}
use Rattle.lent_work.proofs.is_marked.Goals as goal

pub returns-else-i-lt512 : goal.returns-else-i-lt512
returns-else-i-lt512 c = le-ltb _ _ c.if-i-lt512.false ∙ unmarked_past _ _ c.if-i-lt512.false

pub returns-then-i-lt512 : goal.returns-then-i-lt512
returns-then-i-lt512 c = marked_in _ _ _ c.if-i-lt512.true refl
