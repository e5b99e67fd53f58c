-- `lent_sets::marked_word` meets its contract: a word of a number is a word of the list, and bit 0 lies in the first. Assumes nothing.
use Rattle.std.proofs.Common.{refl}
use mathlib.Core.Path.{ap, ◌∙◌}
use lib.ListN.{get_or}
use Prim.Native.Nat.{ℕ}
use Rattle.lent_sets.proofs.Laws.Code.{mark_first, mark_later, mark_past}
use Rattle.lent_sets.proofs.marked_word.Goals as goal

pub returns-then-w-eq0 : goal.returns-then-w-eq0
returns-then-w-eq0 c =
    let a = c.args in
    let g = c.get_or-x in
    mark_first a.acc.now a.w g.result c.if-w-eq0.true (g.ensures ∙ ap (λ (k : ℕ). get_or a.acc.now k 0) (refl ∙ c.if-w-eq0.true)) g.type_inv

pub returns-then-w-lt16 : goal.returns-then-w-lt16
returns-then-w-lt16 c =
    let a = c.args in
    let g = c.get_or-x in
    mark_later a.acc.now a.w g.result c.if-w-eq0.false c.if-w-lt16.true (g.ensures ∙ ap (λ (k : ℕ). get_or a.acc.now k 0) refl) g.type_inv

pub returns : goal.returns
returns c =
    let a = c.args in
    mark_past a.acc.now a.w c.if-w-lt16.false
