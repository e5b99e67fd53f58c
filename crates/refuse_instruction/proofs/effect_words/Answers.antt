use Rattle.std.proofs.Common.{refl}
use native.Mathlib.Omega.{arith}
use Rattle.refuse_instruction.proofs.Laws.Use.{no_captures}
use Rattle.refuse_instruction.proofs.Laws.Split.{words_split, split_from}
use Rattle.refuse_instruction.proofs.effect_words.Goals as goal

pub returns : goal.returns
returns c =
    words_split c.args.t _ c.args.i _ _ _ _ _ (omega arith) (omega arith) (no_captures _ c.if-by-eq13.false) _ _ _ _ c.head_words-head.ensures (split_from c.args.t c.args.i _ refl (omega arith)) c.stray_from.ensures c.lower.ensures
