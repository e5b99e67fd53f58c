use native.Mathlib.Omega.{arith}
use mathlib.Core.Path.{refl}
use Rattle.call_room.proofs.Laws.Room.{derives_few, need_is}
use Rattle.call_room.proofs.need_of.Goals as goal

pub overflow_add-result : goal.overflow_add-result
overflow_add-result c = (let z = derives_few c.code_in-code.result in let e = c.derived.ensures in omega arith)

pub overflow_mul-result : goal.overflow_mul-result
overflow_mul-result c = omega arith

pub overflow_add-result-2 : goal.overflow_add-result-2
overflow_add-result-2 c = (let z = derives_few c.code_in-code.result in let e = c.derived.ensures in omega arith)

pub returns : goal.returns
returns c = need_is _ _ _ _ _ _ _ c.code_in-code.ensures c.captures_of-n.ensures c.derived.ensures refl refl
