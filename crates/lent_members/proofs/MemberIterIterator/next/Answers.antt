-- `next` of the iterator is safe: a member is below 1,024. Assumes nothing.
use Rattle.std.proofs.Common.{arith}
use Rattle.lent_members.proofs.Laws.Members.{some_from}
use Rattle.lent_members.proofs.MemberIterIterator.next.Goals as goal

pub overflow_add-self : goal.overflow_add-self
overflow_add-self c = let m = some_from _ _ _ _ c.next_member.ensures _ c.in_ok-v.was in let l = m.1 in omega arith
